-- A state has one spelling, and a blob is one state's.
use Rattle.std.specs.Prelude.{◌≡◌, ℕ, List, Ok, Err}
use Rattle.pgw_frames.specs.Frames.{IsBytes}
use Rattle.session_blob.specs.Blob.{IsSpelling}
use Rattle.session_blob.specs.Reading.{state_of}
use Rattle.session_blob.specs.declared.state.State.{State}
use Rattle.session_blob.specs.declared.fault.BlobFault.{BlobFault}

-- the bytes of a state are read as that state
abbrev pub StatesAreReadAgain : Type 0
StatesAreReadAgain = (s : State) (b : List ℕ) → IsSpelling s b → state_of b ≡ Ok s

-- bytes that are read as a state are that state's
abbrev pub BlobsAreSpelled : Type 0
BlobsAreSpelled = (s : State) (b : List ℕ) → IsBytes b → state_of b ≡ Ok s → IsSpelling s b

-- bytes with a fault are no state's
abbrev pub RefusedBlobsAreNone : Type 0
RefusedBlobsAreNone = (s : State) (b : List ℕ) (e : BlobFault) → state_of b ≡ Err e → ¬ IsSpelling s b
