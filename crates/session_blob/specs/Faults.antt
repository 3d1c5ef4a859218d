-- What a fault prints, and which fault of a field is which of a blob.
use Rattle.std.specs.Prelude.{◌≡◌, ℕ, List, ◌++◌, codes, Result, Ok, Err}
use Rattle.std.specs.Fmt.{decimal}
use Rattle.pgw_messages.specs.declared.fault.MsgFault.{MsgFault}
use Rattle.pgw_messages.specs.declared.fault.MsgFault.TheVariants as field
use Rattle.session_blob.specs.declared.fault.BlobFault.{BlobFault}
use Rattle.session_blob.specs.declared.fault.BlobFault.TheVariants.{BadVersion, Short, Trailing, NotCanonical, TooLarge, NoMemory}

abbrev pub fault_text : BlobFault → List ℕ
fault_text (BadVersion version) = codes "unknown blob version: " ++ decimal version
fault_text Short = codes "blob too short"
fault_text Trailing = codes "bytes behind the blob"
fault_text NotCanonical = codes "blob not canonical"
fault_text (TooLarge count) = codes "blob too large: " ++ decimal count
fault_text NoMemory = codes "no memory"

-- an unknown tag stands for another version, and a bad value for a name that is there already
abbrev pub blob_fault : MsgFault → BlobFault
blob_fault (field.UnknownTag version) = BadVersion version
blob_fault field.Short = Short
blob_fault field.Trailing = Trailing
blob_fault field.NotText = NotCanonical
blob_fault field.BadValue = NotCanonical
blob_fault field.NoMemory = NoMemory

-- the answer is what the definition gives, unless memory ran out
abbrev pub Fails : {A : Type 0} → BlobFault → Result A BlobFault → Type 0
Fails NoMemory of = Unit {0}
Fails e of = of ≡ Err e

abbrev pub Gives : {A : Type 0} → Result A BlobFault → Result A BlobFault → Type 0
Gives (Ok x) of = of ≡ Ok x
Gives (Err e) of = Fails e of
