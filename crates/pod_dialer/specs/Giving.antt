-- Bytes that are sent to a pod, and replies that it gives.
use Rattle.std.specs.Prelude.{◌≡◌, ℕ, ◌≤◌, Bool, true, false, List, [], ◌++◌, length, take, drop, Result, Ok, Err}
use Rattle.pgw_frames.specs.Frames.{render}
use Rattle.pgw_frames.specs.declared.frame.Frame.{Frame}
use Rattle.pgw_frames.specs.declared.memory.NoMemory.{NoMemory}
use Rattle.proxy_outside.specs.Rules.{Rules}
use Rattle.session_model.specs.Kind.{Kind}
use Rattle.session_model.specs.Solo.{told, store_after}

-- so many bytes stand at the front of the buffer, and behind the others that were given
abbrev pub Gives : Result ℕ NoMemory → List ℕ → List ℕ → List ℕ → List ℕ → Type 0
Gives (Ok n) got now before after = (n ≤ length before) × (now ≡ got ++ take n after) × (drop n after ≡ drop n before)
Gives (Err e) got now before after = now ≡ got

-- all bytes were sent behind the others, or none
abbrev pub Sends : Bool → List ℕ → List ℕ → List ℕ → Type 0
Sends true sent now bytes = now ≡ sent ++ bytes
Sends false sent now bytes = now ≡ sent

-- nothing went over a half of the link with this number
pub record IsUnused (bytes : List ℕ) (faults number link : ℕ) : Type 0 where
  pub none : bytes ≡ []
  pub well : faults ≡ 0
  pub same : number ≡ link

-- a session was told a message with the store's answer, and replied so
pub record Tells {S T C R : Type 0} (k : Kind S C R) (rules : Rules T C R) (s : S) (t : T) (f : Frame) (now : S) (stands : T → Type 0) (before after : List ℕ) : Type 0 where
  pub session : now ≡ (told k rules s t f).0
  pub store : stands (store_after rules t (k.asks s f))
  pub replies : after ≡ before ++ render (told k rules s t f).1
