-- A kind of session is a set of functions on values.
use Rattle.std.specs.Prelude.{◌≡◌, ◌≢◌, ℕ, Bool, List, [], ◌∷◌, Option, Some, None}
use Rattle.pgw_frames.specs.declared.frame.Frame.{Frame}
use Rattle.proxy_outside.specs.Rules.{Rules, IsAnswer}
use Rattle.pgw_messages.specs.declared.params.Pair.{Pair}
use Rattle.pgw_messages.specs.Tags as tag
use Rattle.session_model.specs.declared.transfer.Dump.{Dump}

pub record Kind (S C R : Type 0) : Type 0 where
  pub begins : List Pair → S × List Frame
  pub asks : S → Frame → Option C
  pub tells : S → Frame → Option R → S × List Frame
  pub dumps : S → Dump
  pub quiet : S → Bool  -- nothing is under way
  pub due : S → ℕ  -- how many ReadyForQuery are still to come for what was told
  pub status : S → ℕ  -- the body of a ReadyForQuery
  pub token : S → List ℕ

-- the only ReadyForQuery stands last
abbrev pub EndsReady : List Frame → Type 0
EndsReady [] = ⊥
EndsReady (f ∷ []) = f.tag ≡ tag.ready_for_query
EndsReady (f ∷ g ∷ fs) = (f.tag ≢ tag.ready_for_query) × EndsReady (g ∷ fs)

-- there is an answer exactly where something is asked, and it is one that the store may give
abbrev pub Answers : {T C R : Type 0} → Rules T C R → Option C → Option R → Type 0
Answers rules None None = Unit {0}
Answers rules (Some c) (Some r) = IsAnswer rules c r
Answers rules None (Some r) = ⊥
Answers rules (Some c) None = ⊥

-- a message with the answer that it was told with
pub record Telling (R : Type 0) : Type 0 where
  pub frame : Frame
  pub answer : Option R

abbrev pub told_all : {S C R : Type 0} → Kind S C R → S → List (Telling R) → S
told_all k s [] = s
told_all k s (t ∷ ts) = told_all k (k.tells s t.frame t.answer).0 ts

-- the session was begun with these parameters
abbrev pub WasBegun : {S C R : Type 0} → Kind S C R → List Pair → S → Type 0
WasBegun {S} {C} {R} k p s = (ts : List (Telling R)) × (s ≡ told_all k (k.begins p).0 ts)
