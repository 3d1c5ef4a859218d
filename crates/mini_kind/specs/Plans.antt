-- A step that may ask the store one command, and goes on with its answer.
use Rattle.std.specs.Prelude.{List, [], ◌∷◌, ◌++◌, Option, Some, None}
use Rattle.pgw_frames.specs.declared.frame.Frame.{Frame}
use Rattle.mini_store.specs.declared.answer.Answer.{Answer}
use Rattle.mini_store.specs.declared.code.SqlCode.{SqlCode}
use Rattle.mini_store.specs.declared.command.StoreCommand.{StoreCommand}
use Rattle.mini_kind.specs.Mini.{Mini}

pub data Plan (A : Type 0) : Type 0 where
  Now : A → Plan A
  Asks : StoreCommand → (Option Answer → A) → Plan A

-- a session after a message, and what it replied
abbrev pub Told : Type 0
Told = Mini × List Frame

-- what a statement or a message comes to: replies, or an error
pub data Outcome : Type 0 where
  Gives : Mini → List Frame → Outcome
  Refuses : Mini → SqlCode → Outcome

abbrev pub refuse : Mini → SqlCode → Plan Outcome
refuse s c = Now (Refuses s c)

abbrev pub gives_one : Mini → Frame → Plan Outcome
gives_one s f = Now (Gives s (f ∷ []))

abbrev pub and_then : {A B : Type 0} → (A → B) → Plan A → Plan B
and_then f (Now x) = Now (f x)
and_then f (Asks c k) = Asks c (λ a. f (k a))

abbrev pub asked : {A : Type 0} → Plan A → Option StoreCommand
asked (Now x) = None
asked (Asks c k) = Some c

-- an answer that wasn't asked for says nothing
abbrev pub with_answer : {A : Type 0} → Plan A → Option Answer → A
with_answer (Now x) a = x
with_answer (Asks c k) a = k a

abbrev pub with_first : List Frame → Told → Told
with_first fs r = (r.0, fs ++ r.1)
