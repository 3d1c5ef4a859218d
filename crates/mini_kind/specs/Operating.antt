-- An operation of the store, alone or in a transaction, and the answers that it may have.
use Rattle.std.specs.Prelude.{ℕ, Bool, true, false, not, ◌&&◌, List, [], ◌∷◌, ◌++◌, length, nat_lt, Option, Some, None, if◌then◌else◌}
use Rattle.std.specs.List.{list_all}
use Rattle.sql_text.specs.declared.stmt.ColumnDef.{ColumnDef}
use Rattle.mini_store.specs.declared.answer.Answer.{Answer}
use Rattle.mini_store.specs.declared.answer.Answer.TheVariants as answer
use Rattle.mini_store.specs.declared.answer.PastStep.{PastStep}
use Rattle.mini_store.specs.declared.code.SqlCode.{SqlCode}
use Rattle.mini_store.specs.declared.code.SqlCode.TheVariants as code
use Rattle.mini_store.specs.declared.command.StoreCommand.TheVariants as command
use Rattle.mini_store.specs.declared.datum.Datum.{Datum}
use Rattle.mini_store.specs.declared.op.Op.{Op}
use Rattle.mini_store.specs.declared.op.Op.TheVariants as op
use Rattle.mini_kind.specs.Mini.{Mini, Turn, in_turn}
use Rattle.mini_kind.specs.Plans.{Plan, Asks, Outcome, Refuses, refuse}

-- ---- a transaction

-- it only asks for columns, and isn't kept in a transaction
abbrev pub is_shape : Op → Bool
is_shape (op.Shape t) = true
is_shape o = false

-- the 65th operation of a transaction is one too many
abbrev pub is_full : Op → List PastStep → Bool
is_full o past = not (is_shape o) && not (nat_lt (length past) 64)

abbrev pub added : Op → Answer → Option Turn → Option Turn
added o a None = None
added o a (Some t) = if is_shape o then Some t else Some (record { past = t.past ++ record { op = o; answer = a } ∷ []; failed = t.failed })

-- ---- an operation

-- an answer that is an error; a transaction that would be answered otherwise now is to be tried again
abbrev pub refusal : Bool → Answer → Option SqlCode
refusal in_turn (answer.Bad c) = Some c
refusal in_turn (answer.Conflict n) = Some (if in_turn then code.SerializationFailure else code.ProtocolViolation)
refusal in_turn a = None

abbrev pub came : {X : Type 0} → Mini → Op → (Mini → X → Outcome) → Answer → Option SqlCode → Option X → Outcome
came s o on a (Some c) seen = Refuses s c
came s o on a None None = Refuses s code.ProtocolViolation
came s o on a None (Some x) = on (record s { turn = added o a s.turn }) x

-- the answer that came, or none
abbrev pub took : {X : Type 0} → Mini → Op → (Answer → Option X) → (Mini → X → Outcome) → Option Answer → Outcome
took s o see on None = Refuses s code.ProtocolViolation
took s o see on (Some a) = came s o on a (refusal (in_turn s.turn) a) (see a)

abbrev pub operates_in : {X : Type 0} → Mini → Op → (Answer → Option X) → (Mini → X → Outcome) → Option Turn → Plan Outcome
operates_in s o see on None = Asks (command.Single o) (took s o see on)
operates_in s o see on (Some t) = if is_full o t.past then refuse s code.ProgramLimitExceeded else Asks (command.Try t.past o) (took s o see on)

-- Single outside a transaction, Try inside one; what is meant by the answer leads on
abbrev pub operates : {X : Type 0} → Mini → Op → (Answer → Option X) → (Mini → X → Outcome) → Plan Outcome
operates s o see on = operates_in s o see on s.turn

-- ---- the answers that an operation may have

abbrev pub see_made : Answer → Option (Unit {0})
see_made answer.Made = Some tt
see_made a = None

abbrev pub see_count : Answer → Option ℕ
see_count (answer.Count n) = Some n
see_count a = None

-- 16 columns or values at most
abbrev pub is_narrow : {A : Type 0} → List A → Bool
is_narrow xs = nat_lt (length xs) 17

pub record Table : Type 0 where
  pub columns : List ColumnDef
  pub rows : List (List Datum)

abbrev pub see_rows : Answer → Option Table
see_rows (answer.Rows cs rs) = if is_narrow cs && list_all is_narrow rs then Some (record { columns = cs; rows = rs }) else None
see_rows a = None

abbrev pub see_shape : Answer → Option (List ColumnDef)
see_shape (answer.Shape cs) = if is_narrow cs then Some cs else None
see_shape a = None
