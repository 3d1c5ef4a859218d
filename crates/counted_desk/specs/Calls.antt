-- What the calls of a desk tell their callers.
use Rattle.std.specs.Prelude.{◌≡◌, ℕ, ◌+◌, ◌≤◌, ◌<◌, List, [], ◌∷◌, ◌++◌, length}
use Rattle.proxy_outside.specs.Rules.{Rules}
use Rattle.counted_desk.specs.declared.entry.Entry.{Entry}
use Rattle.counted_desk.specs.declared.answer.CallFault.{CallFault}
use Rattle.counted_desk.specs.declared.answer.CallFault.TheVariants.{NoMemory, JournalFull}
use Rattle.counted_desk.specs.declared.answer.Closed.{Closed}
use Rattle.counted_desk.specs.declared.answer.Closed.TheVariants.{Whole, Held}
use Rattle.counted_desk.specs.declared.answer.Receipt.{Receipt}
use Rattle.counted_desk.specs.declared.logged.Logged.{Logged}
use Rattle.pgw_frames.specs.Frames.{Begins}
use Rattle.counted_desk.specs.History.{entry, call, Call, times, IsOwnOf, IsLegal, IsLegalBelow, log_of, state_of}
use Rattle.counted_desk.specs.Seats.{Sight}

-- which fault comes, by the number of entries in the journal
abbrev pub FaultAt : ℕ → ℕ → CallFault → Type 0
FaultAt most n NoMemory = n < most
FaultAt most n (JournalFull m) = (m ≡ most) × (n ≡ most)

-- no call was added to the journal
pub record AddsNot {M C : Type 0} (most : ℕ) (old new : Logged M C) (e : CallFault) : Type 0 where
  pub journal : new.journal.items ≡ old.journal.items
  pub fault : FaultAt most (length old.journal.items) e

module _ {M S C R : Type 0} (rules : Rules S C R) where
  -- the call was added to the journal, with the reply that the machine gives after the calls before it
  pub record Adds (most t : ℕ) (c : C) (old new : Logged M C) (r : Receipt R) : Type 0 where
    pub journal : new.journal.items ≡ old.journal.items ++ call t c ∷ []
    pub place : r.place ≡ length old.journal.items
    pub room : r.place < most
    pub reply : r.reply ≡ rules.reply (state_of rules old.journal.items) c

module _ {S C R : Type 0} (rules : Rules S C R) where
  -- the call stands at its place, at the end of a legal history that begins with all that was seen before, and is the one new call of the seat
  pub record Made (most : ℕ) (v w : Sight C R) (c : C) (r : Receipt R) : Type 0 where
    pub between : List (Entry C R)
    pub seen : w.seen ≡ (v.seen ++ between) ++ entry w.last c r.reply ∷ []
    pub place : r.place ≡ length (v.seen ++ between)
    pub room : r.place < most
    pub legal : IsLegalBelow rules (w.last + 1) w.seen
    pub own : w.own ≡ v.own ++ entry w.last c r.reply ∷ []
    pub within : IsOwnOf w.own w.seen

  -- the seat made no call, and nothing that it sees has the ticket of this one
  pub record Missed (most : ℕ) (v w : Sight C R) (e : CallFault) : Type 0 where
    pub begins : Begins v.seen w.seen
    pub legal : IsLegalBelow rules w.last w.seen
    pub unused : times w.last w.seen ≡ 0
    pub own : w.own ≡ v.own
    pub within : IsOwnOf w.own w.seen
    pub fault : FaultAt most (length w.seen) e

module _ {M S C R : Type 0} (stands : M → S → Type 0) (rules : Rules S C R) where
  -- the journal's history is legal and begins with what was seen, and the machine stands at its end
  pub record IsWholeEnd (v : Sight C R) (m : M) (calls : List (Call C)) : Type 0 where
    pub legal : IsLegal rules (log_of rules calls)
    pub begins : Begins v.seen (log_of rules calls)
    pub room : length calls ≤ v.desk.most
    pub machine : stands m (state_of rules calls)

  abbrev pub ClosedAs : Sight C R → Closed M (List (Call C)) → Type 0
  ClosedAs v (Whole m calls) = IsWholeEnd v m calls
  ClosedAs v Held = Unit {0}
