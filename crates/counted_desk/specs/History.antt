-- What the calls of a machine mean: histories, which of them are legal, and the history of a journal.
use Rattle.std.specs.Prelude.{◌≡◌, ℕ, suc, ◌≤◌, List, [], ◌∷◌, ◌++◌, length, ◌+◌, ◌==◌, Bool, true, false}
use Rattle.std.specs.List.{IsDistinct}
use mathlib.Core.Option.{some}
use lib.ListN.{get_elem?}
use Rattle.proxy_outside.specs.Rules.{Rules}
use Rattle.counted_desk.specs.declared.entry.Entry.{Entry}

abbrev pub entry : {C R : Type 0} → ℕ → C → R → Entry C R
entry t c r = record { ticket = t; command = c; reply = r }

-- a call as the journal keeps it: its ticket and its command
abbrev pub Call : Type 0 → Type 0
Call C = ℕ × C

abbrev pub call : {C : Type 0} → ℕ → C → Call C
call t c = (t, c)

abbrev pub one_if : Bool → ℕ
one_if true = 1
one_if false = 0

-- e stands in the list
abbrev pub Has : {A : Type 0} → List A → A → Type 0
Has xs e = (k : ℕ) × (get_elem? xs k ≡ some e)

-- each of the first stands in the second
abbrev pub Within : {A : Type 0} → List A → List A → Type 0
Within [] ys = Unit {0}
Within (x ∷ xs) ys = Has ys x × Within xs ys

module _ {C R : Type 0} where
  -- the tickets rise strictly, from low on, and stay below high
  abbrev pub Rises : ℕ → List (Entry C R) → ℕ → Type 0
  Rises low [] high = low ≤ high
  Rises low (e ∷ es) high = (low ≤ e.ticket) × Rises (suc e.ticket) es high

  -- how often a ticket stands in a list
  abbrev pub times : ℕ → List (Entry C R) → ℕ
  times t [] = 0
  times t (e ∷ es) = one_if (e.ticket == t) + times t es

  -- a seat's own calls stand in what it has seen, each once
  pub record IsOwnOf (own seen : List (Entry C R)) : Type 0 where
    pub within : Within own seen
    pub once : (t : ℕ) → times t own ≤ 1

module _ {S C R : Type 0} (rules : Rules S C R) where
  -- each reply is the one that the machine gives there, from this state on
  abbrev pub AreReplies : S → List (Entry C R) → Type 0
  AreReplies s [] = Unit {0}
  AreReplies s (e ∷ es) = (e.reply ≡ rules.reply s e.command) × AreReplies (rules.next s e.command) es

  -- the tickets rise strictly, all below the bound, and the replies are those of one machine from its opening
  pub record IsLegalBelow (bound : ℕ) (history : List (Entry C R)) : Type 0 where
    pub replies : AreReplies rules.first history
    pub rises : Rises 0 history bound

  abbrev pub IsLegal : List (Entry C R) → Type 0
  IsLegal history = (bound : ℕ) × IsLegalBelow bound history

  -- where the machine stands behind these entries, from this state on
  abbrev pub behind : S → List (Entry C R) → S
  behind s [] = s
  behind s (e ∷ es) = behind (rules.next s e.command) es

  -- the call stands in the history, and its reply is the machine's behind the entries before it
  pub record IsAnsweredIn (history : List (Entry C R)) (e : Entry C R) : Type 0 where
    pub before : List (Entry C R)
    pub after : List (Entry C R)
    pub place : history ≡ before ++ e ∷ after
    pub reply : e.reply ≡ rules.reply (behind rules.first before) e.command

  -- each call stands at its place, which is how many entries stand before it
  abbrev pub AreAt : List (Entry C R) → List (Entry C R) → List ℕ → Type 0
  AreAt history [] [] = Unit {0}
  AreAt history (e ∷ es) (k ∷ ks) = ((a : IsAnsweredIn history e) × (length a.before ≡ k)) × AreAt history es ks
  AreAt history [] (k ∷ ks) = ⊥
  AreAt history (e ∷ es) [] = ⊥

  -- each call stands at a place of its own
  pub record AreAnsweredIn (history own : List (Entry C R)) : Type 0 where
    pub places : List ℕ
    pub apart : IsDistinct (λ j k. j == k) places
    pub each : AreAt history own places

  -- the history of calls, with the replies of one machine that is run over them from this state
  abbrev pub history_from : S → List (Call C) → List (Entry C R)
  history_from s [] = []
  history_from s (c ∷ cs) = entry c.0 c.1 (rules.reply s c.1) ∷ history_from (rules.next s c.1) cs

  -- the state after these calls
  abbrev pub state_from : S → List (Call C) → S
  state_from s [] = s
  state_from s (c ∷ cs) = state_from (rules.next s c.1) cs

  -- the history of a journal: its machine starts at the opening
  abbrev pub log_of : List (Call C) → List (Entry C R)
  log_of = history_from rules.first

  -- where the machine stands after a journal
  abbrev pub state_of : List (Call C) → S
  state_of = state_from rules.first
