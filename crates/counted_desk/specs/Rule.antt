-- The rule of the desk's table, and what each step tells.
use Rattle.std.specs.Prelude.{◌≡◌, ◌≢◌, ◌⊎◌, ℕ, ◌+◌, ◌≤◌, ◌<◌, ◌^◌, ◌==◌, cond, leb, List, [], ◌∷◌, ◌++◌, length, drop, Option, Some, Box}
use mathlib.Core.Option as maybe
use lib.ListN.{get_elem?}
use Rattle.std.specs.declared.alloc.Global.{Global}
use Rattle.atomic_table.specs.Table.{State, Me, Step}
use Rattle.proxy_outside.specs.Rules.{Rules}
use Rattle.counted_desk.specs.declared.entry.Entry.{Entry}
use Rattle.counted_desk.specs.declared.logged.Logged.{Logged}
use Rattle.counted_desk.specs.declared.entry.Role.{Role}
use Rattle.counted_desk.specs.declared.entry.Role.TheVariants.{Spent, Idle, Waiting, Turn}
use Rattle.counted_desk.specs.declared.entry.View.{View}
use Rattle.pgw_frames.specs.Frames.{Begins}
use Rattle.counted_desk.specs.History.{log_of, state_of, Rises, times, Within, IsOwnOf, IsLegal, one_if, Call}

-- f of each, added up
abbrev pub total : {A : Type 0} → (A → ℕ) → List A → ℕ
total f [] = 0
total f (x ∷ xs) = f x + total f xs

-- 1 where the role has this ticket
abbrev pub has : ℕ → Role → ℕ
has t (Waiting n) = one_if (n == t)
has t (Turn n) = one_if (n == t)
has t _ = 0

-- 1 where the role has a ticket
abbrev pub has_any : Role → ℕ
has_any (Waiting n) = 1
has_any (Turn n) = 1
has_any _ = 0

-- 1 where the role has the turn
abbrev pub has_turn : Role → ℕ
has_turn (Turn n) = 1
has_turn _ = 0

-- the value of the slot
abbrev pub Held : Type 0 → Type 0 → Type 0
Held M C = Box (Logged M C) Global

module _ {C R : Type 0} where
  abbrev pub newcomer : ℕ → List (Entry C R) → View C R
  newcomer most seen = record { role = Idle; most = most; last = 0; seen = seen; own = []; met = [] }

  abbrev pub spent : View C R
  spent = record { role = Spent; most = 0; last = 0; seen = []; own = []; met = [] }

  abbrev pub drawn : View C R → ℕ → View C R
  drawn v n = record v { role = Waiting n; last = n }

  -- at the turn the whole journal is seen
  abbrev pub at_turn : View C R → ℕ → List (Entry C R) → View C R
  at_turn v n seen = record v { role = Turn n; last = n; seen = seen }

  -- after the turn the journal is seen, and what was added to it is the seat's own
  abbrev pub after_turn : View C R → List (Entry C R) → View C R
  after_turn v log = record v { role = Idle; seen = log; own = v.own ++ drop (length v.seen) log }

  abbrev pub copied : View C R → View C R
  copied v = newcomer v.most v.seen

  -- both have the longer history and all own calls
  abbrev pub joined : View C R → View C R → View C R
  joined v w = record {
    role = v.role;
    most = v.most;
    last = v.last;
    seen = cond (leb (length w.seen) (length v.seen)) v.seen w.seen;
    own = v.own ++ w.own;
    met = cond (leb (length w.seen) (length v.seen)) w.seen v.seen;
  }

module _ {M C R S : Type 0} (stands : M → S → Type 0) (rules : Rules S C R) where
  abbrev pub V : Type 0
  V = View C R

  abbrev pub H : Type 0
  H = Option (Held M C)

  -- the machine stands for the state after the journal
  abbrev pub IsWhole : Logged M C → Type 0
  IsWhole y = stands y.machine (state_of rules y.journal.items)

  -- where the one value is
  abbrev pub Home : List (maybe.Option H) → List (Call C) → ℕ → Type 0
  Home homes calls turns =
      ((y : Held M C) × (homes ≡ maybe.some (Some y) ∷ []) × (y.value.journal.items ≡ calls) × IsWhole y.value × (turns ≡ 0))
      ⊎ ((homes ≡ maybe.none ∷ []) × (turns ≡ 1))

  -- what the role of a view says
  abbrev pub Knows : ℕ → ℕ → List (Entry C R) → Role → List (Entry C R) → Type 0
  Knows ticket serving log (Waiting n) seen = (serving ≤ n) × (n < ticket)
  Knows ticket serving log (Turn n) seen = (n ≡ serving) × (serving < ticket) × (seen ≡ log)
  Knows ticket serving log _ seen = Unit {0}

  -- what the rule says of one view: its role, what it has seen, and its own calls; a spent one is empty
  pub record Fits (most ticket serving : ℕ) (log : List (Entry C R)) (v : V) : Type 0 where
    pub knows : Knows ticket serving log v.role v.seen
    pub begins : Begins v.seen log
    pub met : Begins v.met log
    pub within : Within v.own v.seen
    pub same_most : v.role ≢ Spent → v.most ≡ most
    pub empty : v.role ≡ Spent → (v.seen ≡ []) × (v.own ≡ [])

  -- the rule: how tickets and turns stand to the two words, where the value is, and what each view knows of the journal
  pub record IsKept (most : ℕ) (s : State H V) : Type 0 where
    pub ticket : ℕ
    pub serving : ℕ
    pub calls : List (Call C)
    pub words_are : s.words ≡ ticket ∷ serving ∷ []
    pub ordered : serving ≤ ticket
    pub bounded : ticket < 2 ^ 64
    pub counted : total (λ v. has_any v.role) s.views + serving ≡ ticket
    pub differ : (t : ℕ) → total (λ v. has t v.role) s.views ≤ 1
    pub home : Home s.homes calls (total (λ v. has_turn v.role) s.views)
    pub rising : Rises 0 (log_of rules calls) serving
    pub room : length calls ≤ most
    pub each : (j : ℕ) (v : V) → get_elem? s.views j ≡ maybe.some v → Fits most ticket serving (log_of rules calls) v
    pub once : (t : ℕ) → total (λ v. times t v.own) s.views ≤ 1

  -- what the seat has out after it took its turn
  pub record Took (n : ℕ) (v : V) (y : Logged M C) : Type 0 where
    pub whole : IsWhole y
    pub begins : Begins v.seen (log_of rules y.journal.items)
    pub rising : Rises 0 (log_of rules y.journal.items) n
    pub room : length y.journal.items ≤ v.most

  -- the journal that is given back is the one that was taken, or has one call more, of this turn
  pub record IsDue (n : ℕ) (v : V) (y : Logged M C) (added : List (Entry C R)) : Type 0 where
    pub turn : v.role ≡ Turn n
    pub whole : IsWhole y
    pub log_is : log_of rules y.journal.items ≡ v.seen ++ added
    pub rising : Rises 0 (v.seen ++ added) (n + 1)
    pub room : length y.journal.items ≤ v.most
    pub one : (added ≡ []) ⊎ ((e : Entry C R) × (added ≡ e ∷ []) × (e.ticket ≡ n))

  -- what comes out of a desk that is closed: the machine at the end of a legal journal that begins with what was seen
  pub record IsAtEnd (v : V) (most : ℕ) (y : Logged M C) : Type 0 where
    pub whole : IsWhole y
    pub begins : Begins v.seen (log_of rules y.journal.items)
    pub legal : IsLegal rules (log_of rules y.journal.items)
    pub room : length y.journal.items ≤ most

  abbrev pub At : Type 0
  At = Step H

  -- a try to draw the ticket that was found before
  abbrev pub drew : At → Me H V → ℕ → Me H V → Type 0
  drew st m r w = (r ≡ st.first → w ≡ (drawn m.0 r, m.1)) × (r ≢ st.first → w ≡ m)

  -- the ticket is served: the seat sees the whole journal, and the value is out with it
  abbrev pub HasTurn : ℕ → Me H V → Me H V → Type 0
  HasTurn n m w = (y : Held M C) × Took n m.0 y.value × (w ≡ (at_turn m.0 n (log_of rules y.value.journal.items), (0, Some y) ∷ m.1))

  -- a load of the serving word
  abbrev pub looked : At → Me H V → ℕ → Me H V → Type 0
  looked st m r w = (n : ℕ) → m.0.role ≡ Waiting n → (r ≡ n → HasTurn n m w) × (r ≢ n → w ≡ m)

  -- the next ticket is served
  abbrev pub left : At → Me H V → ℕ → Me H V → Type 0
  left st m r w = (y : Held M C) → m.1 ≡ (0, Some y) ∷ [] → (w ≡ (after_turn m.0 (log_of rules y.value.journal.items), [])) × IsOwnOf w.0.own w.0.seen

  -- a load after a join
  abbrev pub compared : At → Me H V → ℕ → Me H V → Type 0
  compared st m r w = (w ≡ m) × (length m.0.met ≤ length m.0.seen → Begins m.0.met m.0.seen) × IsOwnOf w.0.own w.0.seen
