-- The state of a mini session, how it begins, and how its parts change.
use Rattle.std.specs.Prelude.{ℕ, nat_eq, Bool, true, false, not, ◌||◌, List, [], ◌∷◌, filter, Option, Some, None, if◌then◌else◌, codes}
use Rattle.std.specs.List.{starts_with}
use Rattle.std.specs.Option.{unwrap_or}
use Rattle.std.specs.Str.{bytes_eq}
use Rattle.pgw_messages.specs.declared.params.Pair.{Pair}
use Rattle.pgw_messages.specs.Params.{value_of, put_all, is_named}
use Rattle.sql_text.specs.declared.stmt.Stmt.{Stmt}
use Rattle.mini_store.specs.declared.answer.PastStep.{PastStep}
use Rattle.session_blob.specs.Prepared.{Prepared, without_prepared}

-- a statement with the texts of its parameters, under a name
pub record Portal : Type 0 where
  pub name : List ℕ
  pub stmt : Stmt
  pub texts : List (List ℕ)

-- a transaction: its operations so far with their answers, and whether an error came
pub record Turn : Type 0 where
  pub past : List PastStep
  pub failed : Bool

-- a copy: whether a Query began it, its table with so many columns, and the data that came
pub record CopyTo : Type 0 where
  pub by_query : Bool
  pub table : List ℕ
  pub width : ℕ
  pub gathered : List ℕ

pub data Mode : Type 0 where
  Usual : Mode
  Skipping : Mode  -- an error came, and all is discarded up to a Sync
  Copying : CopyTo → Mode

pub record Mini : Type 0 where
  pub user : List ℕ
  pub database : List ℕ
  pub token : List ℕ
  pub variables : List Pair
  pub statements : List Prepared
  pub portals : List Portal
  pub turn : Option Turn
  pub mode : Mode

-- ---- what is seen of it

abbrev pub is_usual : Mode → Bool
is_usual Usual = true
is_usual Skipping = false
is_usual (Copying c) = false

abbrev pub is_copying : Mode → Bool
is_copying Usual = false
is_copying Skipping = false
is_copying (Copying c) = true

-- a copy that a Query began still owes its ReadyForQuery
abbrev pub mode_due : Mode → ℕ
mode_due Usual = 0
mode_due Skipping = 0
mode_due (Copying c) = if c.by_query then 1 else 0

abbrev pub has_failed : Option Turn → Bool
has_failed None = false
has_failed (Some t) = t.failed

abbrev pub in_turn : Option Turn → Bool
in_turn None = false
in_turn (Some t) = true

-- I outside a transaction, T inside one, E inside a failed one
abbrev pub status_of : Option Turn → ℕ
status_of None = 73
status_of (Some t) = if t.failed then 69 else 84

-- ---- its beginning

-- parameters that are no variables
abbrev pub is_own : Pair → Bool
is_own q = is_named (codes "user") q || (is_named (codes "database") q || (is_named (codes "options") q || starts_with nat_eq q.name (codes "crdb:")))

abbrev pub user_of : List Pair → List ℕ
user_of p = unwrap_or (value_of (codes "user") p) []

-- the database is the user's name where none is given
abbrev pub opening : List Pair → Mini
opening p = record {
  user = user_of p;
  database = unwrap_or (value_of (codes "database") p) (user_of p);
  token = unwrap_or (value_of (codes "crdb:session_token_base64") p) [];
  variables = put_all [] (filter (λ q. not (is_own q)) p);
  statements = [];
  portals = [];
  turn = None;
  mode = Usual;
}

-- ---- changes

-- an error in a transaction makes it failed
abbrev pub failing : Option Turn → Option Turn
failing None = None
failing (Some t) = Some (record { past = t.past; failed = true })

-- ---- portals by their names

abbrev pub is_portal : List ℕ → Portal → Bool
is_portal n p = bytes_eq p.name n

-- the portal takes the place of the name's, or stands last
abbrev pub put_portal : Portal → List Portal → List Portal
put_portal p [] = p ∷ []
put_portal p (q ∷ qs) = if is_portal p.name q then p ∷ qs else q ∷ put_portal p qs

abbrev pub find_portal : List ℕ → List Portal → Option Portal
find_portal n [] = None
find_portal n (p ∷ ps) = if is_portal n p then Some p else find_portal n ps

abbrev pub without_portal : List ℕ → List Portal → List Portal
without_portal n ps = filter (λ p. not (is_portal n p)) ps

-- what a Query does first: the portals and the unnamed statement go
abbrev pub dropped : Mini → Mini
dropped s = record s { portals = []; statements = without_prepared [] s.statements }
