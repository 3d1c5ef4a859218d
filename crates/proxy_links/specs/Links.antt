-- What a dialer tells, and what its calls do to that.
use Rattle.std.specs.Prelude.{◌≡◌, ℕ, ◌+◌, ◌-◌, ◌^◌, ◌≤◌, min, Bool, true, false, List, [], ◌∷◌, ◌++◌, Option, Some, None, slice_get}
use Rattle.proxy_outside.specs.Reading.{Origin, Rose}
use Rattle.proxy_outside.specs.Writing.{Target}
use Rattle.proxy_outside.specs.declared.place.Place.{Place}
use Rattle.proxy_links.specs.Told.{Grows, blank}
use Rattle.proxy_links.specs.declared.dialer.Dial.{Dial}
use Rattle.proxy_links.specs.declared.dialer.Dialed.{Dialed}
use Rattle.proxy_links.specs.declared.dialer.Dialed.TheVariants.{Link, Failed}

-- the counts of a link's two halves
pub record LinkCounts : Type 0 where
  pub tx_faults : ℕ
  pub rx_faults : ℕ
  pub waits : ℕ
  pub ended : Bool

-- what is kept of a link that was hung up
pub record LinkRecord : Type 0 where
  pub number : ℕ
  pub place : Place
  pub sent : List ℕ
  pub got : List ℕ
  pub counts : LinkCounts

-- What a contract sees of a dialer. A link's number is how many dials came before its own; that count stops at
-- 2^64 - 1, from where on no link comes.
pub record Links : Type 0 where
  pub dials : Option (List Dial)
  pub dialed : ℕ
  pub live : ℕ  -- how many links are not hung up yet
  pub records : Option (List LinkRecord)
  pub faults : ℕ
  pub closed : LinkCounts

abbrev pub no_counts : LinkCounts
no_counts = record { tx_faults = 0; rx_faults = 0; waits = 0; ended = false }

abbrev pub counts_of : Target → Origin → LinkCounts
counts_of tx rx = record { tx_faults = tx.faults; rx_faults = rx.faults; waits = rx.waits; ended = rx.ended }

-- ---- a dial

-- nothing was sent on a new link or got, and its bytes are told where link records are
abbrev pub fresh_target : Links → Target
fresh_target l = record { contents = blank l.records; faults = 0; link = l.dialed }

abbrev pub fresh_origin : Links → Option (List ℕ) → Origin
fresh_origin l left = record { taken = blank l.records; left = left; faults = 0; waits = 0; ended = false; link = l.dialed }

pub record Came (old new : Links) (at : Place) (t : Target) (r : Origin) : Type 0 where
  pub dials : Grows old.dials new.dials (record { place = at; came = true } ∷ [])
  pub faults : old.faults ≤ new.faults
  pub tx : t ≡ fresh_target old
  pub rx : r ≡ fresh_origin old r.left
  pub others : new ≡ record old { dials = new.dials; dialed = old.dialed + 1; live = old.live + 1; faults = new.faults }

pub record Failing (old new : Links) (at : Place) : Type 0 where
  pub dials : Grows old.dials new.dials (record { place = at; came = false } ∷ [])
  pub faults : old.faults ≤ new.faults
  pub rose : Rose old.faults new.faults
  pub others : new ≡ record old { dials = new.dials; dialed = min (old.dialed + 1) (2 ^ 64 - 1); faults = new.faults }

abbrev pub Dials : {T R : Type 0} → (T → Target) → (R → Origin) → Dialed T R → Links → Links → Place → Type 0
Dials target origin (Link t r) old new at = Came old new at (target t) (origin r)
Dials target origin Failed old new at = Failing old new at

-- ---- hanging up

-- the records with one more, where they and the link's bytes are told
abbrev pub hung : (Option (List LinkRecord)) → (List ℕ → List ℕ → LinkRecord) → Option (List ℕ) → Option (List ℕ) → Option (List LinkRecord)
hung None r sent got = None
hung (Some rs) r None got = None
hung (Some rs) r (Some s) None = None
hung (Some rs) r (Some s) (Some g) = Some (rs ++ r s g ∷ [])

abbrev pub record_of : ℕ → Place → LinkCounts → List ℕ → List ℕ → LinkRecord
record_of number place counts sent got = record { number = number; place = place; sent = sent; got = got; counts = counts }

pub record HangsUp (old new : Links) (t : Target) (r : Origin) : Type 0 where
  pub place : Place
  pub is_place : (ds : List Dial) (d : Dial) → old.dials ≡ Some ds → slice_get ds r.link ≡ Some d → place ≡ d.place
  pub faults : old.faults ≤ new.faults
  pub others : new ≡ record old { live = old.live - 1; records = hung old.records (record_of r.link place (counts_of t r)) t.contents r.taken; faults = new.faults; closed = counts_of t r }
