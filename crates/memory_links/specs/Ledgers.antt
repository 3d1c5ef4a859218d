-- What a dialer in memory keeps, and what the trait sees of it.
use Rattle.std.specs.Prelude.{◌≡◌, ℕ, ◌+◌, ◌^◌, ◌<◌, ◌≤◌, Bool, true, false, List, [], ◌∷◌, map, Option, Some, None, slice_get}
use Rattle.proxy_outside.specs.declared.place.Place.{Place}
use Rattle.proxy_links.specs.Told.{Grows}
use Rattle.proxy_links.specs.declared.dialer.Dial.{Dial}
use Rattle.proxy_links.specs.Links.{Links, LinkRecord, LinkCounts, no_counts}

-- the dials where they are told, how many there were, the links that are open, and what is kept of those that were hung up
pub record Dialing (H : Type 0) : Type 0 where
  pub dials : Option (List Dial)
  pub dialed : ℕ
  pub live : ℕ
  pub hung : List H
  pub faults : ℕ

abbrev pub no_dials : {H : Type 0} → Dialing H
no_dials = record { dials = Some []; dialed = 0; live = 0; hung = []; faults = 0 }

abbrev pub told_if : Bool → List Dial → Option (List Dial)
told_if true ds = Some ds
told_if false ds = None

-- the place of the dial with this number, where it is told
abbrev pub IsPlaceAt : Option (List Dial) → ℕ → Place → Type 0
IsPlaceAt told number place = (ds : List Dial) (d : Dial) → told ≡ Some ds → slice_get ds number ≡ Some d → place ≡ d.place

-- each open link has room for what will be kept of it
pub record IsRoomy (hung live dialed capacity : ℕ) : Type 0 where
  pub room : hung + live ≤ capacity
  pub few : live ≤ dialed

-- a link came, where there was room
abbrev pub Opened : {H : Type 0} → Bool → Dialing H → Dialing H → Place → Type 0
Opened false old new place = new ≡ old
Opened true old new place =
    Grows old.dials new.dials (record { place = place; came = true } ∷ []) × (old.dialed + 1 < 2 ^ 64) × (new ≡ record old { dials = new.dials; dialed = old.dialed + 1; live = old.live + 1 })

-- ---- as the trait sees it

-- the counts of the last one
abbrev pub last_counts : LinkCounts → List LinkRecord → LinkCounts
last_counts c [] = c
last_counts c (r ∷ rs) = last_counts r.counts rs

abbrev pub links_by : {H : Type 0} → (H → LinkRecord) → Dialing H → Links
links_by keeps d = record {
  dials = d.dials;
  dialed = d.dialed;
  live = d.live;
  records = Some (map keeps d.hung);
  faults = d.faults;
  closed = last_counts no_counts (map keeps d.hung);
}
