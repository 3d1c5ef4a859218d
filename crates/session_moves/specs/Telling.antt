-- Dialers that tell their dials and the records of their links.
use Rattle.std.specs.Prelude.{◌≡◌, ◌-◌, ◌^◌, ◌<◌, List, length, Some, slice_get}
use Rattle.std.specs.List.{AllByRecursion}
use Rattle.pgw_frames.specs.Frames.{IsBytes}
use Rattle.proxy_links.specs.Links.{Links, LinkRecord}
use Rattle.proxy_links.specs.declared.dialer.Dial.{Dial}
use Rattle.session_round.specs.Standing.{Tells}
use Rattle.session_trace.specs.Running.{Now}
use Rattle.session_trace.specs.Trace.{Opening}

-- of a link that was hung up bytes are told
abbrev pub GotBytes : LinkRecord → Type 0
GotBytes l = IsBytes l.got

-- fewer dials than a number can count
pub record TellsLinks (links : Links) : Type 0 where
  pub dials : List Dial
  pub dials_told : links.dials ≡ Some dials
  pub few : length dials < 2 ^ 64 - 1
  pub hung : List LinkRecord
  pub records_told : links.records ≡ Some hung
  pub bytes : AllByRecursion GotBytes hung

pub record TellsAll (n : Now) (links : Links) : Type 0 where
  pub halves : Tells n
  pub dialer : TellsLinks links

-- where the dials are told they are counted, and the one that led to a link stands at the link's number
pub record Placed (o : Opening) (links : Links) : Type 0 where
  pub counted : (ds : List Dial) → links.dials ≡ Some ds → length ds < 2 ^ 64 - 1 → length ds ≡ links.dialed
  pub placed : (ds : List Dial) → links.dials ≡ Some ds → (d : Dial) × (slice_get ds o.number ≡ Some d) × (d.place ≡ o.place)
