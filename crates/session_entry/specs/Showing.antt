-- What a call shows of its hub and its dialer.
use Rattle.std.specs.Prelude.{◌≡◌, List, ◌++◌}
use Rattle.proxy_links.specs.Links.{Links, LinkRecord}
use Rattle.proxy_links.specs.Told.{push, Grows}
use Rattle.proxy_hub.specs.Ports.{Port}
use Rattle.session_asks.specs.Fits.{Outside}

-- the lists grew by what the call shows, each where it is told
pub record Shows (hub hub' : Port) (links links' : Links) (records : List LinkRecord) (o : Outside) : Type 0 where
  pub desk : hub'.desk ≡ hub.desk
  pub asked : hub'.asked ≡ hub.asked ++ o.asked
  pub refused_before : o.refused_before ≡ hub.refusals
  pub refused_now : o.refused_now ≡ hub'.refusals
  pub dials : Grows links.dials links'.dials o.dials
  pub told : links'.records ≡ push links.records records
