-- What some asks do to a port.
use Rattle.std.specs.Prelude.{◌≡◌, List, ◌++◌}
use Rattle.link_io.specs.Reading.{RoseBy}
use Rattle.proxy_hub.specs.Ports.{Port}
use Rattle.session_asks.specs.Asks.{Ask, answered, refused}

-- these were asked next: those that were answered stand at the end of the port's list, and the refusals rose by the others
pub record AsksOn (old new : Port) (as_ : List Ask) : Type 0 where
  pub desk : new.desk ≡ old.desk
  pub listed : new.asked ≡ old.asked ++ answered as_
  pub missing : RoseBy old.refusals (refused as_) new.refusals
