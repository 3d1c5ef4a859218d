-- A new hub.
use Rattle.std.proofs.Common.{◌≡◌, Some, None, arith}
use Rattle.std.specs.FinMap as map
use Rattle.tenant_directory.specs.declared.directory.Home.{Home}
use Rattle.proxy_outside.specs.Orders.{sessions}
use Rattle.proxy_outside.specs.declared.identity.SessionNo.{SessionNo}
use Rattle.proxy_hub.specs.States.{opening, tenant_of}
use Rattle.proxy_hub.specs.Hubs.{AreNumbered}

none_owned : (n : SessionNo) (home : Home) → map.get opening.homes n ≡ Some home → tenant_of opening n ≡ Some home.tenant
none_owned n home at =
    let none : map.get opening.homes n ≡ None = map.get-empty sessions n in
    grind (arith)

pub numbered : AreNumbered opening
numbered = record { members = tt; owned = none_owned }
