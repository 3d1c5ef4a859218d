use Rattle.std.proofs.Common.{ap}
use Rattle.tenant_directory.specs.Standing.{Listing}
use Rattle.proxy_hub.proofs.Opening.{numbered}
use Rattle.proxy_hub.proofs.machine.HubMachine.opening.Goals as goal

pub returns : goal.returns
returns c = record { lists = c.new.ensures; throttle = c.new-2.ensures; rows = c.new-3.ensures.history; homes = ap (λ (d : Listing). d.homes) c.new-3.ensures.value; roster = c.new-4.ensures; keys = c.new-5.ensures; numbered = numbered }
