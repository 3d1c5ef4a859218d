use Rattle.std.proofs.Common.{ap}
use Rattle.std.specs.FinMap as map
use Rattle.proxy_outside.specs.Orders.{tenants}
use Rattle.tenant_directory.proofs.Listings.{listing}
use Rattle.tenant_directory.proofs.Standing.{stands_for_none}
use Rattle.tenant_directory.proofs.directory.Directory.new.Goals as goal

pub returns-clause-history : goal.returns-clause-history
returns-clause-history c = stands_for_none (listing (map.from_entries c.new.result.entries) map.empty) (ap (map.from_entries {R = tenants}) c.new.ensures.empty)
