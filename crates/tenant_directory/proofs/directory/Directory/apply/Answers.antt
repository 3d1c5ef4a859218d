use Rattle.std.proofs.Common.{sym, ◌∙◌}
use Rattle.tenant_directory.proofs.Listings.{row_put, row_stays}
use Rattle.tenant_directory.proofs.Standing.{stands_then}
use Rattle.tenant_directory.proofs.directory.Directory.apply.Goals as goal

pub returns-in-Some-clause-history : goal.returns-in-Some-clause-history
returns-in-Some-clause-history c =
    stands_then c.args.self.now _ c.args.row (row_stays c.args.self.now c.args.row c.in-Some.version (sym c.stale_version.ensures ∙ c.in-Some.is))

pub returns-clause-ok : goal.returns-clause-ok
returns-clause-ok c = row_put c.args.self.now c.self.inside.rows c.insert.new.self c.self.inside.homes c.tenant.result c.args.row c.self.view_is c.tenant.ensures c.in_default.ensures c.in_ok-insert.ensures.updates

pub returns-clause-history : goal.returns-clause-history
returns-clause-history c = stands_then c.args.self.now _ c.args.row (returns-clause-ok c)
