use Rattle.tenant_directory.proofs.Listings.{home_put, none_there}
use Rattle.tenant_directory.proofs.directory.Directory.settle.Goals as goal

pub returns-clause-ok : goal.returns-clause-ok
returns-clause-ok c = home_put _ c.self.inside.rows c.self.inside.homes c.insert.new.self c.args.session _ c.self.view_is c.in_ok-insert.ensures.updates

pub returns-in_err-insert-clause-absent : goal.returns-in_err-insert-clause-absent
returns-in_err-insert-clause-absent c = none_there c.from_residual.result c.args.self.now c.self.inside.rows c.self.inside.homes c.args.session c.self.view_is c.in_err-insert.ensures.absent
