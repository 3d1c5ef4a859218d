use Rattle.tenant_directory.proofs.Listings.{home_removed}
use Rattle.tenant_directory.proofs.directory.Directory.leave.Goals as goal

pub returns : goal.returns
returns c = home_removed _ c.self.inside.rows c.self.inside.homes c.remove.new.self c.args.session c.self.view_is c.remove.ensures.updates
