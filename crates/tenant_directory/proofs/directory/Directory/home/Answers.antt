use Rattle.std.proofs.Common.{None, Some, option_map, ap, ◌∙◌}
use Rattle.tenant_directory.specs.declared.directory.Home.{Home}
use Rattle.tenant_directory.proofs.Listings.{home_found}
use Rattle.tenant_directory.proofs.directory.Directory.home.Goals as goal

pub returns-in_err-home : goal.returns-in_err-home
returns-in_err-home c =
    c.from_residual.ensures
    ∙ ap (option_map (λ (h : Home). h.place)) (home_found c.args.self.now c.self.inside.rows c.self.inside.homes c.args.session c.get.result None c.self.view_is c.in_err-home.was c.get.ensures.value)

pub returns : goal.returns
returns c =
    ap (option_map (λ (h : Home). h.place))
    (home_found c.args.self.now c.self.inside.rows c.self.inside.homes c.args.session c.get.result (Some c.in_ok-home.home) c.self.view_is c.in_ok-home.was c.get.ensures.value)
