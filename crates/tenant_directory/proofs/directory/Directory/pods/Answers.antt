use Rattle.std.proofs.Common.{None, Some, option_map, ap, ◌∙◌}
use Rattle.tenant_directory.specs.Rows.{TenantPods}
use Rattle.tenant_directory.proofs.Listings.{row_found}
use Rattle.tenant_directory.proofs.directory.Directory.pods.Goals as goal

pub returns-in-Some-clause-value : goal.returns-in-Some-clause-value
returns-in-Some-clause-value c =
    ap Some c.pods.ensures.value
    ∙ ap (option_map (λ (r : TenantPods). r.pods)) (row_found c.args.self.now c.self.inside.rows c.self.inside.homes c.args.tenant c.get.result (Some c.in-Some.row) c.self.view_is c.in-Some.is c.get.ensures.value)

pub returns-in-None-clause-value : goal.returns-in-None-clause-value
returns-in-None-clause-value c =
    ap (option_map (λ (r : TenantPods). r.pods)) (row_found c.args.self.now c.self.inside.rows c.self.inside.homes c.args.tenant c.get.result None c.self.view_is c.in-None.is c.get.ensures.value)

pub returns-in-Some-clause-history : goal.returns-in-Some-clause-history
returns-in-Some-clause-history c = λ rows h. returns-in-Some-clause-value c ∙ ap (option_map (λ (r : TenantPods). r.pods)) (h c.args.tenant)

pub returns-in-None-clause-history : goal.returns-in-None-clause-history
returns-in-None-clause-history c = λ rows h. returns-in-None-clause-value c ∙ ap (option_map (λ (r : TenantPods). r.pods)) (h c.args.tenant)
