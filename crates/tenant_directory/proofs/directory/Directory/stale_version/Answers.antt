use Rattle.std.proofs.Common.{Option, None, Some, ap, ◌∙◌}
use Rattle.std.specs.FinMap as map
use Rattle.proxy_outside.specs.declared.identity.TenantId.{TenantId}
use Rattle.tenant_directory.specs.Rows.{TenantPods}
use Rattle.tenant_directory.specs.Newest.{stale_version}
use Rattle.tenant_directory.proofs.Listings.{row_found}
use Rattle.tenant_directory.proofs.OneRowMore.{stale_at, fresh_at}
use Rattle.tenant_directory.proofs.directory.Directory.stale_version.Goals as goal

pub returns-in_err-get : goal.returns-in_err-get
returns-in_err-get c =
    c.from_residual.ensures
    ∙ ap (λ (o : Option TenantPods). stale_version o c.args.row.now) (row_found c.args.self.now c.self.inside.rows c.self.inside.homes c.tenant.result c.get.result None c.self.view_is c.in_err-get.was c.get.ensures.value)
    ∙ ap (λ (t : TenantId). stale_version (map.get c.args.self.now.rows t) c.args.row.now) c.tenant.ensures

pub returns-then-version : goal.returns-then-version
returns-then-version c =
    stale_at c.args.row.now c.in_ok-get.field-0.now c.version.result c.version-version.result c.version.ensures c.version-version.ensures c.if-version.true
    ∙ ap (λ (o : Option TenantPods). stale_version o c.args.row.now)
    (row_found c.args.self.now c.self.inside.rows c.self.inside.homes c.tenant.result c.get.result (Some c.in_ok-get.field-0) c.self.view_is c.in_ok-get.was c.get.ensures.value)
    ∙ ap (λ (t : TenantId). stale_version (map.get c.args.self.now.rows t) c.args.row.now) c.tenant.ensures

pub returns : goal.returns
returns c =
    fresh_at c.args.row.now c.in_ok-get.field-0.now c.version.result c.version-version.result c.version.ensures c.version-version.ensures c.if-version.false
    ∙ ap (λ (o : Option TenantPods). stale_version o c.args.row.now)
    (row_found c.args.self.now c.self.inside.rows c.self.inside.homes c.tenant.result c.get.result (Some c.in_ok-get.field-0) c.self.view_is c.in_ok-get.was c.get.ensures.value)
    ∙ ap (λ (t : TenantId). stale_version (map.get c.args.self.now.rows t) c.args.row.now) c.tenant.ensures
