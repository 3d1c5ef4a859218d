-- What a directory keeps, and of which rows it is the outcome.
use Rattle.std.specs.Prelude.{◌≡◌, ℕ, List, Option, Some, None}
use Rattle.std.specs.FinMap as map
use Rattle.std.specs.Coded.{Coded, coded×, code_by}
use Rattle.std.proofs.Common.{refl}
use Rattle.proxy_outside.specs.declared.identity.TenantId.{TenantId}
use Rattle.proxy_outside.specs.declared.identity.SessionNo.{SessionNo}
use Rattle.proxy_outside.specs.Orders.{tenants, sessions}
use Rattle.tenant_directory.specs.declared.directory.Home.{Home}
use Rattle.tenant_directory.specs.Rows.{TenantPods}
use Rattle.tenant_directory.specs.Newest.{rows_of, newest, stale_version}

-- of each tenant the row that counts, and of each settled session its home
pub record Listing : Type 0 where
  pub rows : map.FinMap tenants TenantPods
  pub homes : map.FinMap sessions Home

-- a listing is stored as the pair of its maps
abbrev pub listing_code : Coded TenantId → Coded SessionNo → Coded TenantPods → Coded Home → Coded Listing
listing_code t s r h =
    code_by (map.FinMap tenants TenantPods × map.FinMap sessions Home) (coded× (map.code t r) (map.code s h)) (λ d. (d.rows, d.homes)) (λ p. record { rows = p.0; homes = p.1 }) (λ _. refl)

-- the row is put in at its tenant, unless a version makes it stale
abbrev pub put_unless : Option ℕ → map.FinMap tenants TenantPods → TenantPods → map.FinMap tenants TenantPods
put_unless None rows row = map.insert rows row.tenant row
put_unless (Some version) rows row = rows

-- the rows that are kept after a further one came
abbrev pub rows_after : map.FinMap tenants TenantPods → TenantPods → map.FinMap tenants TenantPods
rows_after rows row = put_unless (stale_version (map.get rows row.tenant) row) rows row

-- of each tenant it has what follows from these rows, which it does not keep
abbrev pub StandsFor : Listing → List TenantPods → Type 0
StandsFor d rows = (tenant : TenantId) → map.get d.rows tenant ≡ newest (rows_of tenant rows)
