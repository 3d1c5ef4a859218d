-- What follows from all the rows that were applied. Lists of rows have the one that was applied last first.
use Rattle.std.specs.Prelude.{◌==◌, ℕ, max, Bool, nat_le, if◌then◌else◌, List, [], ◌∷◌, filter, Option, Some, None, unwrap_or}
use Rattle.std.specs.Option.{option_map}
use Rattle.proxy_outside.specs.declared.identity.TenantId.{TenantId}
use Rattle.tenant_directory.specs.declared.pod.Pod.{Pod}
use Rattle.tenant_directory.specs.declared.directory.Applied.{Applied}
use Rattle.tenant_directory.specs.declared.directory.Applied.TheVariants.{Done, Stale}
use Rattle.tenant_directory.specs.Rows.{TenantPods}

abbrev pub is_of : TenantId → TenantPods → Bool
is_of tenant r = r.tenant.0 == tenant.0

abbrev pub rows_of : TenantId → List TenantPods → List TenantPods
rows_of tenant rows = filter (is_of tenant) rows

abbrev pub greatest_version : List TenantPods → ℕ
greatest_version [] = 0
greatest_version (r ∷ rs) = max r.version (greatest_version rs)

abbrev pub has_version : ℕ → TenantPods → Bool
has_version version r = r.version == version

-- the row that was applied first, the last of the list
abbrev pub earliest : List TenantPods → Option TenantPods
earliest [] = None
earliest (r ∷ rs) = Some (unwrap_or (earliest rs) r)

-- of the rows with the greatest version, the one that was applied first
abbrev pub newest : List TenantPods → Option TenantPods
newest rows = earliest (filter (has_version (greatest_version rows)) rows)

-- a tenant's pods, where a row was applied for it
abbrev pub pods_of : List TenantPods → TenantId → Option (List Pod)
pods_of rows tenant = option_map (λ (r : TenantPods). r.pods) (newest (rows_of tenant rows))

-- ---- one row more

-- the version of the row that counts, where it is at least that of a further row
abbrev pub stale_version : Option TenantPods → TenantPods → Option ℕ
stale_version None row = None
stale_version (Some kept) row = if nat_le row.version kept.version then Some kept.version else None

abbrev pub answer : Option ℕ → Applied
answer None = Done
answer (Some version) = Stale version

-- the answer to a further row, by the row that counts
abbrev pub answer_to : Option TenantPods → TenantPods → Applied
answer_to kept row = answer (stale_version kept row)
