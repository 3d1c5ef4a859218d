-- A directory after a further row stands for that row and those before.
use Rattle.std.proofs.Common.{◌≡◌, ℕ, Bool, true, false, cond, List, [], ◌∷◌, Option, Some, None, refl, sym, ap, subst, ◌∙◌, arith}
use Rattle.std.specs.Prelude.{◌==◌, if◌then◌else◌}
use Rattle.std.specs.FinMap as map
use Rattle.std.specs.Ordering.{eq_by_cmp}
use Rattle.std.specs.Cmp.{unsigned_tied, nat_eq_equiv}
use Rattle.proxy_outside.specs.declared.identity.TenantId.{TenantId}
use Rattle.proxy_outside.specs.Orders.{tenants, tenants_total}
use Rattle.tenant_directory.specs.Rows.{TenantPods}
use Rattle.tenant_directory.specs.Newest.{rows_of, newest, stale_version}
use Rattle.tenant_directory.specs.Standing.{Listing, StandsFor, put_unless, rows_after}
use Rattle.tenant_directory.proofs.OneRowMore.{kept_after, newest_more}

tied : (q k : TenantId) → eq_by_cmp tenants q k ≡ (k.0 == q.0)
tied q k = unsigned_tied q.0 k.0 ∙ nat_eq_equiv.symm q.0 k.0

get-put_unless : (o : Option ℕ) (m : map.FinMap tenants TenantPods) (row : TenantPods) (b : Bool) (q : TenantId) → (row.tenant.0 == q.0) ≡ b
    → map.get (put_unless o m row) q ≡ (if b then kept_after o row (map.get m q) else map.get m q)
get-put_unless None m row true q e = map.get-insert tenants_total m row.tenant row q ∙ ap (λ b. cond b (Some row) (map.get m q)) (tied q row.tenant ∙ e)
get-put_unless None m row false q e = map.get-insert tenants_total m row.tenant row q ∙ ap (λ b. cond b (Some row) (map.get m q)) (tied q row.tenant ∙ e)
get-put_unless (Some version) m row true q e = refl
get-put_unless (Some version) m row false q e = refl

same_tenant : (s t : TenantId) → (s.0 == t.0) ≡ true → s ≡ t
same_tenant s t e = let is : s.0 ≡ t.0 = grind arith in λ i. record { 0 = is i }

module _ (d : Listing) (row : TenantPods) (rows : List TenantPods) (h : StandsFor d rows) where
  abbrev stale : Option ℕ
  stale = stale_version (map.get d.rows row.tenant) row

  counts : (tenant : TenantId) → row.tenant ≡ tenant → kept_after stale row (map.get d.rows tenant) ≡ newest (row ∷ rows_of tenant rows)
  counts tenant same =
      let own : kept_after stale row (map.get d.rows row.tenant) ≡ newest (row ∷ rows_of row.tenant rows)
      = ap (λ (o : Option TenantPods). kept_after (stale_version o row) row o) (h row.tenant) ∙ sym (newest_more row (rows_of row.tenant rows)) in
      subst (λ (t : TenantId). kept_after stale row (map.get d.rows t) ≡ newest (row ∷ rows_of t rows)) same own

  at : (tenant : TenantId) (b : Bool) → (row.tenant.0 == tenant.0) ≡ b
      → map.get (rows_after d.rows row) tenant ≡ newest (if b then row ∷ rows_of tenant rows else rows_of tenant rows)
  at tenant true e = get-put_unless stale d.rows row true tenant e ∙ counts tenant (same_tenant row.tenant tenant e)
  at tenant false e = get-put_unless stale d.rows row false tenant e ∙ h tenant

pub stands_after : (d : Listing) (row : TenantPods) (rows : List TenantPods) → StandsFor d rows → StandsFor (record d { rows = rows_after d.rows row }) (row ∷ rows)
stands_after d row rows h tenant = at d row rows h tenant (row.tenant.0 == tenant.0) refl

-- said of the directory that comes of it
pub stands_then : (d new : Listing) (row : TenantPods) → new ≡ record d { rows = rows_after d.rows row } → (rows : List TenantPods) → StandsFor d rows → StandsFor new (row ∷ rows)
stands_then d new row e rows h = subst (λ (x : Listing). StandsFor x (row ∷ rows)) (sym e) (stands_after d row rows h)

pub stands_for_none : (d : Listing) → d.rows ≡ map.empty → StandsFor d []
stands_for_none d e tenant = ap (λ (m : map.FinMap tenants TenantPods). map.get m tenant) e ∙ map.get-empty tenants tenant
