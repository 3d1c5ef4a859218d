-- What one call changes of a listing.
use Rattle.std.proofs.Common.{◌≡◌, ℕ, Option, Some, None, Result, Ok, Err, OnErr, Bor, option_copied, sym, ap, ◌∙◌}
use Rattle.pgw_frames.specs.declared.memory.NoMemory.{NoMemory}
use Rattle.std.specs.BTreeMap as tree
use Rattle.std.specs.BTreeMap.{BTreeMap}
use Rattle.std.specs.FinMap as map
use Rattle.proxy_outside.specs.declared.identity.TenantId.{TenantId}
use Rattle.proxy_outside.specs.declared.identity.SessionNo.{SessionNo}
use Rattle.proxy_outside.specs.Orders.{tenants, tenants_total, tenants_exact, sessions, sessions_total, sessions_exact}
use Rattle.proxy_outside.specs.Tables.{table_of, get-table_of, table_of-insert, table_of-remove}
use Rattle.tenant_directory.specs.declared.directory.Home.{Home}
use Rattle.tenant_directory.specs.Rows.{TenantPods}
use Rattle.tenant_directory.specs.Newest.{stale_version}
use Rattle.tenant_directory.specs.Standing.{Listing, put_unless, rows_after}

abbrev pub listing : map.FinMap tenants TenantPods → map.FinMap sessions Home → Listing
listing rows homes = record { rows = rows; homes = homes }

abbrev with_home : SessionNo → Home → Listing → Listing
with_home s h d = record d { homes = map.insert d.homes s h }

abbrev without_home : SessionNo → Listing → Listing
without_home s d = record d { homes = map.remove d.homes s }

pub home_put : (now : Listing) (rows : BTreeMap TenantId TenantPods) (old new : BTreeMap SessionNo Home) (s : SessionNo) (h : Home) → listing (table_of rows) (table_of old) ≡ now
    → tree.Updates sessions old new s (Some h) → listing (table_of rows) (table_of new) ≡ with_home s h now
home_put now rows old new s h is u = ap (listing (table_of rows)) (table_of-insert sessions_total sessions_exact old new s h u) ∙ ap (with_home s h) is

pub home_removed : (now : Listing) (rows : BTreeMap TenantId TenantPods) (old new : BTreeMap SessionNo Home) (s : SessionNo) → listing (table_of rows) (table_of old) ≡ now
    → tree.Updates sessions old new s None → listing (table_of rows) (table_of new) ≡ without_home s now
home_removed now rows old new s is u = ap (listing (table_of rows)) (table_of-remove sessions_total sessions_exact old new s u) ∙ ap (without_home s) is

abbrev with_row : TenantId → TenantPods → Listing → Listing
with_row t r d = record d { rows = map.insert d.rows t r }

abbrev after : Listing → TenantPods → Option ℕ → Listing
after now row stale = record now { rows = put_unless stale now.rows row }

pub row_put : (now : Listing) (old new : BTreeMap TenantId TenantPods) (homes : BTreeMap SessionNo Home) (t : TenantId) (row : TenantPods) → listing (table_of old) (table_of homes) ≡ now
    → t ≡ row.tenant → None ≡ stale_version (map.get now.rows row.tenant) row → tree.Updates tenants old new t (Some row)
    → listing (table_of new) (table_of homes) ≡ record now { rows = rows_after now.rows row }
row_put now old new homes t row is e fresh u =
    ap (λ (r : map.FinMap tenants TenantPods). listing r (table_of homes)) (table_of-insert tenants_total tenants_exact old new t row u) ∙ ap (with_row t row) is
    ∙ ap (λ (q : TenantId). with_row q row now) e ∙ ap (after now row) fresh

pub row_stays : (now : Listing) (row : TenantPods) (version : ℕ) → stale_version (map.get now.rows row.tenant) row ≡ Some version → now ≡ record now { rows = rows_after now.rows row }
row_stays now row version e = ap (after now row) (sym e)

-- ---- what is looked up

row_at : (now : Listing) (rows : BTreeMap TenantId TenantPods) (homes : BTreeMap SessionNo Home) (t : TenantId) → listing (table_of rows) (table_of homes) ≡ now → map.get now.rows t ≡ tree.get tenants rows t
row_at now rows homes t is = sym (ap (λ (d : Listing). map.get d.rows t) is) ∙ get-table_of tenants_total rows t

home_at : (now : Listing) (rows : BTreeMap TenantId TenantPods) (homes : BTreeMap SessionNo Home) (s : SessionNo) → listing (table_of rows) (table_of homes) ≡ now → map.get now.homes s ≡ tree.get sessions homes s
home_at now rows homes s is = sym (ap (λ (d : Listing). map.get d.homes s) is) ∙ get-table_of sessions_total homes s

-- ---- what a look-up gave

pub row_found : (now : Listing) (rows : BTreeMap TenantId TenantPods) (homes : BTreeMap SessionNo Home) (t : TenantId) (o p : Option (Bor TenantPods)) → listing (table_of rows) (table_of homes) ≡ now
    → o ≡ p → option_copied o ≡ tree.get tenants rows t → option_copied p ≡ map.get now.rows t
row_found now rows homes t o p is e h = ap option_copied (sym e) ∙ h ∙ sym (row_at now rows homes t is)

pub home_found : (now : Listing) (rows : BTreeMap TenantId TenantPods) (homes : BTreeMap SessionNo Home) (s : SessionNo) (o p : Option (Bor Home)) → listing (table_of rows) (table_of homes) ≡ now
    → o ≡ p → option_copied o ≡ tree.get sessions homes s → option_copied p ≡ map.get now.homes s
home_found now rows homes s o p is e h = ap option_copied (sym e) ∙ h ∙ sym (home_at now rows homes s is)

-- ---- no home, and no memory for one

pub none_there : (r : Result (Unit {0}) NoMemory) (now : Listing) (rows : BTreeMap TenantId TenantPods) (homes : BTreeMap SessionNo Home) (s : SessionNo) → listing (table_of rows) (table_of homes) ≡ now
    → tree.get sessions homes s ≡ None → OnErr r (map.get now.homes s ≡ None)
none_there (Ok x) now rows homes s is none = tt
none_there (Err e) now rows homes s is none = home_at now rows homes s is ∙ none
