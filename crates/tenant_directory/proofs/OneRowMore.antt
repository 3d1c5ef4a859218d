-- The newest row of a list, and of a list with one row more.
use Rattle.std.proofs.Common.{◌≡◌, ℕ, ◌<◌, ◌≤◌, max, Bool, true, false, List, [], ◌∷◌, Option, Some, None, refl, sym, ap, ◌∙◌, arith, ⊎_elim}
use Rattle.std.specs.Prelude.{◌==◌, nat_le, filter, unwrap_or, if◌then◌else◌}
use Rattle.std.proofs.lemmas.Bool.{cases_lt}
use Rattle.tenant_directory.specs.Rows.{TenantPods}
use Rattle.tenant_directory.specs.Newest.{greatest_version, has_version, earliest, newest, stale_version}

-- ---- rows of one version

dropped : (v : ℕ) (r : TenantPods) (rs : List TenantPods) (b : Bool) → has_version v r ≡ b → max r.version (greatest_version rs) < v → filter (has_version v) rs ≡ [] → (if b then r ∷ filter (has_version v) rs else filter (has_version v) rs) ≡ []
dropped v r rs true e lt h = let is : r.version ≡ v = grind arith in absurd (omega arith)
dropped v r rs false e lt h = h

-- no row has a version above the greatest
none_above : (v : ℕ) (rs : List TenantPods) → greatest_version rs < v → filter (has_version v) rs ≡ []
none_above v [] lt = refl
none_above v (r ∷ rs) lt = dropped v r rs (has_version v r) refl lt (none_above v rs (omega arith))

picked : (b : Bool) (r : TenantPods) (rs : List TenantPods) (k : TenantPods) → earliest rs ≡ Some k → earliest (if b then r ∷ rs else rs) ≡ Some k
picked true r rs k e = ap (λ (o : Option TenantPods). Some (unwrap_or o r)) e
picked false r rs k e = e

same_version : (v : ℕ) → (v == v) ≡ true
same_version v = grind arith

-- ---- the newest

-- it counts, and has the greatest version
pub record IsNewest (rs : List TenantPods) (k : TenantPods) : Type 0 where
  pub is : newest rs ≡ Some k
  pub top : k.version ≡ greatest_version rs

only : (b : Bool) (r : TenantPods) → b ≡ true → earliest (if b then r ∷ [] else []) ≡ Some r
only true r e = refl
only false r e = absurd cc

-- a row with a greater version than all others
alone : (r : TenantPods) (rs : List TenantPods) (v : ℕ) → v ≡ r.version → greatest_version rs < v → earliest (filter (has_version v) (r ∷ rs)) ≡ Some r
alone r rs v e lt = rw (none_above v rs lt) (only (has_version v r) r (ap (λ (n : ℕ). r.version == n) e ∙ same_version r.version))

above : (r : TenantPods) (rs : List TenantPods) → greatest_version rs < r.version → IsNewest (r ∷ rs) r
above r rs lt =
    let top : r.version ≡ max r.version (greatest_version rs) = omega arith in
    record { is = alone r rs (max r.version (greatest_version rs)) (sym top) (omega arith); top = top }

picked_at : (r : TenantPods) (rs : List TenantPods) (k : TenantPods) (v : ℕ) → v ≡ greatest_version rs → newest rs ≡ Some k → earliest (filter (has_version v) (r ∷ rs)) ≡ Some k
picked_at r rs k v e h = picked (has_version v r) r (filter (has_version v) rs) k (ap (λ (w : ℕ). earliest (filter (has_version w) rs)) e ∙ h)

below : (r : TenantPods) (rs : List TenantPods) (k : TenantPods) → r.version ≤ k.version → IsNewest rs k → IsNewest (r ∷ rs) k
below r rs k le n =
    let t : k.version ≡ greatest_version rs = n.top in
    let same : max r.version (greatest_version rs) ≡ greatest_version rs = omega arith in
    record { is = picked_at r rs k (max r.version (greatest_version rs)) same n.is; top = n.top ∙ sym same }

first_row : (r : TenantPods) → newest (r ∷ []) ≡ Some r
first_row r = only (has_version (max r.version 0) r) r (let e : max r.version 0 ≡ r.version = omega arith in ap (λ (n : ℕ). r.version == n) e ∙ same_version r.version)

newest_of : (r : TenantPods) (rs : List TenantPods) → (k : TenantPods) × IsNewest (r ∷ rs) k
newest_of r [] = (r, record { is = first_row r; top = omega arith })
newest_of r (s ∷ ss) =
    let n = newest_of s ss in
    ⊎_elim (λ (lt : (n.0).version < r.version). (r, above r (s ∷ ss) (let t : (n.0).version ≡ greatest_version (s ∷ ss) = n.1.top in omega arith)))
    (λ (le : r.version ≤ (n.0).version). (n.0, below r (s ∷ ss) n.0 le n.1)) (cases_lt (n.0).version r.version)

-- ---- one row more

-- the row that counts then
abbrev pub kept_after : Option ℕ → TenantPods → Option TenantPods → Option TenantPods
kept_after None r kept = Some r
kept_after (Some version) r kept = kept

more : (r : TenantPods) (rs : List TenantPods) (k : TenantPods) (b : Bool) → nat_le r.version k.version ≡ b → IsNewest rs k → newest (r ∷ rs) ≡ kept_after (if b then Some k.version else None) r (Some k)
more r rs k true e n = (below r rs k (grind arith) n).is
more r rs k false e n = let t : k.version ≡ greatest_version rs = n.top in let lt : k.version < r.version = grind arith in (above r rs (omega arith)).is

pub newest_more : (r : TenantPods) (rs : List TenantPods) → newest (r ∷ rs) ≡ kept_after (stale_version (newest rs) r) r (newest rs)
newest_more r [] = first_row r
newest_more r (s ∷ ss) = let n = newest_of s ss in rw n.1.is (more r (s ∷ ss) n.0 (nat_le r.version (n.0).version) refl n.1)

-- ---- whether a row is stale

pub stale_at : (row kept : TenantPods) (m n : ℕ) → m ≡ row.version → n ≡ kept.version → m ≤ n → Some n ≡ stale_version (Some kept) row
stale_at row kept m n e f le = let t : nat_le row.version kept.version ≡ true = grind arith in rw t (ap Some f)

pub fresh_at : (row kept : TenantPods) (m n : ℕ) → m ≡ row.version → n ≡ kept.version → n < m → None ≡ stale_version (Some kept) row
fresh_at row kept m n e f lt = let t : nat_le row.version kept.version ≡ false = grind arith in rw t refl
