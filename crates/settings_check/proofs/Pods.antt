-- The pods of one tenant more.
use Rattle.std.proofs.Common.{◌≡◌, ℕ, ◌+◌, ◌<◌, ◌≤◌, List, ◌∷◌, length, drop, get_or, sym, ap, ◌∙◌, arith}
use Rattle.std.proofs.lemmas.List.{drop_all, drop_more}
use Rattle.tenant_directory.specs.Rows.{TenantPods}
use Rattle.settings_check.specs.Answers.{pods_of}

pub pods_more : (rows : List TenantPods) (i : ℕ) (row : TenantPods) (so_far total : ℕ) → i < length rows → row ≡ get_or rows i row → so_far + pods_of (drop i rows) ≡ total
    → (so_far + length row.pods) + pods_of (drop (i + 1) rows) ≡ total
unfolding pods_of
pods_more rows i row so_far total lt here e =
    let split : drop i rows ≡ row ∷ drop (i + 1) rows = drop_more rows i row lt ∙ ap (λ (r : TenantPods). r ∷ drop (i + 1) rows) (sym here) in
    let both : pods_of (drop i rows) ≡ length row.pods + pods_of (drop (i + 1) rows) = ap pods_of split in
    omega (arith, both, e)

pub pods_end : (rows : List TenantPods) (i so_far total : ℕ) → length rows ≤ i → so_far + pods_of (drop i rows) ≡ total → so_far ≡ total
unfolding pods_of
pods_end rows i so_far total le e =
    let none : pods_of (drop i rows) ≡ 0 = ap pods_of (drop_all i rows le) in
    omega (arith, none, e)
