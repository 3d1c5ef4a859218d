-- The first place of those that pass a test.
use Rattle.std.proofs.Common.{◌≡◌, ℕ, ◌+◌, Bool, true, false, List, [], ◌∷◌, Option, Some, None, refl, sym, ap, ◌∙◌}
use Rattle.std.specs.Prelude.{◌-◌, ◌^◌, min, filter, position, if◌then◌else◌}
use Rattle.std.specs.List.{position_from}
use Rattle.std.proofs.lemmas.Iterator.Adapters.{position_from-zero}
use Rattle.proxy_outside.specs.declared.addr.Addr.{Addr}
use Rattle.proxy_outside.specs.declared.identity.TenantId.{TenantId}
use Rattle.access_lists.specs.declared.verdict.Verdict.TheVariants.{Denied}
use Rattle.access_lists.specs.Verdicts.{Entries, matches, places_from, is_of, is_barred, answer, verdict}

-- the places begin with the one that was found, and are none where none was
abbrev pub BeginWith : Option ℕ → List ℕ → Type 0
BeginWith (Some i) places = (more : List ℕ) × (places ≡ i ∷ more)
BeginWith None places = places ≡ []

found_by : {A : Type 0} (p : A → Bool) (n : ℕ) (x : A) (xs : List A) (b : Bool) → p x ≡ b → BeginWith (position_from p (n + 1) xs) (places_from p (n + 1) xs)
    → BeginWith (if b then Some n else position_from p (n + 1) xs) (if b then n ∷ places_from p (n + 1) xs else places_from p (n + 1) xs)
found_by p n x xs true e h = (places_from p (n + 1) xs, refl)
found_by p n x xs false e h = h

found_from : {A : Type 0} (p : A → Bool) (n : ℕ) (xs : List A) → BeginWith (position_from p n xs) (places_from p n xs)
found_from p n [] = refl
found_from p n (x ∷ xs) = found_by p n x xs (p x) refl (found_from p (n + 1) xs)

pub found : {A : Type 0} (p : A → Bool) (xs : List A) (o : Option ℕ) → o ≡ position p xs → BeginWith o (places_from p 0 xs)
found p xs o e = rw (e, position_from-zero p xs) (found_from p 0 xs)

-- ---- what they answer

answered : (places : List ℕ) (i : ℕ) (barred : Bool) → BeginWith (Some i) places → Denied (min i (2 ^ 32 - 1)) ≡ answer places barred
answered places i barred h = rw h.1 refl

-- the verdict where the first entry that matches stands at i
pub verdict_at : (lists : Entries) (addr : Addr) (tenant : TenantId) (now i : ℕ) → Some i ≡ position (matches addr tenant now) lists.denies
    → Denied (min i (2 ^ 32 - 1)) ≡ verdict lists addr tenant now
verdict_at lists addr tenant now i e = answered _ i _ (found (matches addr tenant now) lists.denies (Some i) e)

-- the verdict where no entry matches
pub verdict_nowhere : (lists : Entries) (addr : Addr) (tenant : TenantId) (now : ℕ) (barred : Bool) → None ≡ position (matches addr tenant now) lists.denies
    → barred ≡ is_barred addr (filter (is_of tenant) lists.allows) → answer [] barred ≡ verdict lists addr tenant now
verdict_nowhere lists addr tenant now barred e f =
    let none : places_from (matches addr tenant now) 0 lists.denies ≡ [] = found (matches addr tenant now) lists.denies None e in
    ap (answer []) f ∙ ap (λ (places : List ℕ). answer places (is_barred addr (filter (is_of tenant) lists.allows))) (sym none)
