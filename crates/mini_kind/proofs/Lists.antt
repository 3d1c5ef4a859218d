-- What holds of all items of a list, and the lists that are made of it.
use Rattle.std.proofs.Common.{Bool, List, None, Option, Some, [], arith, length, map, suc, zero, ℕ, ◌*◌, ◌++◌, ◌+◌, ◌∷◌, ◌≡◌, ◌≤◌}
use Rattle.std.proofs.lemmas.Bool.{cond_both}
use Rattle.std.proofs.lemmas.List.{length-append}
use Rattle.std.specs.List.{AllByRecursion, flat_map}
use Rattle.std.specs.Option.{unwrap_or}
use Rattle.std.specs.Prelude.{filter, slice_get, ◌-◌}
use Rattle.std.specs.Str.{bytes_eq}
use Rattle.pgw_messages.specs.Params.{is_named, put_all, value_of, with_value}
use Rattle.pgw_messages.specs.declared.params.Pair.{Pair}
use Rattle.mini_kind.specs.Fits.{PortalFits, PreparedFits, TextFits, VariableFits}
use Rattle.mini_kind.specs.Mini.{Portal, find_portal, is_portal, put_portal}
use Rattle.mini_kind.specs.Running.{param_text}
use Rattle.session_blob.specs.Prepared.{Prepared, with_statement, find_prepared, is_prepared_as}

pub all_filter : {A : Type 0} (P : A → Type 0) (p : A → Bool) (xs : List A) → AllByRecursion P xs → AllByRecursion P (filter p xs)
all_filter P p [] h = tt
all_filter P p (x ∷ xs) h = cond_both (p x) (x ∷ filter p xs) (filter p xs) (AllByRecursion P) (λ e. (h.0, all_filter P p xs h.1)) (λ e. all_filter P p xs h.1)

pub all_weaker : {A : Type 0} (P Q : A → Type 0) (xs : List A) → ((x : A) → P x → Q x) → AllByRecursion P xs → AllByRecursion Q xs
all_weaker P Q [] f h = tt
all_weaker P Q (x ∷ xs) f h = (f x h.0, all_weaker P Q xs f h.1)

pub all_map : {A B : Type 0} (P : B → Type 0) (f : A → B) (xs : List A) → AllByRecursion (λ x. P (f x)) xs → AllByRecursion P (map f xs)
all_map P f [] h = tt
all_map P f (x ∷ xs) h = (h.0, all_map P f xs h.1)

pub all_join : {A : Type 0} (P : A → Type 0) (xs ys : List A) → AllByRecursion P xs → AllByRecursion P ys → AllByRecursion P (xs ++ ys)
all_join P [] ys h k = k
all_join P (x ∷ xs) ys h k = (h.0, all_join P xs ys h.1 k)

pub all_with_value : (n v : List ℕ) (p : List Pair) → VariableFits (record { name = n; value = v }) → AllByRecursion VariableFits p → AllByRecursion VariableFits (with_value n v p)
all_with_value n v [] f h = (f, tt)
all_with_value n v (q ∷ p) f h = cond_both (is_named n q) (record { name = q.name; value = v } ∷ p) (q ∷ with_value n v p) (AllByRecursion VariableFits) (λ e. (f, h.1)) (λ e. (h.0, all_with_value n v p f h.1))

pub all_put_all : (qs p : List Pair) → AllByRecursion VariableFits qs → AllByRecursion VariableFits p → AllByRecursion VariableFits (put_all p qs)
all_put_all [] p f h = h
all_put_all (q ∷ qs) p f h = all_put_all qs (with_value q.name q.value p) f.1 (all_with_value q.name q.value p f.0 h)

-- a value that is found
abbrev pub FoundFits : ℕ → Option (List ℕ) → Type 0
FoundFits n None = Unit {0}
FoundFits n (Some v) = length v ≤ n

pub value_found : (n : List ℕ) (most : ℕ) (p : List Pair) → AllByRecursion (λ (q : Pair). length q.value ≤ most) p → FoundFits most (value_of n p)
value_found n most [] h = tt
value_found n most (q ∷ p) h = cond_both (is_named n q) (Some q.value) (value_of n p) (FoundFits most) (λ e. h.0) (λ e. value_found n most p h.1)

pub all_with_statement : (n t : List ℕ) (ts : List ℕ) (xs : List Prepared) → length t ≤ 16777215 → AllByRecursion PreparedFits xs → AllByRecursion PreparedFits (with_statement n t ts xs)
all_with_statement n t ts [] f h = (f, tt)
all_with_statement n t ts (y ∷ ys) f h = cond_both (bytes_eq y.name n) (record { name = y.name; query = t; types = ts } ∷ ys) (y ∷ with_statement n t ts ys) (AllByRecursion PreparedFits) (λ e. (f, h.1)) (λ e. (h.0, all_with_statement n t ts ys f h.1))

pub all_put_portal : (x : Portal) (xs : List Portal) → PortalFits x → AllByRecursion PortalFits xs → AllByRecursion PortalFits (put_portal x xs)
all_put_portal x [] f h = (f, tt)
all_put_portal x (y ∷ ys) f h = cond_both (is_portal x.name y) (x ∷ ys) (y ∷ put_portal x ys) (AllByRecursion PortalFits) (λ e. (f, h.1)) (λ e. (h.0, all_put_portal x ys f h.1))

abbrev pub IfFound : {A : Type 0} → (A → Type 0) → Option A → Type 0
IfFound P None = Unit {0}
IfFound P (Some x) = P x

pub found_prepared : (n : List ℕ) (xs : List Prepared) → AllByRecursion PreparedFits xs → IfFound PreparedFits (find_prepared n xs)
found_prepared n [] h = tt
found_prepared n (x ∷ xs) h = cond_both (is_prepared_as n x) (Some x) (find_prepared n xs) (IfFound PreparedFits) (λ e. h.0) (λ e. found_prepared n xs h.1)

pub found_portal : (n : List ℕ) (xs : List Portal) → AllByRecursion PortalFits xs → IfFound PortalFits (find_portal n xs)
found_portal n [] h = tt
found_portal n (x ∷ xs) h = cond_both (is_portal n x) (Some x) (find_portal n xs) (IfFound PortalFits) (λ e. h.0) (λ e. found_portal n xs h.1)

text_at_place : (n : ℕ) (ts : List (List ℕ)) → AllByRecursion TextFits ts → TextFits (unwrap_or (slice_get ts n) [])
text_at_place n [] h = omega arith
text_at_place zero (t ∷ ts) h = h.0
text_at_place (suc n) (t ∷ ts) h = text_at_place n ts h.1

pub text_found : (n : ℕ) (ts : List (List ℕ)) → AllByRecursion TextFits ts → TextFits (param_text ts n)
text_found n ts h = text_at_place (n - 1) ts h

-- a list of items, each with 300 bytes at most
pub length-flat-le : {A : Type 0} (f : A → List ℕ) (xs : List A) → AllByRecursion (λ x. length (f x) ≤ 300) xs → length (flat_map f xs) ≤ 300 * length xs
length-flat-le f [] h = omega arith
length-flat-le f (x ∷ xs) h =
    let more = length-flat-le f xs h.1 in
    let one : length (f x ++ flat_map f xs) ≡ length (f x) + length (flat_map f xs) = length-append (f x) (flat_map f xs) in
    let first : length (f x) ≤ 300 = h.0 in
    omega arith
