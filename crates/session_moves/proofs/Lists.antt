-- Lists that are told.
use Rattle.std.proofs.Common.{◌≡◌, ℕ, zero, suc, List, [], ◌∷◌, ◌++◌, length, take, drop, Option, Some, None, refl, ap, ◌∙◌}
use Rattle.std.proofs.lemmas.List.{take-append-drop}
use Rattle.std.specs.Prelude.{slice_get}
use Rattle.pgw_frames.specs.Frames.{Begins}
use Rattle.proxy_links.specs.Links.{LinkRecord, hung}
use Rattle.proxy_links.specs.Told.{push, blank}

pub get_front : {A : Type 0} (xs more : List A) (i : ℕ) (x : A) → slice_get xs i ≡ Some x → slice_get (xs ++ more) i ≡ Some x
get_front [] more i x e = absurd cc
get_front (y ∷ xs) more zero x e = e
get_front (y ∷ xs) more (suc i) x e = get_front xs more i x e

pub get_last : {A : Type 0} (xs : List A) (x : A) → slice_get (xs ++ x ∷ []) (length xs) ≡ Some x
get_last [] x = refl
get_last (y ∷ xs) x = get_last xs x

pub some_is : {A : Type 0} (x y : A) → Some x ≡ Some y → x ≡ y
some_is x y e = cc

-- one record more, where a new link's bytes are told
pub hung_told : (o : Option (List LinkRecord)) (r : List ℕ → List ℕ → LinkRecord) (s g : List ℕ) (x y : Option (List ℕ)) → x ≡ push (blank o) s → y ≡ push (blank o) g → hung o r x y ≡ push o (r s g ∷ [])
hung_told None r s g x y p q = refl
hung_told (Some rs) r s g x y p q = ap (λ (v : Option (List ℕ)). hung (Some rs) r v y) p ∙ ap (λ (v : Option (List ℕ)). hung (Some rs) r (Some s) v) q

pub blank_push : (o : Option (List LinkRecord)) (more : List LinkRecord) → blank {B = ℕ} (push o more) ≡ blank o
blank_push None more = refl
blank_push (Some rs) more = refl

pub front_begins : (n : ℕ) (xs : List ℕ) → Begins (take n xs) xs
front_begins n xs = (drop n xs, take-append-drop n xs)
