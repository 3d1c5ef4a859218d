-- Whether bytes were read as UTF-8.
use Rattle.std.proofs.Common.{◌≡◌, ℕ, Bool, true, false, List, refl, sym}
use Rattle.std.specs.declared.result.Result.{Result}
use Rattle.std.specs.declared.result.Result.TheVariants.{Ok, Err}
use Rattle.std.specs.Result.{MatchResult, is_ok}
use Rattle.std.specs.Str.{IsUtf8, is_utf8}
use Rattle.std.proofs.lemmas.Str.{IsUtf8-from_is_utf8, is_utf8-from_IsUtf8}

pub was_read : {T E : Type 0} (P : T → Type 0) (Q : E → Type 0) (b : List ℕ) (r : Result T E) → MatchResult r (λ s. P s × IsUtf8 b) (λ e. (¬ IsUtf8 b) × Q e) → is_ok r ≡ is_utf8 b
was_read P Q b (Ok s) h = sym (is_utf8-from_IsUtf8 b h.1)
was_read P Q b (Err x) h = by (is_utf8 b) refl
  where
    by : (t : Bool) → is_utf8 b ≡ t → false ≡ is_utf8 b
    by true e = absurd (h.0 (IsUtf8-from_is_utf8 b e))
    by false e = sym e
