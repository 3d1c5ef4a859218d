-- The parameters that a World may start with.
use Rattle.std.specs.Prelude.{◌≡◌, ℕ, ◌==◌, Bool, true, not, ◌&&◌, List, length, codes}
use Rattle.std.specs.List.{AllByRecursion, list_any}
use Rattle.std.specs.Str.{bytes_eq}
use Rattle.pgw_messages.specs.Startup.{Fits}
use Rattle.pgw_messages.specs.declared.params.Pair.{Pair}

abbrev pub has_zero : List ℕ → Bool
has_zero b = list_any (λ c. c == 0) b

-- a name that is there and not that of a revival token, and no zero byte in it or its value
abbrev pub is_plain : Pair → Bool
is_plain q = not (length q.name == 0) && not (bytes_eq q.name (codes "crdb:session_revival_token_base64")) && not (has_zero q.name) && not (has_zero q.value)

pub record CanStart (p : List Pair) : Type 0 where
  pub plain : AllByRecursion (λ q. is_plain q ≡ true) p
  pub fits : Fits p
