-- The body of a startup packet with one more pair.
use Rattle.std.proofs.Common.{◌≡◌, List, [], ◌∷◌, ◌++◌, ap, ℕ}
use Rattle.std.specs.Int.{w32, to_be_bytes}
use Rattle.std.specs.List.{flat_map}
use Rattle.std.proofs.lemmas.List.{flat_map_more}
use Rattle.pgw_messages.specs.declared.params.Pair.{Pair}
use Rattle.pgw_messages.specs.Startup.{pair_bytes, startup_body}

pub body_with : (p : List Pair) (q : Pair) → to_be_bytes w32 196608 ++ flat_map pair_bytes p ++ pair_bytes q ++ 0 ∷ [] ≡ startup_body (p ++ q ∷ [])
body_with p q = ap (λ (b : List ℕ). b ++ 0 ∷ []) (flat_map_more pair_bytes (to_be_bytes w32 196608) p q)
