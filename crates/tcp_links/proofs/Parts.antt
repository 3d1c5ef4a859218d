-- What is left of a part of a buffer.
use Rattle.std.proofs.Common.{◌≡◌, ℕ, ◌+◌, ◌-◌, ◌≤◌, List, drop, refl, arith}
use Rattle.std.proofs.lemmas.List.{drop-take, drop-drop}
use Rattle.tcp_links.specs.Part.{part}

pub part_rest : (at end count : ℕ) (xs : List ℕ) → count ≤ end - at → part (at + count) end xs ≡ drop count (part at end xs)
part_rest at end count xs le =
    let m : ℕ = end - (at + count) in
    let e : end - at ≡ count + m = omega arith in
    rw (e, drop-take count m (drop at xs), drop-drop count at xs) refl
