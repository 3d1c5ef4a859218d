-- Where the pair of each name stands, in a map beside the list.
use Rattle.std.specs.Prelude.{◌≡◌, ℕ, List, position}
use Rattle.std.specs.BTreeMap as tree
use Rattle.std.specs.BTreeMap.{BTreeMap}
use Rattle.std.specs.Cmp.Lexicographic.{slice_cmp}
use Rattle.std.specs.Ordering.{nat_cmp}
use Rattle.std.proofs.Common.{Bor}
use Rattle.pgw_messages.specs.declared.params.Pair.{Pair}
use Rattle.pgw_messages.specs.Params.{is_named}

-- the map has each name's place
abbrev pub Points : BTreeMap (Bor (List ℕ)) ℕ → List Pair → Type 0
Points places p = (name : List ℕ) → tree.get_by (λ k. slice_cmp nat_cmp name k.now) places ≡ position (is_named name) p
