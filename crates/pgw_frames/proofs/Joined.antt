-- Pieces of a stream, joined one after another.
use Rattle.std.proofs.Common.{◌≡◌, ℕ, ◌+◌, ◌<◌, List, [], ◌∷◌, ◌++◌, length, take, flat_map, get_or, refl, sym, ap, ◌∙◌}
use Rattle.std.proofs.lemmas.Grind.{flat_map-append}
use Rattle.std.proofs.lemmas.List.{append-nil, take_more}
use Rattle.pgw_frames.specs.Frames.{rest, bad}
use Rattle.pgw_frames.proofs.Fronts.{rest-append}

-- the first pieces, joined
abbrev pub joined : ℕ → List (List ℕ) → List ℕ
joined n pieces = flat_map (λ p. p) (take n pieces)

pub joined_more : (pieces : List (List ℕ)) (i : ℕ) (piece : List ℕ) → i < length pieces → piece ≡ get_or pieces i piece → joined (i + 1) pieces ≡ joined i pieces ++ piece
joined_more pieces i piece lt is =
    ap (λ (ps : List (List ℕ)). flat_map (λ p. p) ps) (take_more pieces i piece lt)
    ∙ flat_map-append (λ p. p) (take i pieces) (get_or pieces i piece ∷ [])
    ∙ ap (λ (p : List ℕ). joined i pieces ++ p) (append-nil (get_or pieces i piece) ∙ sym is)

-- what follows the frames of a longer stream is bad where it is bad behind those that stand already
pub bad-append : (b x : List ℕ) → bad (b ++ x) ≡ bad (rest b ++ x)
unfolding bad
bad-append b x = rw rest-append refl
