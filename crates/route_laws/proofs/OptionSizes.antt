-- What is left of the options and of the database is no longer than they were.
use Rattle.std.proofs.Common.{ℕ, ◌+◌, ◌≤◌, Bool, List, [], ◌∷◌, length, arith}
use Rattle.std.specs.Prelude.{filter, not}
use Rattle.std.specs.List.{slice_split, onto_first, join_with_byte, after_first, position_or_len}
use Rattle.std.proofs.lemmas.Bool.{cond_both}
use Rattle.std.proofs.lemmas.List.{length-append, length-drop}
use Rattle.startup_route.specs.Clusters.{is_blank, is_dot, has_bytes, has_dot, names_cluster, options_left, database_left}

-- these texts, with one byte more each
abbrev ended_len : List (List ℕ) → ℕ
ended_len [] = 0
ended_len (w ∷ ws) = length w + 1 + ended_len ws

onto_len : (c : ℕ) (ws : List (List ℕ)) (n : ℕ) → ended_len ws ≤ n + 1 → ended_len (onto_first c ws) ≤ n + 2
onto_len c [] n le = omega arith
onto_len c (w ∷ ws) n le = omega (arith, le)

split_len : (f : ℕ → Bool) (b : List ℕ) → ended_len (slice_split f b) ≤ length b + 1
split_len f [] = omega arith
split_len f (c ∷ b) =
    cond_both (f c) ([] ∷ slice_split f b) (onto_first c (slice_split f b)) (λ ws. ended_len ws ≤ length (c ∷ b) + 1)
    (λ e. omega (arith, split_len f b)) (λ e. omega (arith, onto_len c (slice_split f b) (length b) (split_len f b)))

kept_len : (f : List ℕ → Bool) (ws : List (List ℕ)) → ended_len (filter f ws) ≤ ended_len ws
kept_len f [] = omega arith
kept_len f (w ∷ ws) = cond_both (f w) (w ∷ filter f ws) (filter f ws) (λ x. ended_len x ≤ ended_len (w ∷ ws)) (λ e. omega (arith, kept_len f ws)) (λ e. omega (arith, kept_len f ws))

joined_len : (ws : List (List ℕ)) (n : ℕ) → ended_len ws ≤ n + 1 → length (join_with_byte 32 ws) ≤ n
joined_len [] n le = omega arith
joined_len (w ∷ []) n le = omega (arith, le)
joined_len (w ∷ x ∷ ws) n le =
    let more : length (join_with_byte 32 (x ∷ ws)) + 1 ≤ ended_len (x ∷ ws) = tail_len x ws in
    omega (arith, length-append w (32 ∷ join_with_byte 32 (x ∷ ws)), more, le)
  where
    tail_len : (y : List ℕ) (ys : List (List ℕ)) → length (join_with_byte 32 (y ∷ ys)) + 1 ≤ ended_len (y ∷ ys)
    tail_len y [] = omega arith
    tail_len y (z ∷ zs) = omega (arith, length-append y (32 ∷ join_with_byte 32 (z ∷ zs)), tail_len z zs)

pub options_len : (options : List ℕ) → length (options_left options) ≤ length options
options_len options =
    let pieces : List (List ℕ) = slice_split is_blank options in
    let words : List (List ℕ) = filter has_bytes pieces in
    joined_len (filter (λ w. not (names_cluster w)) words) (length options)
    (omega (arith, kept_len (λ w. not (names_cluster w)) words, kept_len has_bytes pieces, split_len is_blank options))

pub database_len : (database : List ℕ) → length (database_left database) ≤ length database
database_len database =
    cond_both (has_dot database) (after_first is_dot database) database (λ x. length x ≤ length database)
    (λ e. omega (arith, length-drop (position_or_len is_dot database + 1) database)) (λ e. omega arith)
