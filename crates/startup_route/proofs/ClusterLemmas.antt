-- Words, and the clusters that they name.
use Rattle.std.proofs.Common.{◌≡◌, ◌∙◌, ℕ, ◌+◌, ◌<◌, ◌≤◌, Bool, true, false, List, [], ◌∷◌, ◌++◌, length, take, get_or, Ok, Err, Bor, refl, sym, ap, arith, append_assoc}
use Rattle.std.specs.Prelude.{map, ◌&&◌, if◌then◌else◌}
use Rattle.std.specs.List.{list_all, position_or_len, join_with_byte}
use Rattle.std.specs.Str.{bytes_eq}
use Rattle.std.proofs.lemmas.List.{map_push, take_more, length-map, length-take}
use Rattle.startup_route.specs.declared.fault.DoorFault.TheVariants as fault
use Rattle.startup_route.specs.Clusters.{is_dot, has_dot, prefixes, database_left, one_of}

abbrev pub now : Bor (List ℕ) → List ℕ
now w = w.now

-- ---- a database without a dot

no_dot_by : (c : ℕ) (cs : List ℕ) (b : Bool) → is_dot c ≡ b → position_or_len is_dot (c ∷ cs) ≡ length (c ∷ cs) → (position_or_len is_dot cs ≡ length cs → has_dot cs ≡ false) → has_dot (c ∷ cs) ≡ false
no_dot_by c cs true e len more = let none : 0 ≡ length (c ∷ cs) = rw e at len in absurd (omega arith)
no_dot_by c cs false e len more = let all : 1 + position_or_len is_dot cs ≡ length (c ∷ cs) = rw e at len in rw e (more (omega (arith, all)))

no_dot : (database : List ℕ) → position_or_len is_dot database ≡ length database → has_dot database ≡ false
no_dot [] len = refl
no_dot (c ∷ cs) len = no_dot_by c cs (is_dot c) refl len (no_dot cs)

pub no_prefix : (database : List ℕ) → position_or_len is_dot database ≡ length database → ([] ≡ prefixes database) × (database ≡ database_left database)
no_prefix database len = let none = no_dot database len in (rw none refl, rw none refl)

-- ---- one name

all_now : (x : List ℕ) (ns : List (Bor (List ℕ))) → list_all (λ n. bytes_eq x n.now) ns ≡ list_all (bytes_eq x) (map now ns)
all_now x [] = refl
all_now x (n ∷ ns) = ap (λ (b : Bool). bytes_eq x n.now && b) (all_now x ns)

pub one_name : (x : Bor (List ℕ)) (others : List (Bor (List ℕ))) (all : Bool) → list_all (λ n. bytes_eq x.now n.now) others ≡ all
    → one_of (map now (x ∷ others)) ≡ (if all then Ok x.now else Err fault.TwoClusters)
one_name x others all e = ap (λ (b : Bool). if b then Ok x.now else Err fault.TwoClusters) (sym (all_now x.now others) ∙ e)

-- ---- words with a blank between them

pub join_more : (xs : List (List ℕ)) (w : List ℕ) → 0 < length xs → join_with_byte 32 (xs ++ w ∷ []) ≡ join_with_byte 32 xs ++ (32 ∷ w)
join_more [] w some = absurd (omega (arith, some))
join_more (x ∷ []) w some = refl
join_more (x ∷ y ∷ xs) w some =
    ap (λ (t : List ℕ). x ++ (32 ∷ t)) (join_more (y ∷ xs) w (omega arith)) ∙ sym (append_assoc x (32 ∷ join_with_byte 32 (y ∷ xs)) (32 ∷ w))

pub join_first : (ws : List (Bor (List ℕ))) (i : ℕ) (d : Bor (List ℕ)) (old mid new : List ℕ) → i < length ws → old ≡ join_with_byte 32 (map now (take i ws)) → mid ≡ old
    → new ≡ mid ++ (get_or ws i d).now → i ≤ 0 → new ≡ join_with_byte 32 (map now (take (i + 1) ws))
join_first ws i d old mid new lt o m e none =
    let start : i ≡ 0 = omega arith in
    e ∙ rw (m, o, take_more ws i d lt, start) refl

pub join_next : (ws : List (Bor (List ℕ))) (i : ℕ) (d : Bor (List ℕ)) (old blank mid new : List ℕ) → i < length ws → old ≡ join_with_byte 32 (map now (take i ws))
    → blank ≡ 32 ∷ [] → mid ≡ old ++ blank → new ≡ mid ++ (get_or ws i d).now → 0 < i → new ≡ join_with_byte 32 (map now (take (i + 1) ws))
join_next ws i d old blank mid new lt o b m e some =
    let there : 0 < length (map now (take i ws)) = omega (arith, length-map (take i ws) now, length-take i ws, lt, some) in
    e ∙ rw (m, o, b) (append_assoc (join_with_byte 32 (map now (take i ws))) (32 ∷ []) (get_or ws i d).now)
    ∙ sym (join_more (map now (take i ws)) (get_or ws i d).now there)
    ∙ ap (λ (t : List (List ℕ)). join_with_byte 32 t) (sym (map_push now (take i ws) (get_or ws i d)))
    ∙ ap (λ (t : List (Bor (List ℕ))). join_with_byte 32 (map now t)) (sym (take_more ws i d lt))
