-- A state that passes the test has a spelling, and its bytes are bytes.
use Rattle.std.proofs.Common.{Bool, List, [], arith, false, length, refl, true, ℕ, ◌++◌, ◌<◌, ◌∷◌, ◌≡◌, ◌^◌}
use Rattle.std.proofs.lemmas.Bool.{and_parts, leb-true, ltb-true}
use Rattle.std.specs.Int.{to_be_bytes, w16, w32}
use Rattle.std.specs.List.{AllByRecursion, IsDistinct, flat_map, list_all}
use Rattle.std.specs.Prelude.{nat_le, not, ◌&&◌, ◌||◌}
use Rattle.std.specs.Str.{bytes_eq, is_utf8}
use Rattle.pgw_frames.specs.Frames.{IsBytes}
use Rattle.pgw_messages.specs.Spelling.{list_bytes}
use Rattle.pgw_messages.specs.declared.params.Pair.{Pair}
use Rattle.session_blob.specs.Blob.{IsPrepared, IsSpelling, IsVariable, most_blob, prepared_bytes, sized, state_bytes, variable_bytes}
use Rattle.session_blob.specs.Entries.{is_among, prepared_names, variable_names}
use Rattle.session_blob.specs.Prepared.{Prepared}
use Rattle.session_blob.specs.declared.state.State.{State}
use Rattle.mini_kind.proofs.Bytes.{AllBytes, all_append, all_flat, bytes_from_all, bytes_w16, bytes_w32, text_all_bytes}
use Rattle.mini_kind.specs.Spelled.{differ, has_room, has_spelling, is_countable, is_prepared, is_type, is_variable, is_well_formed}

-- ---- names that differ

not_true : (b : Bool) → not b ≡ true → b ≡ false
not_true true e = absurd cc
not_true false e = refl

neither : (a b : Bool) → (a || b) ≡ false → (a ≡ false) × (b ≡ false)
neither true b e = absurd cc
neither false b e = (refl, e)

apart : (n : List ℕ) (ns : List (List ℕ)) → is_among n ns ≡ false → AllByRecursion (λ m. bytes_eq n m ≡ false) ns
apart n [] e = tt
apart n (m ∷ ns) e = let p = neither (bytes_eq n m) (is_among n ns) e in (p.0, apart n ns p.1)

distinct_is : (ns : List (List ℕ)) → differ ns ≡ true → IsDistinct bytes_eq ns
unfolding IsDistinct
distinct_is [] e = tt
distinct_is (n ∷ ns) e = let p = and_parts (not (is_among n ns)) (differ ns) e in (apart n ns (not_true (is_among n ns) p.0), distinct_is ns p.1)

-- ---- the parts

types_are : (ts : List ℕ) → list_all is_type ts ≡ true → AllByRecursion (λ n. n < 2 ^ 32) ts
types_are [] e = tt
types_are (t ∷ ts) e = let p = and_parts (is_type t) (list_all is_type ts) e in (omega (arith, ltb-true t 4294967296 p.0), types_are ts p.1)

variables_are : (qs : List Pair) → list_all is_variable qs ≡ true → AllByRecursion IsVariable qs
variables_are [] e = tt
variables_are (q ∷ qs) e =
    let p = and_parts (is_variable q) (list_all is_variable qs) e in
    let u = and_parts (is_utf8 q.name) (is_utf8 q.value) p.0 in
    (record { name = u.0; value = u.1 }, variables_are qs p.1)

prepared_are : (xs : List Prepared) → list_all is_prepared xs ≡ true → AllByRecursion IsPrepared xs
prepared_are [] e = tt
prepared_are (x ∷ xs) e =
    let p = and_parts (is_prepared x) (list_all is_prepared xs) e in
    let u = and_parts (is_utf8 x.name) (is_utf8 x.query && (is_countable x.types && list_all is_type x.types)) p.0 in
    let v = and_parts (is_utf8 x.query) (is_countable x.types && list_all is_type x.types) u.1 in
    let w = and_parts (is_countable x.types) (list_all is_type x.types) v.1 in
    (record { name = u.0; query = v.0; types = record { count = leb-true (length x.types) 65535 w.0; each = types_are x.types w.1 } }, prepared_are xs p.1)

-- ---- a state

pub spelling_is : (s : State) → has_spelling s ≡ true → IsSpelling s (state_bytes s)
spelling_is s e =
    let a = and_parts (has_room s) (is_well_formed s) e in
    let b = and_parts (is_countable s.variables) (is_countable s.statements && nat_le (length (state_bytes s)) most_blob) a.0 in
    let c = and_parts (is_countable s.statements) (nat_le (length (state_bytes s)) most_blob) b.1 in
    let d = and_parts (is_utf8 s.user && is_utf8 s.database) _ a.1 in
    let f = and_parts (is_utf8 s.user) (is_utf8 s.database) d.0 in
    let g = and_parts (differ (variable_names s.variables) && list_all is_variable s.variables) (differ (prepared_names s.statements) && list_all is_prepared s.statements) d.1 in
    let h = and_parts (differ (variable_names s.variables)) (list_all is_variable s.variables) g.0 in
    let i = and_parts (differ (prepared_names s.statements)) (list_all is_prepared s.statements) g.1 in
    record {
      user = f.0;
      database = f.1;
      variables = record { count = leb-true (length s.variables) 65535 b.0; distinct = distinct_is (variable_names s.variables) h.0; each = variables_are s.variables h.1 };
      statements = record { count = leb-true (length s.statements) 65535 c.0; distinct = distinct_is (prepared_names s.statements) i.0; each = prepared_are s.statements i.1 };
      bytes = refl;
      within = leb-true (length (state_bytes s)) most_blob c.1;
    }

-- ---- the blob is bytes

sized_bytes : (t : List ℕ) → is_utf8 t ≡ true → AllBytes (sized t)
sized_bytes t u = all_append (to_be_bytes w32 (length t)) t (bytes_w32 (length t)) (text_all_bytes t u)

variables_all : (qs : List Pair) → AllByRecursion IsVariable qs → AllByRecursion (λ q. AllBytes (variable_bytes q)) qs
variables_all [] h = tt
variables_all (q ∷ qs) h = (all_append (sized q.name) (sized q.value) (sized_bytes q.name h.0.name) (sized_bytes q.value h.0.value), variables_all qs h.1)

types_all : (ts : List ℕ) → AllByRecursion (λ t. AllBytes (to_be_bytes w32 t)) ts
types_all [] = tt
types_all (t ∷ ts) = (bytes_w32 t, types_all ts)

types_bytes : (ts : List ℕ) → AllBytes (list_bytes (to_be_bytes w32) ts)
types_bytes ts = all_append (to_be_bytes w16 (length ts)) (flat_map (to_be_bytes w32) ts) (bytes_w16 (length ts)) (all_flat (to_be_bytes w32) ts (types_all ts))

prepared_all : (xs : List Prepared) → AllByRecursion IsPrepared xs → AllByRecursion (λ x. AllBytes (prepared_bytes x)) xs
prepared_all [] h = tt
prepared_all (x ∷ xs) h =
    (all_append (sized x.name) (sized x.query ++ list_bytes (to_be_bytes w32) x.types) (sized_bytes x.name h.0.name) (all_append (sized x.query) (list_bytes (to_be_bytes w32) x.types) (sized_bytes x.query h.0.query) (types_bytes x.types)), prepared_all xs h.1)

pub state_is_bytes : (s : State) → IsSpelling s (state_bytes s) → IsBytes (state_bytes s)
unfolding state_bytes
state_is_bytes s is =
    let vb : List ℕ = list_bytes variable_bytes s.variables in
    let xb : List ℕ = list_bytes prepared_bytes s.statements in
    let vs : AllBytes vb = all_append (to_be_bytes w16 (length s.variables)) (flat_map variable_bytes s.variables) (bytes_w16 (length s.variables)) (all_flat variable_bytes s.variables (variables_all s.variables is.variables.each)) in
    let xs : AllBytes xb = all_append (to_be_bytes w16 (length s.statements)) (flat_map prepared_bytes s.statements) (bytes_w16 (length s.statements)) (all_flat prepared_bytes s.statements (prepared_all s.statements is.statements.each)) in
    let both : AllBytes (vb ++ xb) = all_append vb xb vs xs in
    bytes_from_all (state_bytes s) (omega arith, all_append (sized s.user) (sized s.database ++ (vb ++ xb)) (sized_bytes s.user is.user) (all_append (sized s.database) (vb ++ xb) (sized_bytes s.database is.database) both))
