-- An entry that was read is put behind those before it.
use Rattle.std.proofs.Common.{◌≡◌, ℕ, Bool, false, List, [], ◌∷◌, ◌++◌, Ok, refl, sym, ap, ◌∙◌}
use Rattle.std.specs.Cmp.Lexicographic.{nat_list_eq_equiv}
use Rattle.std.specs.Int.{w32}
use Rattle.std.specs.Str.{bytes_eq}
use Rattle.pgw_messages.proofs.Codecs.{or_parts}
use Rattle.pgw_messages.specs.Params.{with_value}
use Rattle.pgw_messages.specs.Reading.{mapped, list_at, number_at}
use Rattle.pgw_messages.specs.declared.params.Pair.{Pair}
use Rattle.session_blob.specs.Entries.{is_among, variable_names, prepared_names}
use Rattle.session_blob.specs.Prepared.{Prepared, with_statement}
use Rattle.session_blob.specs.Reading.{sized_at, entry_at, variable_at, prepared_at}

last_value : (n v : List ℕ) (qs : List Pair) → is_among n (variable_names qs) ≡ false → with_value n v qs ≡ qs ++ record { name = n; value = v } ∷ []
last_value n v [] h = refl
last_value n v (q ∷ qs) h =
    let p = or_parts (bytes_eq n q.name) (is_among n (variable_names qs)) h in
    let other : bytes_eq q.name n ≡ false = nat_list_eq_equiv.symm q.name n ∙ p.0 in
    rw other (ap (λ (rest : List Pair). q ∷ rest) (last_value n v qs p.1))

last_statement : (n q ts : List ℕ) (xs : List Prepared) → is_among n (prepared_names xs) ≡ false → with_statement n q ts xs ≡ xs ++ record { name = n; query = q; types = ts } ∷ []
last_statement n q ts [] h = refl
last_statement n q ts (x ∷ xs) h =
    let p = or_parts (bytes_eq n x.name) (is_among n (prepared_names xs)) h in
    let other : bytes_eq x.name n ≡ false = nat_list_eq_equiv.symm x.name n ∙ p.0 in
    rw other (ap (λ (rest : List Prepared). x ∷ rest) (last_statement n q ts xs p.1))

pub variable_added : (qs : List Pair) (b n b1 v b2 : List ℕ) (next : List Pair) (t : Bool) → sized_at b ≡ Ok (n, b1) → t ≡ is_among n (variable_names qs) → t ≡ false → sized_at b1 ≡ Ok (v, b2) → next ≡ with_value n v qs
    → mapped (λ q. qs ++ q ∷ []) (entry_at variable_at (variable_names qs) b) ≡ Ok (next, b2)
variable_added qs b n b1 v b2 next t e f g h is =
    let new : is_among n (variable_names qs) ≡ false = sym f ∙ g in
    let q : Pair = record { name = n; value = v } in
    let read : mapped (λ q. qs ++ q ∷ []) (entry_at variable_at (variable_names qs) b) ≡ Ok (qs ++ q ∷ [], b2) = rw (e, new, h) refl in
    read ∙ ap (λ (all : List Pair). Ok (all, b2)) (sym (is ∙ last_value n v qs new))

pub statement_added : (xs : List Prepared) (b n b1 q b2 ts b3 query : List ℕ) (next : List Prepared) (t : Bool) → sized_at b ≡ Ok (n, b1) → t ≡ is_among n (prepared_names xs) → t ≡ false → sized_at b1 ≡ Ok (q, b2) → query ≡ q
    → list_at (number_at w32) b2 ≡ Ok (ts, b3) → next ≡ with_statement n query ts xs → mapped (λ x. xs ++ x ∷ []) (entry_at prepared_at (prepared_names xs) b) ≡ Ok (next, b3)
statement_added xs b n b1 q b2 ts b3 query next t e f g h same k is =
    let new : is_among n (prepared_names xs) ≡ false = sym f ∙ g in
    let x : Prepared = record { name = n; query = q; types = ts } in
    let read : mapped (λ x. xs ++ x ∷ []) (entry_at prepared_at (prepared_names xs) b) ≡ Ok (xs ++ x ∷ [], b3) = rw (e, new, h, k) refl in
    read ∙ ap (λ (all : List Prepared). Ok (all, b3)) (sym (is ∙ ap (λ (y : List ℕ). with_statement n y ts xs) same ∙ last_statement n q ts xs new))
