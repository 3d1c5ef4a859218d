-- A state that was written is read again.
use Rattle.std.proofs.Common.{◌≡◌, ℕ, suc, ◌+◌, ◌<◌, ◌≤◌, ◌^◌, true, false, List, [], ◌∷◌, ◌++◌, length, map, Ok, refl, sym, ap, subst, ◌∙◌, append_assoc, ltb, arith}
use Rattle.std.specs.Prelude.{nat_lt}
use Rattle.std.specs.Cmp.Lexicographic.{nat_list_eq_equiv}
use Rattle.std.specs.Int.{w16, w32, to_be_bytes}
use Rattle.std.specs.List.{AllByRecursion, IsDistinct, flat_map}
use Rattle.std.specs.Str.{bytes_eq, is_utf8}
use Rattle.std.proofs.lemmas.Bool.{le-ltb}
use Rattle.std.proofs.lemmas.List.{append-nil, drop_at, length-append, take_at}
use Rattle.pgw_messages.proofs.Codecs.{number16, number32, types}
use Rattle.pgw_messages.specs.Reading.{Read, taken}
use Rattle.pgw_messages.specs.Spelling.{IsList, list_bytes}
use Rattle.pgw_messages.specs.declared.params.Pair.{Pair}
use Rattle.session_blob.specs.Blob.{most_blob, sized, variable_bytes, prepared_bytes, state_bytes, IsVariable, IsPrepared, IsNamedList, IsSpelling}
use Rattle.session_blob.specs.Entries.{is_among}
use Rattle.session_blob.specs.Prepared.{Prepared}
use Rattle.session_blob.specs.Reading.{sized_at, name_at, named_at, named_list_at, variable_at, prepared_at, state_at, state_of}
use Rattle.session_blob.specs.declared.state.State.{State}

abbrev ok_text : List ℕ × List ℕ → Read (List ℕ)
ok_text x = Ok x

abbrev ok_list : {A : Type 0} → List A × List ℕ → Read (List A)
ok_list x = Ok x

-- ---- what a spelling asks of each part

pub record IsSized (t : List ℕ) : Type 0 where
  pub short : length t < 2 ^ 32
  pub utf8 : is_utf8 t ≡ true

pub record SizedVariable (q : Pair) : Type 0 where
  pub name : IsSized q.name
  pub value : IsSized q.value

pub record SizedPrepared (x : Prepared) : Type 0 where
  pub name : IsSized x.name
  pub query : IsSized x.query
  pub types : IsList (λ n. n < 2 ^ 32) x.types

-- ---- texts

taken_again : (v rest : List ℕ) → taken (length v) (v ++ rest) ≡ ok_text (v, rest)
taken_again v rest =
    let long : ltb (length (v ++ rest)) (length v) ≡ false = le-ltb _ _ (omega (arith, length-append v rest)) in
    rw (long, take_at v rest (length v) refl, drop_at v rest (length v) refl) refl

pub sized_again : (t rest : List ℕ) → IsSized t → sized_at (sized t ++ rest) ≡ ok_text (t, rest)
unfolding sized_at
sized_again t rest is =
    let regrouped : sized t ++ rest ≡ to_be_bytes w32 (length t) ++ (t ++ rest) = append_assoc (to_be_bytes w32 (length t)) t rest in
    ap sized_at regrouped ∙ rw (number32.again (length t) (t ++ rest) is.short, taken_again t rest, is.utf8) refl

-- ---- lists with names

name_again : (seen : List (List ℕ)) (n rest : List ℕ) → IsSized n → is_among n seen ≡ false → name_at seen (sized n ++ rest) ≡ ok_text (n, rest)
name_again seen n rest is new = rw (sized_again n rest is, new) refl

at_place : {A : Type 0} (P : A → Type 0) (xs : List A) (x : A) (ys : List A) → AllByRecursion P (xs ++ x ∷ ys) → P x
at_place P [] x ys h = h.0
at_place P (z ∷ xs) x ys h = at_place P xs x ys h.1

-- a name differs from those before it
pub before : (seen ns : List (List ℕ)) (n : List ℕ) → IsDistinct bytes_eq (seen ++ n ∷ ns) → is_among n seen ≡ false
unfolding IsDistinct
before [] ns n d = refl
before (s ∷ seen) ns n d =
    let apart : bytes_eq s n ≡ false = at_place (λ (m : List ℕ). bytes_eq s m ≡ false) seen n ns d.0 in
    let other : bytes_eq n s ≡ false = nat_list_eq_equiv.symm n s ∙ apart in
    rw (other, before seen ns n d.1) refl

module _ {A : Type 0} (item : List ℕ → List ℕ → Read A) (name : A → List ℕ) (body : A → List ℕ) (Is : A → Type 0)
  where
    abbrev named_bytes : A → List ℕ
    named_bytes x = sized (name x) ++ body x

    named_again : ((x : A) → Is x → IsSized (name x)) → ((x : A) (rest : List ℕ) → Is x → item (name x) (body x ++ rest) ≡ Ok (x, rest)) → (xs : List A) (seen : List (List ℕ)) (rest : List ℕ) → IsDistinct bytes_eq (seen ++ map name xs) → AllByRecursion Is xs
        → named_at name item (length xs) seen (flat_map named_bytes xs ++ rest) ≡ ok_list (xs, rest)
    named_again names items [] seen rest d is = refl
    named_again names items (x ∷ xs) seen rest d is =
        let others : List ℕ = flat_map named_bytes xs ++ rest in
        let one : flat_map named_bytes (x ∷ xs) ++ rest ≡ (sized (name x) ++ body x) ++ others = append_assoc (sized (name x) ++ body x) (flat_map named_bytes xs) rest in
        let regrouped : flat_map named_bytes (x ∷ xs) ++ rest ≡ sized (name x) ++ (body x ++ others) = one ∙ append_assoc (sized (name x)) (body x) others in
        let read_name = name_again seen (name x) (body x ++ others) (names x is.0) (before seen (map name xs) (name x) d) in
        let read_item = items x others is.0 in
        let distinct : IsDistinct bytes_eq ((seen ++ name x ∷ []) ++ map name xs) = subst (IsDistinct bytes_eq) (sym (append_assoc seen (name x ∷ []) (map name xs))) d in
        let read_more = named_again names items xs (seen ++ name x ∷ []) rest distinct is.1 in
        ap (named_at name item (suc (length xs)) seen) regrouped ∙ rw (read_name, read_item, read_more) refl

    pub named_list_again : ((x : A) → Is x → IsSized (name x)) → ((x : A) (rest : List ℕ) → Is x → item (name x) (body x ++ rest) ≡ Ok (x, rest)) → (xs : List A) (rest : List ℕ) → IsNamedList name Is xs
        → named_list_at name item (list_bytes named_bytes xs ++ rest) ≡ ok_list (xs, rest)
    unfolding named_list_at
    named_list_again names items xs rest is =
        let few : length xs ≤ 65535 = is.count in
        let regrouped : list_bytes named_bytes xs ++ rest ≡ to_be_bytes w16 (length xs) ++ (flat_map named_bytes xs ++ rest) = append_assoc (to_be_bytes w16 (length xs)) (flat_map named_bytes xs) rest in
        ap (named_list_at name item) regrouped ∙ rw (number16.again (length xs) (flat_map named_bytes xs ++ rest) (omega arith), named_again names items xs [] rest is.distinct is.each) refl

variable_again : (q : Pair) (rest : List ℕ) → SizedVariable q → variable_at q.name (sized q.value ++ rest) ≡ Ok (q, rest)
variable_again q rest is = rw (sized_again q.value rest is.value) refl

prepared_again : (x : Prepared) (rest : List ℕ) → SizedPrepared x → prepared_at x.name ((sized x.query ++ list_bytes (to_be_bytes w32) x.types) ++ rest) ≡ Ok (x, rest)
prepared_again x rest is =
    let regrouped : (sized x.query ++ list_bytes (to_be_bytes w32) x.types) ++ rest ≡ sized x.query ++ (list_bytes (to_be_bytes w32) x.types ++ rest) = append_assoc (sized x.query) (list_bytes (to_be_bytes w32) x.types) rest in
    ap (prepared_at x.name) regrouped ∙ rw (sized_again x.query (list_bytes (to_be_bytes w32) x.types ++ rest) is.query, types.again x.types rest is.types) refl

-- ---- lengths are within the limit

sized_short : (t : List ℕ) (n : ℕ) → length (sized t) ≤ n → n ≤ most_blob → is_utf8 t ≡ true → IsSized t
sized_short t n le small u = record { short = omega (arith, length-append (to_be_bytes w32 (length t)) t); utf8 = u }

variables_are : (qs : List Pair) → length (flat_map variable_bytes qs) ≤ most_blob → AllByRecursion IsVariable qs → AllByRecursion SizedVariable qs
variables_are [] le e = tt
variables_are (q ∷ qs) le e =
    let n : length (flat_map variable_bytes (q ∷ qs)) ≡ length (variable_bytes q) + length (flat_map variable_bytes qs) = length-append (variable_bytes q) (flat_map variable_bytes qs) in
    let m : length (variable_bytes q) ≡ length (sized q.name) + length (sized q.value) = length-append (sized q.name) (sized q.value) in
    (record { name = sized_short q.name most_blob (omega arith) (omega arith) e.0.name; value = sized_short q.value most_blob (omega arith) (omega arith) e.0.value }, variables_are qs (omega arith) e.1)

prepared_are : (xs : List Prepared) → length (flat_map prepared_bytes xs) ≤ most_blob → AllByRecursion IsPrepared xs → AllByRecursion SizedPrepared xs
prepared_are [] le e = tt
prepared_are (x ∷ xs) le e =
    let behind : List ℕ = sized x.query ++ list_bytes (to_be_bytes w32) x.types in
    let n : length (flat_map prepared_bytes (x ∷ xs)) ≡ length (prepared_bytes x) + length (flat_map prepared_bytes xs) = length-append (prepared_bytes x) (flat_map prepared_bytes xs) in
    let m : length (prepared_bytes x) ≡ length (sized x.name) + length behind = length-append (sized x.name) behind in
    let k : length behind ≡ length (sized x.query) + length (list_bytes (to_be_bytes w32) x.types) = length-append (sized x.query) (list_bytes (to_be_bytes w32) x.types) in
    (record { name = sized_short x.name most_blob (omega arith) (omega arith) e.0.name; query = sized_short x.query most_blob (omega arith) (omega arith) e.0.query; types = e.0.types }, prepared_are xs (omega arith) e.1)

-- ---- a state

abbrev variables_bytes : State → List ℕ
variables_bytes s = list_bytes variable_bytes s.variables

abbrev statements_bytes : State → List ℕ
statements_bytes s = list_bytes prepared_bytes s.statements

record IsState (s : State) : Type 0 where
  user : IsSized s.user
  database : IsSized s.database
  variables : IsNamedList (λ (q : Pair). q.name) SizedVariable s.variables
  statements : IsNamedList (λ (x : Prepared). x.name) SizedPrepared s.statements

sized_state : (s : State) → length (state_bytes s) ≤ most_blob → IsSpelling s (state_bytes s) → IsState s
unfolding state_bytes
sized_state s within is =
    let behind : List ℕ = variables_bytes s ++ statements_bytes s in
    let a : length (sized s.user ++ (sized s.database ++ behind)) ≡ length (sized s.user) + length (sized s.database ++ behind) = length-append (sized s.user) (sized s.database ++ behind) in
    let b : length (sized s.database ++ behind) ≡ length (sized s.database) + length behind = length-append (sized s.database) behind in
    let c : length behind ≡ length (variables_bytes s) + length (statements_bytes s) = length-append (variables_bytes s) (statements_bytes s) in
    let d : length (variables_bytes s) ≡ 2 + length (flat_map variable_bytes s.variables) = length-append (to_be_bytes w16 (length s.variables)) (flat_map variable_bytes s.variables) in
    let f : length (statements_bytes s) ≡ 2 + length (flat_map prepared_bytes s.statements) = length-append (to_be_bytes w16 (length s.statements)) (flat_map prepared_bytes s.statements) in
    record {
      user = sized_short s.user most_blob (omega arith) (omega arith) is.user;
      database = sized_short s.database most_blob (omega arith) (omega arith) is.database;
      variables = record { count = is.variables.count; distinct = is.variables.distinct; each = variables_are s.variables (omega arith) is.variables.each };
      statements = record { count = is.statements.count; distinct = is.statements.distinct; each = prepared_are s.statements (omega arith) is.statements.each };
    }

state_at_again : (s : State) → IsState s → state_at (state_bytes s) ≡ Ok (s, [])
unfolding state_at state_bytes
state_at_again s is =
    let user = sized_again s.user (sized s.database ++ (variables_bytes s ++ statements_bytes s)) is.user in
    let database = sized_again s.database (variables_bytes s ++ statements_bytes s) is.database in
    let variables = named_list_again variable_at (λ (q : Pair). q.name) (λ (q : Pair). sized q.value) SizedVariable (λ q h. h.name) variable_again s.variables (statements_bytes s) is.variables in
    let statements = named_list_again prepared_at (λ (x : Prepared). x.name) (λ (x : Prepared). sized x.query ++ list_bytes (to_be_bytes w32) x.types) SizedPrepared (λ x h. h.name) prepared_again s.statements [] is.statements in
    let last : named_list_at (λ (x : Prepared). x.name) prepared_at (statements_bytes s) ≡ ok_list (s.statements, []) = ap (named_list_at (λ (x : Prepared). x.name) prepared_at) (sym (append-nil (statements_bytes s))) ∙ statements in
    rw (user, database, variables, last) refl

whole_again : (s : State) → length (state_bytes s) ≤ most_blob → IsSpelling s (state_bytes s) → state_of (state_bytes s) ≡ Ok s
unfolding state_of
whole_again s within is =
    let small : nat_lt most_blob (length (state_bytes s)) ≡ false = le-ltb _ _ within in
    rw (small, state_at_again s (sized_state s within is)) refl

pub state_again : (s : State) (b : List ℕ) → IsSpelling s b → state_of b ≡ Ok s
state_again s b is =
    let within : length (state_bytes s) ≤ most_blob = subst (λ (x : List ℕ). length x ≤ most_blob) is.bytes is.within in
    ap state_of is.bytes ∙ whole_again s within (subst (IsSpelling s) is.bytes is)
