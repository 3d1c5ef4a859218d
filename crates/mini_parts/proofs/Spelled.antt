-- A state is spelled exactly where its blob is had.
use Rattle.std.proofs.Common.{◌≡◌, ℕ, ◌≤◌, ◌<◌, ◌^◌, Bool, true, false, not, ◌&&◌, List, [], ◌∷◌, length, map, None, Result, Ok, Err, nat_lt, nat_le, refl, sym, ap, ◌∙◌, arith, subst}
use Rattle.std.proofs.lemmas.Bool.{le-leb, lt-ltb, ltb-true}
use Rattle.std.specs.Prelude.{codes}
use Rattle.std.specs.List.{AllByRecursion, IsDistinct, find, list_all}
use Rattle.std.specs.Str.{bytes_eq, is_utf8}
use Rattle.pgw_messages.specs.declared.params.Pair.{Pair}
use Rattle.session_blob.specs.Blob.{IsPrepared, IsSpelling, IsVariable, blob_of, list_lengths, most_blob, state_bytes, too_many, within_limit}
use Rattle.std.specs.Result.{IfOk}
use Rattle.pgw_frames.specs.declared.memory.NoMemory.{NoMemory as OutOfMemory}
use Rattle.session_blob.specs.declared.fault.BlobFault.TheVariants.{BadVersion, Short, Trailing, NotCanonical, TooLarge, NoMemory}
use Rattle.session_blob.specs.Faults.{Fails}
use Rattle.mini_parts.specs.NoBlob.{HasNoBlob, is_memory}
use Rattle.session_blob.specs.Entries.{is_among, prepared_names, variable_names}
use Rattle.session_blob.specs.Prepared.{Prepared}
use Rattle.session_blob.specs.declared.fault.BlobFault.{BlobFault}
use Rattle.session_blob.specs.declared.state.State.{State}
use Rattle.session_model.specs.declared.transfer.Dump.{Dump}
use Rattle.session_model.specs.declared.transfer.Dump.TheVariants.{Blob, Not}
use Rattle.mini_kind.proofs.Spellings.{spelling_is}
use Rattle.mini_kind.specs.Dumps.{dump_by}
use Rattle.mini_kind.specs.Spelled.{differ, has_room, has_spelling, is_countable, is_prepared, is_type, is_variable, is_well_formed}

both : (a b : Bool) → a ≡ true → b ≡ true → (a && b) ≡ true
both a b e f = rw e f

none_among : (n : List ℕ) (ns : List (List ℕ)) → AllByRecursion (λ (m : List ℕ). bytes_eq n m ≡ false) ns → not (is_among n ns) ≡ true
none_among n [] h = refl
none_among n (m ∷ ns) h = rw h.0 (none_among n ns h.1)

differ_is : (ns : List (List ℕ)) → IsDistinct bytes_eq ns → differ ns ≡ true
unfolding IsDistinct
differ_is [] h = refl
differ_is (n ∷ ns) h = both (not (is_among n ns)) (differ ns) (none_among n ns h.0) (differ_is ns h.1)

types_are : (ts : List ℕ) → AllByRecursion (λ n. n < 2 ^ 32) ts → list_all is_type ts ≡ true
types_are [] h = refl
types_are (t ∷ ts) h = both (is_type t) (list_all is_type ts) (lt-ltb t 4294967296 (omega (arith, h.0))) (types_are ts h.1)

variables_are : (qs : List Pair) → AllByRecursion IsVariable qs → list_all is_variable qs ≡ true
variables_are [] h = refl
variables_are (q ∷ qs) h = both (is_variable q) (list_all is_variable qs) (both (is_utf8 q.name) (is_utf8 q.value) h.0.name h.0.value) (variables_are qs h.1)

prepared_are : (xs : List Prepared) → AllByRecursion IsPrepared xs → list_all is_prepared xs ≡ true
prepared_are [] h = refl
prepared_are (x ∷ xs) h =
    let counted : is_countable x.types ≡ true = le-leb (length x.types) 65535 h.0.types.count in
    let typed : (is_countable x.types && list_all is_type x.types) ≡ true = both (is_countable x.types) (list_all is_type x.types) counted (types_are x.types h.0.types.each) in
    let queried : (is_utf8 x.query && (is_countable x.types && list_all is_type x.types)) ≡ true = both (is_utf8 x.query) _ h.0.query typed in
    both (is_prepared x) (list_all is_prepared xs) (both (is_utf8 x.name) _ h.0.name queried) (prepared_are xs h.1)

-- ---- a state with a spelling

pub has_one : (s : State) (b : List ℕ) → IsSpelling s b → has_spelling s ≡ true
has_one s b is =
    let short : length (state_bytes s) ≤ most_blob = subst (λ (x : List ℕ). length x ≤ most_blob) is.bytes is.within in
    let sized : nat_le (length (state_bytes s)) most_blob ≡ true = le-leb (length (state_bytes s)) most_blob short in
    let room : has_room s ≡ true = both (is_countable s.variables) _ (le-leb (length s.variables) 65535 is.variables.count) (both (is_countable s.statements) _ (le-leb (length s.statements) 65535 is.statements.count) sized) in
    let own : (is_utf8 s.user && is_utf8 s.database) ≡ true = both (is_utf8 s.user) (is_utf8 s.database) is.user is.database in
    let variables : (differ (variable_names s.variables) && list_all is_variable s.variables) ≡ true = both (differ (variable_names s.variables)) _ (differ_is (variable_names s.variables) is.variables.distinct) (variables_are s.variables is.variables.each) in
    let statements : (differ (prepared_names s.statements) && list_all is_prepared s.statements) ≡ true = both (differ (prepared_names s.statements)) _ (differ_is (prepared_names s.statements) is.statements.distinct) (prepared_are s.statements is.statements.each) in
    both (has_room s) (is_well_formed s) room (both (is_utf8 s.user && is_utf8 s.database) _ own (both (differ (variable_names s.variables) && list_all is_variable s.variables) _ variables statements))

pub dumped : (s : State) (b : List ℕ) → IsSpelling s b → Blob b ≡ dump_by true false s
dumped s b is = rw (has_one s b is) (ap (λ (x : List ℕ). Blob x) is.bytes)

-- ---- a state without one

few : (ns : List ℕ) → AllByRecursion (λ n. n ≤ 65535) ns → find (λ n. nat_lt 65535 n) ns ≡ None
few [] h = refl
few (n ∷ ns) h = rw (not_more n h.0) (few ns h.1)
  where
    by : (n : ℕ) (b : Bool) → n ≤ 65535 → nat_lt 65535 n ≡ b → b ≡ false
    by n true le e = absurd (omega (arith, le, ltb-true 65535 n e))
    by n false le e = refl

    not_more : (n : ℕ) → n ≤ 65535 → nat_lt 65535 n ≡ false
    not_more n le = by n (nat_lt 65535 n) le refl

type_counts : (xs : List Prepared) → AllByRecursion IsPrepared xs → AllByRecursion (λ n. n ≤ 65535) (map (λ (x : Prepared). length x.types) xs)
type_counts [] h = tt
type_counts (x ∷ xs) h = (h.0.types.count, type_counts xs h.1)

limited : (b : List ℕ) → length b ≤ most_blob → within_limit b ≡ Ok b
limited b le = by (nat_lt most_blob (length b)) refl
  where
    by : (x : Bool) → nat_lt most_blob (length b) ≡ x → within_limit b ≡ Ok b
    by true e = absurd (omega (arith, le, ltb-true most_blob (length b) e))
    by false e = rw e refl

-- a state with a spelling has a blob
blob_is : (s : State) → has_spelling s ≡ true → blob_of s ≡ Ok (state_bytes s)
unfolding blob_of
blob_is s e =
    let is = spelling_is s e in
    let none : too_many s ≡ None = few (list_lengths s) (is.variables.count, (is.statements.count, type_counts s.statements is.statements.each)) in
    rw none (limited (state_bytes s) is.within)

pub refused : (s : State) (e : BlobFault) → blob_of s ≡ Err e → Not (codes "session state is too large") ≡ dump_by true false s
refused s e is = by (has_spelling s) refl
  where
    apart : {A : Type 0} (b : List ℕ) → Ok b ≡ Err e → A
    apart b h = absurd cc

    by : (x : Bool) → has_spelling s ≡ x → Not (codes "session state is too large") ≡ dump_by true false s
    by true h = apart (state_bytes s) (sym (blob_is s h) ∙ is)
    by false h = rw h refl

-- ---- a dump

pub dumped_at : (q t : Bool) (s : State) (b : List ℕ) → q ≡ true → t ≡ false → IsSpelling s b → Blob b ≡ dump_by q t s
dumped_at true false s b e f is = dumped s b is
dumped_at true true s b e f is = absurd cc
dumped_at false t s b e f is = absurd cc

refused_by : (s : State) (e : BlobFault) → is_memory e ≡ false → Fails e (blob_of s) → Not (codes "session state is too large") ≡ dump_by true false s
refused_by s NoMemory m is = absurd cc
refused_by s (BadVersion v) m is = refused s (BadVersion v) is
refused_by s Short m is = refused s Short is
refused_by s Trailing m is = refused s Trailing is
refused_by s NotCanonical m is = refused s NotCanonical is
refused_by s (TooLarge n) m is = refused s (TooLarge n) is

refused_at : (q t : Bool) (s : State) (e : BlobFault) → q ≡ true → t ≡ false → is_memory e ≡ false → Fails e (blob_of s) → Not (codes "session state is too large") ≡ dump_by q t s
refused_at true false s e f g m is = refused_by s e m is
refused_at true true s e f g m is = absurd cc
refused_at false t s e f g m is = absurd cc

pub without_blob : (q t : Bool) (s : State) (e : BlobFault) (r : Result Dump OutOfMemory) → q ≡ true → t ≡ false → Fails e (blob_of s) → IfOk r (λ d. HasNoBlob e d) → IfOk r (λ d. d ≡ dump_by q t s)
without_blob q t s e (Ok d) f g is h = h.told ∙ refused_at q t s e f g h.fault is
without_blob q t s e (Err x) f g is h = h
