-- What is read is no longer than what it was read from, whatever numbers stand there.
use Rattle.std.proofs.Common.{Bool, Err, List, None, Ok, Option, Result, Some, [], ap, arith, drop, false, length, ltb, refl, subst, suc, take, true, zero, ℕ, ◌++◌, ◌+◌, ◌∷◌, ◌≡◌, ◌≤◌}
use Rattle.std.proofs.lemmas.Bool.{ltb-false}
use Rattle.std.specs.Int.{byte_len, from_be_bytes, w16, w32}
use Rattle.std.specs.List.{AllByRecursion}
use Rattle.std.specs.Prelude.{if◌then◌else◌, nat_lt, negsuc, pos, ℤ, ◌==◌}
use Rattle.std.specs.Str.{is_utf8}
use Rattle.pgw_messages.proofs.Codecs.{guard_ok, ok_is}
use Rattle.pgw_messages.proofs.Ended.{bind_ok}
use Rattle.pgw_messages.specs.Reading.{Read, ended, is_zero, list_at, many_at, number_at, taken, text_at, whole, zero_ended}
use Rattle.pgw_messages.specs.declared.fault.MsgFault.{MsgFault}
use Rattle.pgw_messages.specs.declared.params.Pair.{Pair}
use Rattle.pgw_messages.specs.declared.fault.MsgFault.TheVariants as fault
use Rattle.std.proofs.lemmas.List.{length-take, length-drop}  -- keep
use Rattle.pgw_messages.specs.Reading.{◌>>=◌, signed_at, sized_at as value_sized_at, value_at}  -- keep
use Rattle.std.specs.Int.{Width, cast_signed}  -- keep
use Rattle.mini_kind.proofs.Lists.{all_weaker}
use Rattle.session_blob.specs.Blob.{most_blob}
use Rattle.session_blob.specs.Entries.{is_among}
use Rattle.session_blob.specs.Prepared.{Prepared}
use Rattle.session_blob.specs.Reading.{as_blob, entry_at, name_at, named_at, named_list_at, prepared_at, sized_at, state_at, state_of, variable_at, version_at}
use Rattle.session_blob.specs.declared.fault.BlobFault.{BlobFault}
use Rattle.session_blob.specs.declared.fault.BlobFault.TheVariants.{TooLarge}
use Rattle.session_blob.specs.declared.state.State.{State}

pub record Short {A : Type 0} (at : List ℕ → Read A) (size : A → ℕ) : Type 0 where
  pub by : (b : List ℕ) (x : A) (rest : List ℕ) → at b ≡ Ok (x, rest) → size x + length rest ≤ length b

abbrev done : {A : Type 0} → A → Result A MsgFault
done x = Ok x

abbrev ok_text : List ℕ × List ℕ → Read (List ℕ)
ok_text x = Ok x

-- a reading and what is read behind it
pub record Then {A B : Type 0} (size : A → ℕ) (b : List ℕ) (more : A × List ℕ → Result B MsgFault) (y : B) : Type 0 where
  pub value : A
  pub rest : List ℕ
  pub short : size value + length rest ≤ length b
  pub next : more (value, rest) ≡ Ok y

pub short_first : {A B : Type 0} {at : List ℕ → Read A} {size : A → ℕ} (is : Short at size) (b : List ℕ) (more : A × List ℕ → Result B MsgFault) (y : B) → (at b >>= more) ≡ Ok y → Then size b more y
short_first {at = at} is b more y e =
    let s = bind_ok (at b) more y e in
    record { value = s.0.0; rest = s.0.1; short = is.by b s.0.0 s.0.1 s.1; next = s.2 }

number_by : (w : Width) (b : List ℕ) (n : ℕ) (rest : List ℕ) → number_at w b ≡ Ok (n, rest) → byte_len w + length rest ≤ length b
number_by w b n rest e =
    let g = guard_ok (ltb (length b) (byte_len w)) fault.Short (from_be_bytes w (take (byte_len w) b), drop (byte_len w) b) (n, rest) e in
    let long : byte_len w ≤ length b = ltb-false _ _ g.0 in
    let is : drop (byte_len w) b ≡ rest = ap (λ (p : ℕ × List ℕ). p.1) g.1 in
    rw (← is) (omega (arith, length-drop (byte_len w) b))

pub short_number16 : Short (number_at w16) (λ n. 2)
short_number16 = record { by = number_by w16 }

pub short_number32 : Short (number_at w32) (λ n. 4)
short_number32 = record { by = number_by w32 }

taken_by : (n : ℕ) (b v rest : List ℕ) → taken n b ≡ done (v, rest) → length v + length rest ≤ length b
taken_by n b v rest e =
    let g = guard_ok (ltb (length b) n) fault.Short (take n b, drop n b) (v, rest) e in
    let long : n ≤ length b = ltb-false _ _ g.0 in
    let a : take n b ≡ v = ap (λ (p : List ℕ × List ℕ). p.0) g.1 in
    let c : drop n b ≡ rest = ap (λ (p : List ℕ × List ℕ). p.1) g.1 in
    rw (← a, ← c) (omega (arith, length-drop n b, length-take n b))

-- ---- texts

ended_by : (c : ℕ) (b : List ℕ) (x : Bool) (read : Read (List ℕ)) (t rest : List ℕ) → ((u r : List ℕ) → read ≡ ok_text (u, r) → length u + 1 + length r ≤ length b) → (if x then ok_text ([], b) else read >>= λ u. ok_text (c ∷ u.0, u.1)) ≡ ok_text (t, rest) → length t + 1 + length rest ≤ length (c ∷ b)
ended_by c b true read t rest h e = subst (λ (p : List ℕ × List ℕ). length p.0 + 1 + length p.1 ≤ length (c ∷ b)) (ok_is ([], b) (t, rest) e) (omega arith)
ended_by c b false (Ok u) t rest h e = subst (λ (p : List ℕ × List ℕ). length p.0 + 1 + length p.1 ≤ length (c ∷ b)) (ok_is (c ∷ u.0, u.1) (t, rest) e) (omega (arith, h u.0 u.1 refl))
ended_by c b false (Err f) t rest h e = absurd cc

zero_by : (b t rest : List ℕ) → zero_ended b ≡ done (t, rest) → length t + 1 + length rest ≤ length b
zero_by [] t rest e = absurd cc
zero_by (c ∷ b) t rest e = ended_by c b (is_zero c) (zero_ended b) t rest (zero_by b) e

tested : {A : Type 0} (x : Bool) (f : MsgFault) (u y : A) → (if x then done u else Err f) ≡ done y → u ≡ y
tested true f u y e = ok_is u y e
tested false f u y e = absurd cc

refused : {A : Type 0} (x : Bool) (f : MsgFault) (u y : A) → (if x then Err f else done u) ≡ done y → u ≡ y
refused true f u y e = absurd cc
refused false f u y e = ok_is u y e

text_by : (b t rest : List ℕ) → text_at b ≡ done (t, rest) → length t + 1 + length rest ≤ length b
unfolding text_at
text_by b t rest e =
    let u = bind_ok (zero_ended b) (λ u. if is_utf8 u.0 then done u else Err fault.NotText) (t, rest) e in
    let same = tested (is_utf8 u.0.0) fault.NotText u.0 (t, rest) u.2 in
    subst (λ (p : List ℕ × List ℕ). length p.0 + 1 + length p.1 ≤ length b) same (zero_by b u.0.0 u.0.1 u.1)

pub short_text : Short text_at (λ t. length t + 1)
short_text = record { by = text_by }

sized_by : (b t rest : List ℕ) → sized_at b ≡ done (t, rest) → length t + 4 + length rest ≤ length b
unfolding sized_at
sized_by b t rest e =
    let n = short_first short_number32 b (λ (n : ℕ × List ℕ). taken n.0 n.1 >>= λ t. if is_utf8 t.0 then done t else Err fault.NotText) (t, rest) e in
    let u = bind_ok (taken n.value n.rest) (λ t. if is_utf8 t.0 then done t else Err fault.NotText) (t, rest) n.next in
    let same = tested (is_utf8 u.0.0) fault.NotText u.0 (t, rest) u.2 in
    let short = taken_by n.value n.rest u.0.0 u.0.1 u.1 in
    subst (λ (p : List ℕ × List ℕ). length p.0 + 4 + length p.1 ≤ length b) same (omega (arith, n.short, short))

pub short_sized : Short sized_at (λ t. length t + 4)
short_sized = record { by = sized_by }

-- ---- values and lists

abbrev pub value_size : Option (List ℕ) → ℕ
value_size None = 0
value_size (Some v) = length v

value_of_by : (n : ℤ) (b : List ℕ) (v : Option (List ℕ)) (rest : List ℕ) → value_sized_at n b ≡ done (v, rest) → value_size v + length rest ≤ length b
value_of_by (pos n) b v rest e =
    let s = bind_ok (taken n b) (λ (u : List ℕ × List ℕ). done (Some u.0, u.1)) (v, rest) e in
    subst (λ (p : Option (List ℕ) × List ℕ). value_size p.0 + length p.1 ≤ length b) (ok_is (Some s.0.0, s.0.1) (v, rest) s.2) (taken_by n b s.0.0 s.0.1 s.1)
value_of_by (negsuc zero) b v rest e = subst (λ (p : Option (List ℕ) × List ℕ). value_size p.0 + length p.1 ≤ length b) (ok_is (None, b) (v, rest) e) (omega arith)
value_of_by (negsuc (suc n)) b v rest e = absurd cc

signed_by : (b : List ℕ) (n : ℤ) (rest : List ℕ) → signed_at w32 b ≡ done (n, rest) → 4 + length rest ≤ length b
signed_by b n rest e =
    let s = short_first short_number32 b (λ (m : ℕ × List ℕ). done (cast_signed w32 m.0, m.1)) (n, rest) e in
    let is : s.rest ≡ rest = ap (λ (p : ℤ × List ℕ). p.1) (ok_is (cast_signed w32 s.value, s.rest) (n, rest) s.next) in
    rw (← is) s.short

short_signed32 : Short (signed_at w32) (λ n. 4)
short_signed32 = record { by = signed_by }

value_by : (b : List ℕ) (v : Option (List ℕ)) (rest : List ℕ) → value_at b ≡ done (v, rest) → value_size v + 4 + length rest ≤ length b
value_by b v rest e =
    let s = short_first short_signed32 b (λ (n : ℤ × List ℕ). value_sized_at n.0 n.1) (v, rest) e in
    let short = value_of_by s.value s.rest v rest s.next in
    omega (arith, s.short)

pub short_value : Short value_at (λ v. value_size v + 4)
short_value = record { by = value_by }

-- each item is no longer than what all were read from
many_by : {A : Type 0} (item : List ℕ → Read A) (size : A → ℕ) (is : Short item size) (most n : ℕ) (b : List ℕ) (xs : List A) (rest : List ℕ) → length b ≤ most → many_at item n b ≡ done (xs, rest) → (length rest ≤ length b) × AllByRecursion (λ x. size x ≤ most) xs
many_by {A} item size is most zero b xs rest le e = subst (λ (p : List A × List ℕ). (length p.1 ≤ length b) × AllByRecursion (λ x. size x ≤ most) p.0) (ok_is ([], b) (xs, rest) e) (omega arith, tt)
many_by {A} item size is most (suc n) b xs rest le e =
    let s = short_first is b (λ (x : A × List ℕ). many_at item n x.1 >>= λ others. done (x.0 ∷ others.0, others.1)) (xs, rest) e in
    let m = bind_ok (many_at item n s.rest) (λ (others : List A × List ℕ). done (s.value ∷ others.0, others.1)) (xs, rest) s.next in
    let short = s.short in
    let more = many_by item size is most n s.rest m.0.0 m.0.1 (omega arith) m.1 in
    subst (λ (p : List A × List ℕ). (length p.1 ≤ length b) × AllByRecursion (λ x. size x ≤ most) p.0) (ok_is (s.value ∷ m.0.0, m.0.1) (xs, rest) m.2) (omega (arith, more.0), (omega arith, more.1))

pub list_by : {A : Type 0} (item : List ℕ → Read A) (size : A → ℕ) (is : Short item size) (most : ℕ) (b : List ℕ) (xs : List A) (rest : List ℕ) → length b ≤ most → list_at item b ≡ done (xs, rest) → (length rest + 2 ≤ length b) × AllByRecursion (λ x. size x ≤ most) xs
unfolding list_at
list_by item size is most b xs rest le e =
    let s = short_first short_number16 b (λ (n : ℕ × List ℕ). many_at item n.0 n.1) (xs, rest) e in
    let m = many_by item size is most s.value s.rest xs rest (omega (arith, s.short)) s.next in
    (omega (arith, s.short, m.0), m.1)

-- ---- a state

name_by : (seen : List (List ℕ)) (b n rest : List ℕ) → name_at seen b ≡ ok_text (n, rest) → length rest ≤ length b
name_by seen b n rest e =
    let s = short_first short_sized b (λ (n : List ℕ × List ℕ). if is_among n.0 seen then Err fault.BadValue else ok_text n) (n, rest) e in
    let is : ok_text (s.value, s.rest) ≡ ok_text (n, rest) = ap ok_text (refused (is_among s.value seen) fault.BadValue (s.value, s.rest) (n, rest) s.next) in
    let same : s.rest ≡ rest = ap (λ (p : List ℕ × List ℕ). p.1) (ok_is (s.value, s.rest) (n, rest) is) in
    rw (← same) (omega (arith, s.short))

abbrev ok_list : {A : Type 0} → List A × List ℕ → Read (List A)
ok_list x = Ok x

module _ {A : Type 0} (name : A → List ℕ) (item : List ℕ → List ℕ → Read A) (size : A → ℕ) (is : (n : List ℕ) → Short (item n) size)
  where
    abbrev all_behind : A → List A × List ℕ → Read (List A)
    all_behind x others = ok_list (x ∷ others.0, others.1)

    named_by : (most n : ℕ) (seen : List (List ℕ)) (b : List ℕ) (xs : List A) (rest : List ℕ) → length b ≤ most → named_at name item n seen b ≡ ok_list (xs, rest) → (length rest ≤ length b) × AllByRecursion (λ x. size x ≤ most) xs
    named_by most zero seen b xs rest le e = subst (λ (p : List A × List ℕ). (length p.1 ≤ length b) × AllByRecursion (λ x. size x ≤ most) p.0) (ok_is ([], b) (xs, rest) e) (omega arith, tt)
    named_by most (suc n) seen b xs rest le e =
        let x = bind_ok (entry_at item seen b) (λ (first : A × List ℕ). named_at name item n (seen ++ name first.0 ∷ []) first.1 >>= all_behind first.0) (xs, rest) e in
        let k = bind_ok (name_at seen b) (λ (n : List ℕ × List ℕ). item n.0 n.1) x.0 x.1 in
        let named = name_by seen b k.0.0 k.0.1 k.1 in
        let short = (is k.0.0).by k.0.1 x.0.0 x.0.1 k.2 in
        let m = bind_ok (named_at name item n (seen ++ name x.0.0 ∷ []) x.0.1) (all_behind x.0.0) (xs, rest) x.2 in
        let more = named_by most n (seen ++ name x.0.0 ∷ []) x.0.1 m.0.0 m.0.1 (omega arith) m.1 in
        subst (λ (p : List A × List ℕ). (length p.1 ≤ length b) × AllByRecursion (λ x. size x ≤ most) p.0) (ok_is (x.0.0 ∷ m.0.0, m.0.1) (xs, rest) m.2) (omega (arith, more.0), (omega arith, more.1))

    pub named_list_by : (most : ℕ) (b : List ℕ) (xs : List A) (rest : List ℕ) → length b ≤ most → named_list_at name item b ≡ ok_list (xs, rest) → (length rest ≤ length b) × AllByRecursion (λ x. size x ≤ most) xs
    unfolding named_list_at
    named_list_by most b xs rest le e =
        let s = short_first short_number16 b (λ (n : ℕ × List ℕ). named_at name item n.0 [] n.1) (xs, rest) e in
        let m = named_by most s.value [] s.rest xs rest (omega (arith, s.short)) s.next in
        (omega (arith, s.short, m.0), m.1)

variable_by : (name : List ℕ) (b : List ℕ) (q : Pair) (rest : List ℕ) → variable_at name b ≡ Ok (q, rest) → length q.value + length rest ≤ length b
variable_by name b q rest e =
    let s = short_first short_sized b (λ (v : List ℕ × List ℕ). pair (record { name = name; value = v.0 }, v.1)) (q, rest) e in
    subst (λ (p : Pair × List ℕ). length p.0.value + length p.1 ≤ length b) (ok_is (record { name = name; value = s.value }, s.rest) (q, rest) s.next) (omega (arith, s.short))
  where
    pair : Pair × List ℕ → Read Pair
    pair x = Ok x

prepared_by : (name : List ℕ) (b : List ℕ) (x : Prepared) (rest : List ℕ) → prepared_at name b ≡ Ok (x, rest) → length x.query + length rest ≤ length b
prepared_by name b x rest e =
    let s = short_first short_sized b (λ (q : List ℕ × List ℕ). list_at (number_at w32) q.1 >>= λ (ts : List ℕ × List ℕ). made (record { name = name; query = q.0; types = ts.0 }, ts.1)) (x, rest) e in
    let m = bind_ok (list_at (number_at w32) s.rest) (λ (ts : List ℕ × List ℕ). made (record { name = name; query = s.value; types = ts.0 }, ts.1)) (x, rest) s.next in
    let l = list_by (number_at w32) (λ n. 4) short_number32 (length s.rest) s.rest m.0.0 m.0.1 (omega arith) m.1 in
    subst (λ (p : Prepared × List ℕ). length p.0.query + length p.1 ≤ length b) (ok_is (record { name = name; query = s.value; types = m.0.0 }, m.0.1) (x, rest) m.2) (omega (arith, s.short, l.0))
  where
    made : Prepared × List ℕ → Read Prepared
    made x = Ok x

-- values and queries of a state that was read are within its bytes
pub record StateWithin (n : ℕ) (s : State) : Type 0 where
  pub variables : AllByRecursion (λ (q : Pair). length q.value ≤ n) s.variables
  pub statements : AllByRecursion (λ (x : Prepared). length x.query ≤ n) s.statements

abbrev ok_state : State → Result State MsgFault
ok_state x = Ok x

abbrev read_state : State × List ℕ → Read State
read_state x = Ok x

version_by : (b : List ℕ) (n : ℕ) (rest : List ℕ) → version_at b ≡ done (n, rest) → length rest ≤ length b
version_by [] n rest e = absurd cc
version_by (c ∷ b) n rest e = let is : (c, b) ≡ (n, rest) = tested (c == 1) (fault.UnknownTag c) (c, b) (n, rest) e in rw (← (ap (λ (p : ℕ × List ℕ). p.1) is)) (omega arith)

state_within : (b : List ℕ) (s : State) (rest : List ℕ) → state_at b ≡ Ok (s, rest) → StateWithin (length b) s
unfolding state_at
state_within b s rest e =
    let v = bind_ok (version_at b) _ (s, rest) e in
    let le = version_by b v.0.0 v.0.1 v.1 in
    let user = short_first short_sized v.0.1 _ (s, rest) v.2 in
    let database = short_first short_sized user.rest _ (s, rest) user.next in
    let vs = bind_ok (named_list_at (λ (q : Pair). q.name) variable_at database.rest) _ (s, rest) database.next in
    let vs_by = named_list_by (λ (q : Pair). q.name) variable_at (λ (q : Pair). length q.value) (λ name. record { by = variable_by name }) (length b) database.rest vs.0.0 vs.0.1 (omega (arith, le, user.short, database.short)) vs.1 in
    let xs = bind_ok (named_list_at (λ (x : Prepared). x.name) prepared_at vs.0.1) _ (s, rest) vs.2 in
    let xs_by = named_list_by (λ (x : Prepared). x.name) prepared_at (λ (x : Prepared). length x.query) (λ name. record { by = prepared_by name }) (length b) vs.0.1 xs.0.0 xs.0.1 (omega (arith, le, user.short, database.short, vs_by.0)) xs.1 in
    subst (λ (p : State × List ℕ). StateWithin (length b) p.0) (ok_is (record { user = user.value; database = database.value; variables = vs.0.0; statements = xs.0.0 }, xs.0.1) (s, rest) xs.2) (record { variables = vs_by.1; statements = xs_by.1 })

ended_is : {A : Type 0} (y x : A) (rest : List ℕ) → (ended rest >>= λ nothing. done y) ≡ done x → y ≡ x
ended_is y x [] e = ok_is y x e
ended_is y x (c ∷ r) e = absurd cc

pub whole_is : {A : Type 0} (read : Read A) (x : A) → whole read ≡ done x → (rest : List ℕ) × (read ≡ done (x, rest))
whole_is {A = A} (Ok y) x e = (y.1, ap (λ (z : A). done (z, y.1)) (ended_is y.0 x y.1 e))
whole_is (Err f) x e = absurd cc

blob_is : (r : Result State MsgFault) (s : State) → as_blob r ≡ Ok s → r ≡ ok_state s
blob_is (Ok x) s e = let is : x ≡ s = cc in ap ok_state is
blob_is (Err f) s e = absurd cc

pub state_of_within : (b : List ℕ) (s : State) → state_of b ≡ Ok s → StateWithin most_blob s
unfolding state_of
state_of_within b s e = by (nat_lt most_blob (length b)) refl e
  where
    ok_blob : State → Result State BlobFault
    ok_blob x = Ok x

    by : (x : Bool) → nat_lt most_blob (length b) ≡ x → (if x then Err (TooLarge (length b)) else as_blob (whole (state_at b))) ≡ ok_blob s → StateWithin most_blob s
    by true h g = absurd cc
    by false h g =
        let w = whole_is (state_at b) s (blob_is (whole (state_at b)) s g) in
        let in_b = state_within b s w.0 w.1 in
        let le = ltb-false _ _ h in
        record {
          variables = all_weaker (λ (q : Pair). length q.value ≤ length b) (λ (q : Pair). length q.value ≤ most_blob) s.variables (λ q k. omega arith) in_b.variables;
          statements = all_weaker (λ (x : Prepared). length x.query ≤ length b) (λ (x : Prepared). length x.query ≤ most_blob) s.statements (λ q k. omega arith) in_b.statements;
        }
