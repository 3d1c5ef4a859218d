-- Bytes that are read as a state are the state's bytes, and bytes that aren't read are no state's.
use Rattle.std.proofs.Common.{◌≡◌, ℕ, zero, suc, ◌+◌, ◌≤◌, Bool, true, false, List, [], ◌∷◌, ◌++◌, length, take, drop, map, Result, Ok, Err, refl, sym, ap, subst, ◌∙◌, append_assoc, ltb, arith}
use Rattle.std.specs.Prelude.{if◌then◌else◌, nat_lt, ◌==◌}
use Rattle.std.specs.Cmp.Lexicographic.{nat_list_eq_equiv}
use Rattle.std.specs.Int.{to_be_bytes, w16, w32}
use Rattle.std.specs.List.{AllByRecursion, IsDistinct, flat_map}
use Rattle.std.specs.Str.{bytes_eq, is_utf8}
use Rattle.std.proofs.lemmas.Bool.{eqb-true, ltb-false}
use Rattle.std.proofs.lemmas.List.{append-nil, take-append-drop, length-take, get_or-drop}
use Rattle.std.proofs.lemmas.Map.Keys.{IsDistinct-push}
use Rattle.pgw_frames.specs.Frames.{IsBytes}
use Rattle.pgw_messages.proofs.Codecs.{IsBytes-rest, Takes, Takes-then, guard_ok, number16, number32, ok_is, step, types}
use Rattle.pgw_messages.proofs.Ended.{bind_ok}
use Rattle.pgw_messages.specs.Reading.{Read, ◌>>=◌, ended, list_at, number_at, taken, whole}
use Rattle.pgw_messages.specs.Spelling.{list_bytes}
use Rattle.pgw_messages.specs.declared.fault.MsgFault.{MsgFault}
use Rattle.pgw_messages.specs.declared.fault.MsgFault.TheVariants as field
use Rattle.pgw_messages.specs.declared.params.Pair.{Pair}
use Rattle.session_blob.proofs.Again.{state_again}
use Rattle.session_blob.specs.Blob.{most_blob, sized, prepared_bytes, variable_bytes, state_bytes, IsVariable, IsPrepared, IsNamedList, IsSpelling}
use Rattle.session_blob.specs.Entries.{is_among}
use Rattle.session_blob.specs.Prepared.{Prepared}
use Rattle.session_blob.specs.Reading.{sized_at, name_at, entry_at, named_at, named_list_at, variable_at, prepared_at, version_at, state_at, as_blob, state_of}
use Rattle.session_blob.specs.declared.fault.BlobFault.{BlobFault}
use Rattle.session_blob.specs.declared.fault.BlobFault.TheVariants as fault
use Rattle.session_blob.specs.declared.state.State.{State}

abbrev ok_text : List ℕ × List ℕ → Read (List ℕ)
ok_text x = Ok x

abbrev ok_list : {A : Type 0} → List A × List ℕ → Read (List A)
ok_list x = Ok x

bytes_drop : (n : ℕ) (b : List ℕ) → IsBytes b → IsBytes (drop n b)
bytes_drop n b h i = rw get_or-drop (h (n + i))

taken_takes : (n : ℕ) (b v rest : List ℕ) → IsBytes b → taken n b ≡ ok_text (v, rest) → Takes b v rest × (length v ≡ n)
taken_takes n b v rest fits e =
    let g = guard_ok (ltb (length b) n) field.Short (take n b, drop n b) (v, rest) e in
    let long : n ≤ length b = ltb-false _ _ g.0 in
    let len : length (take n b) ≡ n = omega (arith, length-take n b) in
    subst (λ (y : List ℕ × List ℕ). Takes b y.0 y.1 × (length y.0 ≡ n)) g.1 (record { parts = sym (take-append-drop n b); rest_fits = bytes_drop n b fits }, len)

utf8_by : (u : List ℕ × List ℕ) (x : Bool) (t : List ℕ × List ℕ) → (if x then ok_text u else Err field.NotText) ≡ ok_text t → (x ≡ true) × (u ≡ t)
utf8_by u true t e = (refl, ok_is u t e)
utf8_by u false t e = absurd cc

sized_takes : (b t rest : List ℕ) → IsBytes b → sized_at b ≡ ok_text (t, rest) → Takes b (sized t) rest × (is_utf8 t ≡ true)
unfolding sized_at
sized_takes b t rest fits e =
    let n = step number32 b (λ (n : ℕ × List ℕ). taken n.0 n.1 >>= λ t. if is_utf8 t.0 then ok_text t else Err field.NotText) (t, rest) fits e in
    let u = bind_ok (taken n.value n.rest) (λ t. if is_utf8 t.0 then ok_text t else Err field.NotText) (t, rest) n.next in
    let v = taken_takes n.value n.rest u.0.0 u.0.1 n.takes.rest_fits u.1 in
    let g = utf8_by u.0 (is_utf8 u.0.0) (t, rest) u.2 in
    let both = Takes-then n.takes v.0 in
    let whole : Takes b (sized u.0.0) u.0.1 = subst (λ (k : ℕ). Takes b (to_be_bytes w32 k ++ u.0.0) u.0.1) (sym v.1) both in
    subst (λ (y : List ℕ × List ℕ). Takes b (sized y.0) y.1 × (is_utf8 y.0 ≡ true)) g.1 (whole, g.0)

new_by : (u : List ℕ × List ℕ) (x : Bool) (t : List ℕ × List ℕ) → (if x then Err field.BadValue else ok_text u) ≡ ok_text t → (x ≡ false) × (u ≡ t)
new_by u true t e = absurd cc
new_by u false t e = (refl, ok_is u t e)

name_takes : (seen : List (List ℕ)) (b n rest : List ℕ) → IsBytes b → name_at seen b ≡ ok_text (n, rest) → Takes b (sized n) rest × (is_utf8 n ≡ true) × (is_among n seen ≡ false)
name_takes seen b n rest fits e =
    let s = bind_ok (sized_at b) (λ n. if is_among n.0 seen then Err field.BadValue else ok_text n) (n, rest) e in
    let t = sized_takes b s.0.0 s.0.1 fits s.1 in
    let g = new_by s.0 (is_among s.0.0 seen) (n, rest) s.2 in
    subst (λ (y : List ℕ × List ℕ). Takes b (sized y.0) y.1 × (is_utf8 y.0 ≡ true) × (is_among y.0 seen ≡ false)) g.1 (t.0, t.1, g.0)

module _ {A : Type 0} (item : List ℕ → List ℕ → Read A) (name : A → List ℕ) (body : A → List ℕ) (Is : A → Type 0)
  where
    abbrev whole_bytes : A → List ℕ
    whole_bytes x = sized (name x) ++ body x

    abbrev ItemTakes : Type 0
    ItemTakes = (n b : List ℕ) (x : A) (rest : List ℕ) → IsBytes b → is_utf8 n ≡ true → item n b ≡ Ok (x, rest) → Takes b (body x) rest × Is x × (name x ≡ n)

    abbrev Named : List (List ℕ) → ℕ → List ℕ → List A × List ℕ → Type 0
    Named seen n b y = Takes b (flat_map whole_bytes y.0) y.1 × (length y.0 ≡ n) × IsDistinct bytes_eq (seen ++ map name y.0) × AllByRecursion Is y.0

    named_takes : ItemTakes → (n : ℕ) (seen : List (List ℕ)) (b : List ℕ) (xs : List A) (rest : List ℕ) → IsBytes b → IsDistinct bytes_eq seen → named_at name item n seen b ≡ ok_list (xs, rest) → Named seen n b (xs, rest)
    named_takes h zero seen b xs rest fits d e = subst (Named seen 0 b) (ok_is ([], b) (xs, rest) e) (record { parts = refl; rest_fits = fits }, refl, subst (IsDistinct bytes_eq) (sym (append-nil seen)) d, tt)
    named_takes h (suc n) seen b xs rest fits d e =
        let x = bind_ok (entry_at item seen b) (λ (first : A × List ℕ). named_at name item n (seen ++ name first.0 ∷ []) first.1 >>= λ (others : List A × List ℕ). ok_list (first.0 ∷ others.0, others.1)) (xs, rest) e in
        let k = bind_ok (name_at seen b) (λ (n : List ℕ × List ℕ). item n.0 n.1) x.0 x.1 in
        let nt = name_takes seen b k.0.0 k.0.1 fits k.1 in
        let xt = h k.0.0 k.0.1 x.0.0 x.0.1 nt.0.rest_fits nt.1 k.2 in
        let new : is_among (name x.0.0) seen ≡ false = ap (λ (t : List ℕ). is_among t seen) xt.2 ∙ nt.2 in
        let more : IsDistinct bytes_eq (seen ++ name x.0.0 ∷ []) = IsDistinct-push nat_list_eq_equiv seen (name x.0.0) d new in
        let m = bind_ok (named_at name item n (seen ++ name x.0.0 ∷ []) x.0.1) (λ (others : List A × List ℕ). ok_list (x.0.0 ∷ others.0, others.1)) (xs, rest) x.2 in
        let mt = named_takes h n (seen ++ name x.0.0 ∷ []) x.0.1 m.0.0 m.0.1 xt.0.rest_fits more m.1 in
        let first : Takes b (sized k.0.0 ++ body x.0.0) x.0.1 = Takes-then nt.0 xt.0 in
        let named : Takes b (whole_bytes x.0.0) x.0.1 = subst (λ (t : List ℕ). Takes b (sized t ++ body x.0.0) x.0.1) (sym xt.2) first in
        let all = Takes-then named mt.0 in
        let distinct : IsDistinct bytes_eq (seen ++ name x.0.0 ∷ map name m.0.0) = subst (IsDistinct bytes_eq) (append_assoc seen (name x.0.0 ∷ []) (map name m.0.0)) mt.2 in
        subst (Named seen (suc n) b) (ok_is (x.0.0 ∷ m.0.0, m.0.1) (xs, rest) m.2) (all, ap suc mt.1, distinct, (xt.1, mt.3))

    named_list_takes : ItemTakes → (b : List ℕ) (xs : List A) (rest : List ℕ) → IsBytes b → named_list_at name item b ≡ ok_list (xs, rest) → Takes b (list_bytes whole_bytes xs) rest × IsNamedList name Is xs
    unfolding named_list_at IsDistinct
    named_list_takes h b xs rest fits e =
        let s = step number16 b (λ (n : ℕ × List ℕ). named_at name item n.0 [] n.1) (xs, rest) fits e in
        let m = named_takes h s.value [] s.rest xs rest s.takes.rest_fits tt s.next in
        let both = Takes-then s.takes m.0 in
        (subst (λ (k : ℕ). Takes b (to_be_bytes w16 k ++ flat_map whole_bytes xs) rest) (sym m.1) both, record { count = omega (arith, m.1, s.is); distinct = m.2; each = m.3 })

abbrev ok_pair : Pair × List ℕ → Read Pair
ok_pair x = Ok x

abbrev ok_prepared : Prepared × List ℕ → Read Prepared
ok_prepared x = Ok x

variable_takes : (n b : List ℕ) (x : Pair) (rest : List ℕ) → IsBytes b → is_utf8 n ≡ true → variable_at n b ≡ ok_pair (x, rest) → Takes b (sized x.value) rest × IsVariable x × (x.name ≡ n)
variable_takes n b x rest fits is e =
    let v = bind_ok (sized_at b) (λ (v : List ℕ × List ℕ). ok_pair (record { name = n; value = v.0 }, v.1)) (x, rest) e in
    let t = sized_takes b v.0.0 v.0.1 fits v.1 in
    subst (λ (y : Pair × List ℕ). Takes b (sized y.0.value) y.1 × IsVariable y.0 × (y.0.name ≡ n)) (ok_is (record { name = n; value = v.0.0 }, v.0.1) (x, rest) v.2) (t.0, record { name = is; value = t.1 }, refl)

prepared_takes : (n b : List ℕ) (x : Prepared) (rest : List ℕ) → IsBytes b → is_utf8 n ≡ true → prepared_at n b ≡ ok_prepared (x, rest) → Takes b (sized x.query ++ list_bytes (to_be_bytes w32) x.types) rest × IsPrepared x × (x.name ≡ n)
prepared_takes n b x rest fits is e =
    let q = bind_ok (sized_at b) (λ (q : List ℕ × List ℕ). list_at (number_at w32) q.1 >>= λ (ts : List ℕ × List ℕ). ok_prepared (record { name = n; query = q.0; types = ts.0 }, ts.1)) (x, rest) e in
    let qt = sized_takes b q.0.0 q.0.1 fits q.1 in
    let ts = step types q.0.1 (λ (ts : List ℕ × List ℕ). ok_prepared (record { name = n; query = q.0.0; types = ts.0 }, ts.1)) (x, rest) qt.0.rest_fits q.2 in
    let both = Takes-then qt.0 ts.takes in
    subst (λ (y : Prepared × List ℕ). Takes b (sized y.0.query ++ list_bytes (to_be_bytes w32) y.0.types) y.1 × IsPrepared y.0 × (y.0.name ≡ n)) (ok_is (record { name = n; query = q.0.0; types = ts.value }, ts.rest) (x, rest) ts.next) (both, record { name = is; query = qt.1; types = ts.is }, refl)

version_takes : (b : List ℕ) (n : ℕ) (rest : List ℕ) → IsBytes b → version_at b ≡ Ok (n, rest) → Takes b (1 ∷ []) rest
version_takes [] n rest fits e = absurd cc
version_takes (c ∷ b) n rest fits e = by (c == 1) refl e
  where
    ok_number : ℕ × List ℕ → Read ℕ
    ok_number x = Ok x

    by : (x : Bool) → (c == 1) ≡ x → (if x then ok_number (c, b) else Err (field.UnknownTag c)) ≡ ok_number (n, rest) → Takes (c ∷ b) (1 ∷ []) rest
    by true h g = let is = ap (λ (p : ℕ × List ℕ). p.1) (ok_is (c, b) (n, rest) g) in subst (λ (r : List ℕ). Takes (c ∷ b) (1 ∷ []) r) is (record { parts = ap (λ (d : ℕ). d ∷ b) (eqb-true c 1 h); rest_fits = IsBytes-rest c b fits })
    by false h g = absurd cc

abbrev state_ok : State → Result State MsgFault
state_ok x = Ok x

abbrev blob_ok : State → Result State BlobFault
blob_ok x = Ok x

nothing_left : (rest : List ℕ) (s t : State) → (ended rest >>= λ nothing. state_ok s) ≡ state_ok t → (rest ≡ []) × (s ≡ t)
nothing_left [] s t e = (refl, ok_is s t e)
nothing_left (c ∷ r) s t e = absurd cc

state_takes : (s : State) (b : List ℕ) → IsBytes b → length b ≤ most_blob → whole (state_at b) ≡ state_ok s → IsSpelling s b
unfolding state_at state_bytes
state_takes s b fits le e =
    let w = bind_ok (state_at b) (λ x. ended x.1 >>= λ nothing. state_ok x.0) s e in
    let v = bind_ok (version_at b) _ w.0 w.1 in
    let vt = version_takes b v.0.0 v.0.1 fits v.1 in
    let user = bind_ok (sized_at v.0.1) _ w.0 v.2 in
    let ut = sized_takes v.0.1 user.0.0 user.0.1 vt.rest_fits user.1 in
    let database = bind_ok (sized_at user.0.1) _ w.0 user.2 in
    let dt = sized_takes user.0.1 database.0.0 database.0.1 ut.0.rest_fits database.1 in
    let vs = bind_ok (named_list_at (λ (q : Pair). q.name) variable_at database.0.1) _ w.0 database.2 in
    let vst = named_list_takes variable_at (λ (q : Pair). q.name) (λ (q : Pair). sized q.value) IsVariable variable_takes database.0.1 vs.0.0 vs.0.1 dt.0.rest_fits vs.1 in
    let xs = bind_ok (named_list_at (λ (x : Prepared). x.name) prepared_at vs.0.1) _ w.0 vs.2 in
    let xst = named_list_takes prepared_at (λ (x : Prepared). x.name) (λ (x : Prepared). sized x.query ++ list_bytes (to_be_bytes w32) x.types) IsPrepared prepared_takes vs.0.1 xs.0.0 xs.0.1 vst.0.rest_fits xs.1 in
    let st : State = record { user = user.0.0; database = database.0.0; variables = vs.0.0; statements = xs.0.0 } in
    let same : (st, xs.0.1) ≡ w.0 = ok_is (st, xs.0.1) w.0 xs.2 in
    let left = nothing_left w.0.1 w.0.0 s w.2 in
    let none : xs.0.1 ≡ [] = ap (λ (p : State × List ℕ). p.1) same ∙ left.0 in
    let is : st ≡ s = ap (λ (p : State × List ℕ). p.0) same ∙ left.1 in
    let last : vs.0.1 ≡ list_bytes prepared_bytes xs.0.0 = xst.0.parts ∙ ap (λ (r : List ℕ). list_bytes prepared_bytes xs.0.0 ++ r) none ∙ append-nil (list_bytes prepared_bytes xs.0.0) in
    let all : b ≡ state_bytes st = vt.parts ∙ ap (λ (r : List ℕ). 1 ∷ r) (ut.0.parts ∙ ap (λ (r : List ℕ). sized user.0.0 ++ r) (dt.0.parts ∙ ap (λ (r : List ℕ). sized database.0.0 ++ r) (vst.0.parts ∙ ap (λ (r : List ℕ). list_bytes variable_bytes vs.0.0 ++ r) last))) in
    subst (λ (t : State). IsSpelling t b) is (record { user = ut.1; database = dt.1; variables = vst.1; statements = xst.1; bytes = all; within = le })

blob_is : (r : Result State MsgFault) (s : State) → as_blob r ≡ blob_ok s → r ≡ state_ok s
blob_is (Ok t) s e = let i : t ≡ s = cc in ap state_ok i
blob_is (Err f) s e = absurd cc

-- what is read has these bytes
pub is_spelled : (s : State) (b : List ℕ) → IsBytes b → state_of b ≡ blob_ok s → IsSpelling s b
unfolding state_of
is_spelled s b fits e = by (nat_lt most_blob (length b)) refl e
  where
    by : (x : Bool) → nat_lt most_blob (length b) ≡ x → (if x then Err (fault.TooLarge (length b)) else as_blob (whole (state_at b))) ≡ blob_ok s → IsSpelling s b
    by true h g = absurd cc
    by false h g = state_takes s b fits (ltb-false _ _ h) (blob_is (whole (state_at b)) s g)

-- what is refused is no state's
pub refused_is_none : (s : State) (b : List ℕ) (e : BlobFault) → state_of b ≡ Err e → ¬ IsSpelling s b
refused_is_none s b e h is = let k : state_of b ≡ blob_ok s = state_again s b is in let bad : Err e ≡ blob_ok s = sym h ∙ k in absurd cc
