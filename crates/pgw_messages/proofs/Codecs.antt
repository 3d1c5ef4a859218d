-- What is read of a field is the field that was written, and what was written is read again.
use Rattle.std.proofs.Common.{◌≡◌, ℕ, zero, suc, ◌+◌, ◌^◌, ◌<◌, ◌≤◌, Bool, true, false, cond, ltb, List, [], ◌∷◌, ◌++◌, length, take, drop, Option, Some, None, Result, Ok, Err, refl, sym, ap, subst, ◌∙◌, append_assoc, arith, rules, lit<, inl, inr}
use Rattle.std.specs.Prelude.{ℤ, pos, negsuc, ◌||◌, if◌then◌else◌}
use Rattle.std.specs.Int.{Width, w16, w32, byte_len, cast_signed, cast_unsigned, from_be_bytes, to_be_bytes}
use Rattle.std.specs.Int.RustNames.{FitsSigned}
use Rattle.std.specs.List.{flat_map, list_any, AllByRecursion}
use Rattle.std.specs.Str.{is_utf8}
use Rattle.std.proofs.lemmas.Bool.{eqb-true, cases_lt, ltb-false, le-ltb}
use Rattle.std.proofs.lemmas.Int.{of_z-to_z, to_z-of_z, to_z_pos}
use Rattle.std.proofs.lemmas.List.{take_at, drop_at, take-append-drop, length-append, length-take, get_or-drop, get_or-take, get_or_past}
use Rattle.std.proofs.lemmas.Nat.{be_bytes_2, be_bytes_4, from_be_bytes-to_be_bytes_2, from_be_bytes-to_be_bytes_4}
use borrow.Author.Gap.{read_sfits}
use Rattle.pgw_frames.specs.Frames.{IsBytes}
use Rattle.pgw_messages.specs.declared.fault.MsgFault.{MsgFault}
use Rattle.pgw_messages.specs.declared.fault.MsgFault.TheVariants as fault
use Rattle.pgw_messages.specs.Reading.{Read, ◌>>=◌, byte_at, taken, number_at, signed_at, sized_at, value_at, is_zero, zero_ended, text_at, many_at, list_at}
use Rattle.pgw_messages.specs.Spelling.{text_bytes, signed_bytes, value_bytes, list_bytes, HasNoZero, IsText, IsValue, IsList}
use Rattle.pgw_messages.proofs.Ended.{bind_ok}

abbrev done : {A : Type 0} → A → Result A MsgFault
done x = Ok x

pub ok_is : {A : Type 0} (x y : A) → done x ≡ done y → x ≡ y
ok_is x y e = cc

-- what is so of the value that was made is so of the value that was read
pub carried : {A : Type 0} (P : A × List ℕ → Type 0) (made read : A × List ℕ) → done made ≡ done read → P made → P read
carried P made read e p = subst P (ok_is made read e) p

-- a test that did not fail
pub guard_ok : {A : Type 0} (b : Bool) (e : MsgFault) (x y : A) → cond b (Err e) (Ok x) ≡ Ok y → (b ≡ false) × (x ≡ y)
guard_ok true e x y h = absurd cc
guard_ok false e x y h = (refl, cc)

-- ---- bytes

IsBytes-drop : (n : ℕ) (b : List ℕ) → IsBytes b → IsBytes (drop n b)
IsBytes-drop n b h i = rw get_or-drop (h (n + i))

IsBytes-take : (n : ℕ) (b : List ℕ) → IsBytes b → IsBytes (take n b)
IsBytes-take n b h i =
    elim (cases_lt i n) [
      | inl lt ↦ rw (get_or-take n b i 0 lt) (h i)
      | inr le ↦ rw (get_or_past (take n b) i 0 (omega (arith, length-take n b))) (omega arith)
    ]

pub IsBytes-rest : (c : ℕ) (b : List ℕ) → IsBytes (c ∷ b) → IsBytes b
IsBytes-rest c b h i = h (suc i)

-- what was taken from the front
pub record Takes (b text rest : List ℕ) : Type 0 where
  pub parts : b ≡ text ++ rest
  pub rest_fits : IsBytes rest

pub Takes-then : {a x b y c : List ℕ} → Takes a x b → Takes b y c → Takes a (x ++ y) c
Takes-then {a = a} {x = x} {b = b} {y = y} {c = c} p q = record { parts = p.parts ∙ ap (λ (t : List ℕ). x ++ t) q.parts ∙ sym (append_assoc x y c); rest_fits = q.rest_fits }

-- ---- a field both ways

pub record Codec {A : Type 0} (at : List ℕ → Read A) (bytes : A → List ℕ) (Is : A → Type 0) : Type 0 where
  pub takes : (b : List ℕ) (x : A) (rest : List ℕ) → IsBytes b → at b ≡ Ok (x, rest) → Takes b (bytes x) rest × Is x
  pub again : (x : A) (rest : List ℕ) → Is x → at (bytes x ++ rest) ≡ Ok (x, rest)

-- a field that was read, and what is read behind it
pub record Step {A B : Type 0} (bytes : A → List ℕ) (Is : A → Type 0) (b : List ℕ) (more : A × List ℕ → Result B MsgFault) (y : B) : Type 0 where
  pub value : A
  pub rest : List ℕ
  pub takes : Takes b (bytes value) rest
  pub is : Is value
  pub next : more (value, rest) ≡ Ok y

pub step : {A B : Type 0} {at : List ℕ → Read A} {bytes : A → List ℕ} {Is : A → Type 0} (codec : Codec at bytes Is) (b : List ℕ) (more : A × List ℕ → Result B MsgFault) (y : B) → IsBytes b → (at b >>= more) ≡ Ok y → Step bytes Is b more y
step {at = at} codec b more y fits e =
    let s = bind_ok (at b) more y e in
    let t = codec.takes b s.0.0 s.0.1 fits s.1 in
    record { value = s.0.0; rest = s.0.1; takes = t.0; is = t.1; next = s.2 }

-- a field that is read again, before what is read behind it
pub again_then : {A B : Type 0} {at : List ℕ → Read A} {bytes : A → List ℕ} {Is : A → Type 0} (codec : Codec at bytes Is) (x : A) (rest : List ℕ) (more : A × List ℕ → Result B MsgFault) → Is x → (at (bytes x ++ rest) >>= more) ≡ more (x, rest)
again_then codec x rest more is = ap (λ r. r >>= more) (codec.again x rest is)

-- ---- numbers

abbrev ok_byte : ℕ × List ℕ → Read ℕ
ok_byte x = Ok x

byte_takes : (b : List ℕ) (x : ℕ) (rest : List ℕ) → IsBytes b → byte_at b ≡ ok_byte (x, rest) → Takes b (x ∷ []) rest × (x < 256)
byte_takes [] x rest fits e = absurd cc
byte_takes (c ∷ b) x rest fits e =
    subst (λ (y : ℕ × List ℕ). Takes (c ∷ b) (y.0 ∷ []) y.1 × (y.0 < 256)) (ok_is (c, b) (x, rest) e) (record { parts = refl; rest_fits = IsBytes-rest c b fits }, fits 0)

pub byte : Codec byte_at (λ x. x ∷ []) (λ x. x < 256)
byte = record { takes = byte_takes; again = λ x rest is. refl }

record IsWide (w : Width) (limit : ℕ) : Type 0 where
  len : (n : ℕ) → length (to_be_bytes w n) ≡ byte_len w
  back : (b : List ℕ) → length b ≡ byte_len w → IsBytes b → to_be_bytes w (from_be_bytes w b) ≡ b
  again : (n : ℕ) → n < limit → from_be_bytes w (to_be_bytes w n) ≡ n
  below : (b : List ℕ) → IsBytes b → from_be_bytes w b < limit

wide16 : IsWide w16 (2 ^ 16)
wide16 = record {
  len = λ n. refl;
  back = λ b len fits. be_bytes_2 b _ len fits refl;
  again = λ n lt. from_be_bytes-to_be_bytes_2 n lt;
  below = λ b fits. omega (arith, fits 0, fits 1);
}

wide32 : IsWide w32 (2 ^ 32)
wide32 = record {
  len = λ n. refl;
  back = λ b len fits. be_bytes_4 b _ len fits refl;
  again = λ n lt. from_be_bytes-to_be_bytes_4 n lt;
  below = λ b fits. omega (arith, fits 0, fits 1, fits 2, fits 3);
}

number_takes : (w : Width) (limit : ℕ) (wide : IsWide w limit) (b : List ℕ) (n : ℕ) (rest : List ℕ) → IsBytes b → number_at w b ≡ Ok (n, rest) → Takes b (to_be_bytes w n) rest × (n < limit)
number_takes w limit wide b n rest fits e =
    let g = guard_ok (ltb (length b) (byte_len w)) fault.Short (from_be_bytes w (take (byte_len w) b), drop (byte_len w) b) (n, rest) e in
    let long : byte_len w ≤ length b = ltb-false _ _ g.0 in
    let n_is : from_be_bytes w (take (byte_len w) b) ≡ n = ap (λ (p : ℕ × List ℕ). p.0) g.1 in
    let rest_is : drop (byte_len w) b ≡ rest = ap (λ (p : ℕ × List ℕ). p.1) g.1 in
    let front : to_be_bytes w n ≡ take (byte_len w) b = rw (← n_is) (wide.back (take (byte_len w) b) (omega (arith, length-take (byte_len w) b)) (IsBytes-take (byte_len w) b fits)) in
    (record { parts = rw (front, ← rest_is) (sym (take-append-drop (byte_len w) b)); rest_fits = rw (← rest_is) (IsBytes-drop (byte_len w) b fits) }, rw (← n_is) (wide.below (take (byte_len w) b) (IsBytes-take (byte_len w) b fits)))

number_again : (w : Width) (limit : ℕ) (wide : IsWide w limit) (n : ℕ) (rest : List ℕ) → n < limit → number_at w (to_be_bytes w n ++ rest) ≡ Ok (n, rest)
number_again w limit wide n rest lt =
    let len = wide.len n in
    let long : ltb (length (to_be_bytes w n ++ rest)) (byte_len w) ≡ false = le-ltb _ _ (omega (arith, length-append (to_be_bytes w n) rest)) in
    rw (long, take_at (to_be_bytes w n) rest (byte_len w) len, drop_at (to_be_bytes w n) rest (byte_len w) len, wide.again n lt) refl

pub number16 : Codec (number_at w16) (to_be_bytes w16) (λ n. n < 2 ^ 16)
number16 = record { takes = number_takes w16 (2 ^ 16) wide16; again = number_again w16 (2 ^ 16) wide16 }

pub number32 : Codec (number_at w32) (to_be_bytes w32) (λ n. n < 2 ^ 32)
number32 = record { takes = number_takes w32 (2 ^ 32) wide32; again = number_again w32 (2 ^ 32) wide32 }

signed_takes : (w : Width) (limit : ℕ) → ((n : ℕ) → n < limit → cast_unsigned w (cast_signed w n) ≡ n) → IsWide w limit → (b : List ℕ) (n : ℤ) (rest : List ℕ) → IsBytes b → signed_at w b ≡ Ok (n, rest) → Takes b (signed_bytes w n) rest × FitsSigned w n
signed_takes w limit back wide b n rest fits e =
    let s = bind_ok (number_at w b) (λ m. done (cast_signed w m.0, m.1)) (n, rest) e in
    let t = number_takes w limit wide b s.0.0 s.0.1 fits s.1 in
    let same : signed_bytes w (cast_signed w s.0.0) ≡ to_be_bytes w s.0.0 = ap (to_be_bytes w) (back s.0.0 t.1) in
    subst (λ (y : ℤ × List ℕ). Takes b (signed_bytes w y.0) y.1 × FitsSigned w y.0) (ok_is (cast_signed w s.0.0, s.0.1) (n, rest) s.2) (rw same t.0, read_sfits w s.0.0)

signed_again : (w : Width) (limit : ℕ) → ((n : ℤ) → FitsSigned w n → cast_unsigned w n < limit) → IsWide w limit → (n : ℤ) (rest : List ℕ) → FitsSigned w n → signed_at w (signed_bytes w n ++ rest) ≡ Ok (n, rest)
signed_again w limit below wide n rest is = rw (number_again w limit wide (cast_unsigned w n) rest (below n is), to_z-of_z w n is) refl

pub signed16 : Codec (signed_at w16) (signed_bytes w16) (FitsSigned w16)
signed16 = record { takes = signed_takes w16 (2 ^ 16) (of_z-to_z w16) wide16; again = signed_again w16 (2 ^ 16) (λ n is. search (rules, is)) wide16 }

pub signed32 : Codec (signed_at w32) (signed_bytes w32) (FitsSigned w32)
signed32 = record { takes = signed_takes w32 (2 ^ 32) (of_z-to_z w32) wide32; again = signed_again w32 (2 ^ 32) (λ n is. search (rules, is)) wide32 }

-- ---- texts

abbrev ok_text : List ℕ × List ℕ → Read (List ℕ)
ok_text x = Ok x

record Ends (b t rest : List ℕ) : Type 0 where
  parts : b ≡ (t ++ 0 ∷ []) ++ rest
  no_zero : HasNoZero t

zero_is : (c : ℕ) → is_zero c ≡ true → c ≡ 0
zero_is c e = eqb-true c 0 e

ends_by : (c : ℕ) (b t rest : List ℕ) (x : Bool) (read : Read (List ℕ)) → is_zero c ≡ x → read ≡ zero_ended b → ((t' rest' : List ℕ) → zero_ended b ≡ ok_text (t', rest') → Ends b t' rest')
    → (if x then ok_text ([], b) else read >>= λ u. ok_text (c ∷ u.0, u.1)) ≡ ok_text (t, rest) → Ends (c ∷ b) t rest
ends_by c b t rest true read z same more e =
    subst (λ (y : List ℕ × List ℕ). Ends (c ∷ b) y.0 y.1) (ok_is ([], b) (t, rest) e) (record { parts = ap (λ (d : ℕ). d ∷ b) (zero_is c z); no_zero = refl })
ends_by c b t rest false (Ok u) z same more e =
    let inner = more u.0 u.1 (sym same) in
    subst (λ (y : List ℕ × List ℕ). Ends (c ∷ b) y.0 y.1) (ok_is (c ∷ u.0, u.1) (t, rest) e) (record { parts = ap (λ (d : List ℕ). c ∷ d) inner.parts; no_zero = rw (z, inner.no_zero) refl })
ends_by c b t rest false (Err f) z same more e = absurd cc

ends : (b t rest : List ℕ) → zero_ended b ≡ ok_text (t, rest) → Ends b t rest
ends [] t rest e = absurd cc
ends (c ∷ b) t rest e = ends_by c b t rest (is_zero c) (zero_ended b) refl refl (ends b) e

utf8_by : (u : List ℕ × List ℕ) (x : Bool) (t : List ℕ × List ℕ) → (if x then ok_text u else Err fault.NotText) ≡ ok_text t → (x ≡ true) × (u ≡ t)
utf8_by u true t e = (refl, ok_is u t e)
utf8_by u false t e = absurd cc

fits_behind : (b t rest : List ℕ) → b ≡ t ++ rest → IsBytes b → IsBytes rest
fits_behind b t rest e fits = subst IsBytes (drop_at t rest (length t) refl) (IsBytes-drop (length t) (t ++ rest) (subst IsBytes e fits))

text_takes : (b t rest : List ℕ) → IsBytes b → text_at b ≡ ok_text (t, rest) → Takes b (text_bytes t) rest × IsText t
unfolding text_at
text_takes b t rest fits e =
    let u = bind_ok (zero_ended b) (λ u. if is_utf8 u.0 then ok_text u else Err fault.NotText) (t, rest) e in
    let g = utf8_by u.0 (is_utf8 u.0.0) (t, rest) u.2 in
    let s = ends b u.0.0 u.0.1 u.1 in
    subst (λ (y : List ℕ × List ℕ). Takes b (text_bytes y.0) y.1 × IsText y.0) g.1 (record { parts = s.parts; rest_fits = fits_behind b (text_bytes u.0.0) u.0.1 s.parts fits }, record { no_zero = s.no_zero; utf8 = g.0 })

pub or_parts : (a b : Bool) → (a || b) ≡ false → (a ≡ false) × (b ≡ false)
or_parts true b e = absurd cc
or_parts false b e = (refl, e)

zero_again : (t rest : List ℕ) → HasNoZero t → zero_ended (text_bytes t ++ rest) ≡ ok_text (t, rest)
zero_again [] rest h = refl
zero_again (c ∷ t) rest h = let p = or_parts (is_zero c) (list_any is_zero t) h in rw (p.0, zero_again t rest p.1) refl

text_again : (t rest : List ℕ) → IsText t → text_at (text_bytes t ++ rest) ≡ ok_text (t, rest)
unfolding text_at
text_again t rest is = rw (zero_again t rest is.no_zero, is.utf8) refl

pub text : Codec text_at text_bytes IsText
text = record { takes = text_takes; again = text_again }

-- ---- values

taken_takes : (n : ℕ) (b v rest : List ℕ) → IsBytes b → taken n b ≡ ok_text (v, rest) → Takes b v rest × (length v ≡ n)
taken_takes n b v rest fits e =
    let g = guard_ok (ltb (length b) n) fault.Short (take n b, drop n b) (v, rest) e in
    let long : n ≤ length b = ltb-false _ _ g.0 in
    let len : length (take n b) ≡ n = omega (arith, length-take n b) in
    subst (λ (y : List ℕ × List ℕ). Takes b y.0 y.1 × (length y.0 ≡ n)) g.1 (record { parts = sym (take-append-drop n b); rest_fits = IsBytes-drop n b fits }, len)

taken_again : (v rest : List ℕ) → taken (length v) (v ++ rest) ≡ ok_text (v, rest)
taken_again v rest =
    let long : ltb (length (v ++ rest)) (length v) ≡ false = le-ltb _ _ (omega (arith, length-append v rest)) in
    rw (long, take_at v rest (length v) refl, drop_at v rest (length v) refl) refl

abbrev ok_value : Option (List ℕ) × List ℕ → Read (Option (List ℕ))
ok_value x = Ok x

sized_takes : (b : List ℕ) (n : ℤ) (behind : List ℕ) (v : Option (List ℕ)) (rest : List ℕ) → Takes b (signed_bytes w32 n) behind → FitsSigned w32 n → sized_at n behind ≡ ok_value (v, rest) → Takes b (value_bytes v) rest × IsValue v
sized_takes b (pos n) behind v rest t is e =
    let s = bind_ok (taken n behind) (λ u. ok_value (Some u.0, u.1)) (v, rest) e in
    let u = taken_takes n behind s.0.0 s.0.1 t.rest_fits s.1 in
    let both : Takes b (to_be_bytes w32 n ++ s.0.0) s.0.1 = Takes-then t u.0 in
    let whole : Takes b (value_bytes (Some s.0.0)) s.0.1 = subst (λ (k : ℕ). Takes b (to_be_bytes w32 k ++ s.0.0) s.0.1) (sym u.1) both in
    let small : n < 2 ^ 31 = is.sfits in
    subst (λ (y : Option (List ℕ) × List ℕ). Takes b (value_bytes y.0) y.1 × IsValue y.0) (ok_is (Some s.0.0, s.0.1) (v, rest) s.2) (whole, omega (arith, u.1, small))
sized_takes b (negsuc zero) behind v rest t is e =
    subst (λ (y : Option (List ℕ) × List ℕ). Takes b (value_bytes y.0) y.1 × IsValue y.0) (ok_is (None, behind) (v, rest) e) (t, tt)
sized_takes b (negsuc (suc n)) behind v rest t is e = absurd cc

value_takes : (b : List ℕ) (v : Option (List ℕ)) (rest : List ℕ) → IsBytes b → value_at b ≡ ok_value (v, rest) → Takes b (value_bytes v) rest × IsValue v
value_takes b v rest fits e =
    let s = step signed32 b (λ n. sized_at n.0 n.1) (v, rest) fits e in
    sized_takes b s.value s.rest v rest s.takes s.is s.next

value_again : (v : Option (List ℕ)) (rest : List ℕ) → IsValue v → value_at (value_bytes v ++ rest) ≡ ok_value (v, rest)
value_again None rest is = ap (λ (r : Read ℤ). r >>= λ n. sized_at n.0 n.1) (signed32.again (negsuc zero) rest (record { sfits = lit< tt }))
value_again (Some v) rest is =
    let regrouped : value_bytes (Some v) ++ rest ≡ to_be_bytes w32 (length v) ++ (v ++ rest) = append_assoc (to_be_bytes w32 (length v)) v rest in
    ap value_at regrouped ∙ rw (number_again w32 (2 ^ 32) wide32 (length v) (v ++ rest) (omega arith), to_z_pos w32 (length v) is, taken_again v rest) refl

pub value : Codec value_at value_bytes IsValue
value = record { takes = value_takes; again = value_again }

-- ---- lists

abbrev ok_list : {A : Type 0} → List A × List ℕ → Read (List A)
ok_list x = Ok x

many_takes : {A : Type 0} (item : List ℕ → Read A) (bytes : A → List ℕ) (Is : A → Type 0) (codec : Codec item bytes Is) (n : ℕ) (b : List ℕ) (xs : List A) (rest : List ℕ) → IsBytes b → many_at item n b ≡ ok_list (xs, rest)
    → Takes b (flat_map bytes xs) rest × (length xs ≡ n) × AllByRecursion Is xs
many_takes {A} item bytes Is codec zero b xs rest fits e =
    subst (λ (y : List A × List ℕ). Takes b (flat_map bytes y.0) y.1 × (length y.0 ≡ 0) × AllByRecursion Is y.0) (ok_is ([], b) (xs, rest) e) (record { parts = refl; rest_fits = fits }, refl, tt)
many_takes {A} item bytes Is codec (suc n) b xs rest fits e =
    let s = step codec b (λ first. many_at item n first.1 >>= λ others. ok_list (first.0 ∷ others.0, others.1)) (xs, rest) fits e in
    let m = bind_ok (many_at item n s.rest) (λ others. ok_list (s.value ∷ others.0, others.1)) (xs, rest) s.next in
    let more = many_takes item bytes Is codec n s.rest m.0.0 m.0.1 s.takes.rest_fits m.1 in
    let both = Takes-then s.takes more.0 in
    subst (λ (y : List A × List ℕ). Takes b (flat_map bytes y.0) y.1 × (length y.0 ≡ suc n) × AllByRecursion Is y.0) (ok_is (s.value ∷ m.0.0, m.0.1) (xs, rest) m.2) (both, ap suc more.1, (s.is, more.2))

many_again : {A : Type 0} (item : List ℕ → Read A) (bytes : A → List ℕ) (Is : A → Type 0) (codec : Codec item bytes Is) (xs : List A) (rest : List ℕ) → AllByRecursion Is xs → many_at item (length xs) (flat_map bytes xs ++ rest) ≡ ok_list (xs, rest)
many_again item bytes Is codec [] rest is = refl
many_again item bytes Is codec (x ∷ xs) rest is =
    let regrouped : flat_map bytes (x ∷ xs) ++ rest ≡ bytes x ++ (flat_map bytes xs ++ rest) = append_assoc (bytes x) (flat_map bytes xs) rest in
    ap (many_at item (suc (length xs))) regrouped ∙ rw (codec.again x (flat_map bytes xs ++ rest) is.0, many_again item bytes Is codec xs rest is.1) refl

list_takes : {A : Type 0} (item : List ℕ → Read A) (bytes : A → List ℕ) (Is : A → Type 0) (codec : Codec item bytes Is) (b : List ℕ) (xs : List A) (rest : List ℕ) → IsBytes b → list_at item b ≡ ok_list (xs, rest) → Takes b (list_bytes bytes xs) rest × IsList Is xs
unfolding list_at
list_takes item bytes Is codec b xs rest fits e =
    let s = step number16 b (λ n. many_at item n.0 n.1) (xs, rest) fits e in
    let m = many_takes item bytes Is codec s.value s.rest xs rest s.takes.rest_fits s.next in
    let both = Takes-then s.takes m.0 in
    (subst (λ (k : ℕ). Takes b (to_be_bytes w16 k ++ flat_map bytes xs) rest) (sym m.1) both, record { count = omega (arith, m.1, s.is); each = m.2 })

list_again : {A : Type 0} (item : List ℕ → Read A) (bytes : A → List ℕ) (Is : A → Type 0) (codec : Codec item bytes Is) (xs : List A) (rest : List ℕ) → IsList Is xs → list_at item (list_bytes bytes xs ++ rest) ≡ ok_list (xs, rest)
unfolding list_at
list_again item bytes Is codec xs rest is =
    let regrouped : list_bytes bytes xs ++ rest ≡ to_be_bytes w16 (length xs) ++ (flat_map bytes xs ++ rest) = append_assoc (to_be_bytes w16 (length xs)) (flat_map bytes xs) rest in
    let few : length xs ≤ 65535 = is.count in
    ap (λ (b : List ℕ). number_at w16 b >>= λ n. many_at item n.0 n.1) regrouped ∙ rw (number_again w16 (2 ^ 16) wide16 (length xs) (flat_map bytes xs ++ rest) (omega arith), many_again item bytes Is codec xs rest is.each) refl

pub list : {A : Type 0} (item : List ℕ → Read A) (bytes : A → List ℕ) (Is : A → Type 0) → Codec item bytes Is → Codec (list_at item) (list_bytes bytes) (IsList Is)
list item bytes Is codec = record { takes = list_takes item bytes Is codec; again = list_again item bytes Is codec }

pub types : Codec (list_at (number_at w32)) (list_bytes (to_be_bytes w32)) (IsList (λ n. n < 2 ^ 32))
types = list (number_at w32) (to_be_bytes w32) (λ n. n < 2 ^ 32) number32

pub formats : Codec (list_at (number_at w16)) (list_bytes (to_be_bytes w16)) (IsList (λ n. n < 2 ^ 16))
formats = list (number_at w16) (to_be_bytes w16) (λ n. n < 2 ^ 16) number16

pub values : Codec (list_at value_at) (list_bytes value_bytes) (IsList IsValue)
values = list value_at value_bytes IsValue value
