-- Lists of frames and of told frames.
use Rattle.proxy_outside.specs.Rules.{Rules}
use Rattle.session_trace.proofs.Base.{EndsReady, after, all_copy, ends_asked, is_ask, is_copy}
use Rattle.session_trace.specs.Replies.{Legal, Told, firsts, pair, replies}
use Rattle.session_model.specs.Kind.{Kind}
use Rattle.session_model.specs.Tags.{asks_in, readies_in}
use Rattle.std.proofs.Common.{◌≡◌, ℕ, zero, suc, ◌+◌, Bool, true, false, List, [], ◌∷◌, ◌++◌, length, drop, refl, ap, sym, ◌∙◌, arith, append_assoc, inl, inr, ◌⊎◌}
use Rattle.std.specs.Prelude.{◌||◌, ◌&&◌, IsTrue, Option, None}
use Rattle.std.specs.List.{AllByRecursion}
use Rattle.pgw_frames.specs.Frames.{IsGood}
use Rattle.pgw_frames.specs.declared.frame.Frame.{Frame}

pub cancel : {X : Type 0} (xs ys readies_in' : List X) → xs ++ ys ≡ xs ++ readies_in' → ys ≡ readies_in'
cancel [] ys readies_in' e = e
cancel (x ∷ xs) ys readies_in' e = cancel xs ys readies_in' (cc)

pub zs_append : (xs ys : List Frame) → readies_in (xs ++ ys) ≡ readies_in xs + readies_in ys
zs_append [] ys = omega arith
zs_append (x ∷ xs) ys = omega (arith, zs_append xs ys)

pub asks_append : (xs ys : List Frame) → asks_in (xs ++ ys) ≡ asks_in xs + asks_in ys
asks_append [] ys = omega arith
asks_append (x ∷ xs) ys = omega (arith, asks_append xs ys)

pub good_append : (xs ys : List Frame) → AllByRecursion IsGood xs → AllByRecursion IsGood ys → AllByRecursion IsGood (xs ++ ys)
good_append [] ys g h = h
good_append (x ∷ xs) ys g h = (g.0, good_append xs ys g.1 h)

pub good_front : (xs ys : List Frame) → AllByRecursion IsGood (xs ++ ys) → AllByRecursion IsGood xs
good_front [] ys g = tt
good_front (x ∷ xs) ys g = (g.0, good_front xs ys g.1)

pub good_back : (xs ys : List Frame) → AllByRecursion IsGood (xs ++ ys) → AllByRecursion IsGood ys
good_back [] ys g = g
good_back (x ∷ xs) ys g = good_back xs ys g.1

pub ready_append : (xs ys : List Frame) → EndsReady ys → EndsReady (xs ++ ys)
ready_append xs ys (front, z, e, t) = (xs ++ front, z, ap (λ v. xs ++ v) e ∙ sym (append_assoc xs front (z ∷ [])), t)

pub split_and : (a b : Bool) → IsTrue (a && b) → IsTrue a × IsTrue b
split_and true b h = (refl, h)
split_and false b h = absurd (cc)

pub split_or : (a b : Bool) → IsTrue (a || b) → IsTrue a ⊎ IsTrue b
split_or true b h = inl refl
split_or false b h = inr h

pub or_left : (a b : Bool) → IsTrue a → IsTrue (a || b)
or_left true b h = refl
or_left false b h = absurd (cc)

pub or_right : (a b : Bool) → IsTrue b → IsTrue (a || b)
or_right true b h = refl
or_right false b h = h

pub copy_back : (xs ys : List Frame) → IsTrue (all_copy (xs ++ ys)) → IsTrue (all_copy ys)
copy_back [] ys h = h
copy_back (x ∷ xs) ys h = copy_back xs ys (split_and (is_copy x) (all_copy (xs ++ ys)) h).1

pub asked_back : (xs ys : List Frame) → IsTrue (ends_asked (xs ++ ys)) → IsTrue (ends_asked ys) ⊎ IsTrue (all_copy ys)
asked_back [] ys h = inl h
asked_back (x ∷ xs) ys h =
    elim (split_or (ends_asked (xs ++ ys)) (is_ask x && all_copy (xs ++ ys)) h) [
      | inl later ↦ asked_back xs ys later
      | inr here ↦ inr (copy_back xs ys (split_and (is_ask x) (all_copy (xs ++ ys)) here).1)
    ]

z_is_one : (z : Frame) → z.tag ≡ 90 → readies_in (z ∷ []) ≡ 1
z_is_one z t = rw t refl

pub ready_zs : (ys : List Frame) (z : Frame) → z.tag ≡ 90 → readies_in (ys ++ z ∷ []) ≡ readies_in ys + 1
ready_zs ys z t = omega (arith, zs_append ys (z ∷ []), z_is_one z t)

-- where a list ends with a Z, what follows a front of it without a Z is nothing
pub no_rest : (r rest ys : List Frame) (z : Frame) → z.tag ≡ 90 → r ++ rest ≡ ys ++ z ∷ [] → readies_in rest ≡ 0 → rest ≡ []
no_rest [] rest ys z t e none = absurd (omega (arith, ap readies_in e, ready_zs ys z t))
no_rest (a ∷ []) rest [] z t e none = cc
no_rest (a ∷ b ∷ r) rest [] z t e none = absurd (cc)
no_rest (a ∷ r) rest (y ∷ ys) z t e none = no_rest r rest ys z t (cc) none

-- two lists that end with their only Z, one of which begins the other with more behind it
pub same_ready : (xs ys mx my : List Frame) (x y : Frame) → x.tag ≡ 90 → y.tag ≡ 90 → readies_in xs ≡ 0 → readies_in ys ≡ 0
    → (xs ++ x ∷ []) ++ mx ≡ (ys ++ y ∷ []) ++ my → (xs ++ x ∷ [] ≡ ys ++ y ∷ []) × (mx ≡ my)
same_ready [] [] mx my x y tx ty zx zy e = (cc, cc)
same_ready [] (b ∷ ys) mx my x y tx ty zx zy e =
    let h : b ≡ x = cc in absurd (omega (arith, zy, z_is_one b (ap (λ (f : Frame). f.tag) h ∙ tx)))
same_ready (a ∷ xs) [] mx my x y tx ty zx zy e =
    let h : a ≡ y = cc in absurd (omega (arith, zx, z_is_one a (ap (λ (f : Frame). f.tag) h ∙ ty)))
same_ready (a ∷ xs) (b ∷ ys) mx my x y tx ty zx zy e =
    let o = same_ready xs ys mx my x y tx ty (omega (arith, zx)) (omega (arith, zy)) (cc) in
    let h : a ≡ b = cc in
    (rw h (ap (λ (v : List Frame). b ∷ v) o.0), o.1)

-- lists of the same length, one of which begins with the other
pub same_front : {X : Type 0} (xs ys mx my : List X) → length xs ≡ length ys → xs ++ mx ≡ ys ++ my → (xs ≡ ys) × (mx ≡ my)
same_front [] [] mx my l e = (refl, e)
same_front [] (y ∷ ys) mx my l e = absurd (cc)
same_front (x ∷ xs) [] mx my l e = absurd (cc)
same_front (x ∷ xs) (y ∷ ys) mx my l e =
    let o = same_front xs ys mx my (cc) (cc) in
    let h : x ≡ y = cc in
    (rw h (ap (λ v. y ∷ v) o.0), o.1)

module _ {A : Type 0} where
  pub firsts_pair : (fs : List Frame) (a : List (Option A)) → firsts (pair fs a) ≡ fs
  firsts_pair [] a = refl
  firsts_pair (f ∷ fs) [] = ap (λ (v : List Frame). f ∷ v) (firsts_pair fs [])
  firsts_pair (f ∷ fs) (x ∷ a) = ap (λ (v : List Frame). f ∷ v) (firsts_pair fs a)

  drop_nil : (n : ℕ) (a : List (Option A)) → a ≡ [] → drop n a ≡ a
  drop_nil zero a e = refl
  drop_nil (suc n) [] e = refl
  drop_nil (suc n) (x ∷ a) e = absurd (cc)

  pub pair_append : (fs gs : List Frame) (a : List (Option A)) → pair (fs ++ gs) a ≡ pair fs a ++ pair gs (drop (length fs) a)
  pair_append [] gs a = refl
  pair_append (f ∷ fs) gs [] = ap (λ (v : List (Told A)). (f, None) ∷ v) (pair_append fs gs [] ∙ ap (λ v. pair fs [] ++ pair gs v) (drop_nil (length fs) [] refl))
  pair_append (f ∷ fs) gs (x ∷ a) = ap (λ (v : List (Told A)). (f, x) ∷ v) (pair_append fs gs a)

  pub firsts_append : (ms ns : List (Told A)) → firsts (ms ++ ns) ≡ firsts ms ++ firsts ns
  firsts_append [] ns = refl
  firsts_append (m ∷ ms) ns = ap (λ (v : List Frame). m.0 ∷ v) (firsts_append ms ns)

module _ {S C A : Type 0} (k : Kind S C A) where
  pub replies_append : (ms ns : List (Told A)) (s : S) → replies k s (ms ++ ns) ≡ replies k s ms ++ replies k (after k s ms) ns
  replies_append [] ns s = refl
  replies_append (m ∷ ms) ns s =
      ap (λ v. (k.tells s m.0 m.1).1 ++ v) (replies_append ms ns (k.tells s m.0 m.1).0)
      ∙ sym (append_assoc (k.tells s m.0 m.1).1 (replies k (k.tells s m.0 m.1).0 ms) (replies k (after k (k.tells s m.0 m.1).0 ms) ns))

  pub after_append : (ms ns : List (Told A)) (s : S) → after k s (ms ++ ns) ≡ after k (after k s ms) ns
  after_append [] ns s = refl
  after_append (m ∷ ms) ns s = after_append ms ns (k.tells s m.0 m.1).0

  pub legal_front : {T : Type 0} (rules : Rules T C A) (ms ns : List (Told A)) (s : S) → Legal k rules s (ms ++ ns) → Legal k rules s ms
  legal_front rules [] ns s l = tt
  legal_front rules (m ∷ ms) ns s l = (l.0, l.1, legal_front rules ms ns (k.tells s m.0 m.1).0 l.2)

  pub legal_back : {T : Type 0} (rules : Rules T C A) (ms ns : List (Told A)) (s : S) → Legal k rules s (ms ++ ns) → Legal k rules (after k s ms) ns
  legal_back rules [] ns s l = l
  legal_back rules (m ∷ ms) ns s l = legal_back rules ms ns (k.tells s m.0 m.1).0 l.2
