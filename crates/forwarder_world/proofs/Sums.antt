-- How many messages were answered, and what that tells at a safe point.
use Rattle.std.proofs.Common.{◌≡◌, ℕ, zero, suc, ◌+◌, ◌≤◌, Bool, true, false, List, [], ◌∷◌, ◌++◌, Option, refl, ap, subst, ◌∙◌, arith, inl, inr}
use Rattle.std.specs.Prelude.{◌==◌, nat_lt, not, ◌&&◌, ◌||◌, if◌then◌else◌}
use Rattle.std.proofs.lemmas.Bool.{eqb-true, ne_eqb, eq-eqb, or_cases, or_left, or_right, and_parts, cases_Bool}
use Rattle.std.proofs.lemmas.List.{append-nil}
use Rattle.std.proofs.lemmas.List.Elements.{filter-append}
use Rattle.pgw_frames.specs.declared.frame.Frame.{Frame}
use Rattle.proxy_outside.specs.Rules.{Rules}
use Rattle.session_model.specs.Kind.{Kind, EndsReady}
use Rattle.session_model.specs.Laws.{Laws}
use Rattle.session_model.specs.Tags.{is_ask, is_copy, one, asks_in, readies_in, last_tag, plain}
use Rattle.session_model.specs.SafePoint.{safe, behind_greeting}

pub asks-append : (xs ys : List Frame) → asks_in (xs ++ ys) ≡ asks_in xs + asks_in ys
asks-append [] ys = omega arith
asks-append (x ∷ xs) ys = omega (arith, asks-append xs ys)

pub readies-append : (xs ys : List Frame) → readies_in (xs ++ ys) ≡ readies_in xs + readies_in ys
readies-append [] ys = omega arith
readies-append (x ∷ xs) ys = omega (arith, readies-append xs ys)

pub last_tag-append : (d : ℕ) (xs ys : List Frame) → last_tag d (xs ++ ys) ≡ last_tag (last_tag d xs) ys
last_tag-append d [] ys = refl
last_tag-append d (x ∷ xs) ys = last_tag-append x.tag xs ys

one_true : (b : Bool) → b ≡ true → one b ≡ 1
one_true true e = refl
one_true false e = absurd cc

one_false : (b : Bool) → b ≡ false → one b ≡ 0
one_false true e = absurd cc
one_false false e = refl

-- where one stands, the last type is that of the last one
pub last_any : (d e : ℕ) (xs : List Frame) → 1 ≤ readies_in xs → last_tag d xs ≡ last_tag e xs
last_any d e [] h = absurd (omega arith)
last_any d e (x ∷ xs) h = refl

copy_is_none : (t : ℕ) → is_copy t ≡ true → is_ask t ≡ false
copy_is_none t h =
    elim (or_cases (t == 100 || t == 99) (t == 102) h) [
      | inl a ↦ elim (or_cases (t == 100) (t == 99) a) [
        | inl b ↦ rw (eqb-true t 100 b) refl
        | inr b ↦ rw (eqb-true t 99 b) refl
      ]
      | inr a ↦ rw (eqb-true t 102 a) refl
    ]

-- the last plain message, with one more
last_plain_copy : (xs : List Frame) (f : Frame) → is_copy f.tag ≡ true → plain (xs ++ f ∷ []) ≡ plain xs
last_plain_copy xs f e = filter-append (λ g. not (is_copy g.tag)) xs (f ∷ []) ∙ rw e (append-nil (plain xs))

last_plain_other : (xs : List Frame) (f : Frame) → is_copy f.tag ≡ false → last_tag 0 (plain (xs ++ f ∷ [])) ≡ f.tag
last_plain_other xs f e =
    let one_more : plain (f ∷ []) ≡ f ∷ [] = rw e refl in
    ap (last_tag 0) (filter-append (λ g. not (is_copy g.tag)) xs (f ∷ [])) ∙ last_tag-append 0 (plain xs) (plain (f ∷ [])) ∙ ap (last_tag (last_tag 0 (plain xs))) one_more

-- ---- what every message keeps

pub record Sums {S C R : Type 0} (k : Kind S C R) (done : List Frame) (session : S) (replied : List Frame) : Type 0 where
  pub total : readies_in replied + k.due session ≤ asks_in done
  pub settled : readies_in replied + k.due session ≡ asks_in done → k.due session ≡ 0 → is_ask (last_tag 0 (plain done)) ≡ true
      → (k.quiet session ≡ true) × (last_tag 0 replied ≡ 90)

pub sums_begin : {S C R : Type 0} (k : Kind S C R) (s : S) → k.due s ≡ 0 → Sums k [] s []
sums_begin k s e = record { total = omega (arith, e); settled = λ a b c. absurd cc }

abbrev Settles : {S C R : Type 0} → Kind S C R → S → List Frame → Type 0
Settles k s fs = (k.quiet s ≡ true) × (last_tag 0 fs ≡ 90)

at_end : {S C R : Type 0} (k : Kind S C R) (replied new : List Frame) (next : S) → (last_tag 0 new ≡ 90) × (k.quiet next ≡ true) → 1 ≤ readies_in new → Settles k next (replied ++ new)
at_end k replied new next r some = (r.1, last_tag-append 0 replied new ∙ last_any (last_tag 0 replied) 0 new some ∙ r.0)

-- a copy message, where so many are due
by_due : {S T C R : Type 0} (k : Kind S C R) (rules : Rules T C R) (kept : S → Type 0) → Laws k rules kept → (done : List Frame) (s : S) (replied : List Frame) (f : Frame) (a : Option R) (d : ℕ)
    → Sums k done s replied → is_copy f.tag ≡ true → is_ask (last_tag 0 (plain done)) ≡ true → k.due s ≡ d → readies_in (k.tells s f a).1 ≡ d → readies_in replied + d ≡ asks_in done → k.due (k.tells s f a).0 ≡ 0
    → Settles k (k.tells s f a).0 (replied ++ (k.tells s f a).1)
by_due k rules kept laws done s replied f a zero h copy before e n all due =
    let old = h.settled (rw e all) e before in
    let new = laws.ignores s f a copy old.0 in
    (new.1, rw (new.0, append-nil replied) old.1)
by_due k rules kept laws done s replied f a (suc d) h copy before e n all due =
    let some : 1 ≤ readies_in (k.tells s f a).1 = omega arith in
    at_end k replied (k.tells s f a).1 (k.tells s f a).0 (laws.settles s f a (or_right (is_ask f.tag) (is_copy f.tag) copy) some due) some

pub sums_tells : {S T C R : Type 0} (k : Kind S C R) (rules : Rules T C R) (kept : S → Type 0) → Laws k rules kept → (done : List Frame) (s : S) (replied : List Frame) (f : Frame) (a : Option R)
    → Sums k done s replied → Sums k (done ++ f ∷ []) (k.tells s f a).0 (replied ++ (k.tells s f a).1)
sums_tells {S} {T} {C} {R} k rules kept laws done s replied f a h =
    let c : readies_in (k.tells s f a).1 + k.due (k.tells s f a).0 ≤ k.due s + one (is_ask f.tag) = laws.counts s f a in
    let z : readies_in (replied ++ (k.tells s f a).1) ≡ readies_in replied + readies_in (k.tells s f a).1 = readies-append replied (k.tells s f a).1 in
    let q : asks_in (done ++ f ∷ []) ≡ asks_in done + (one (is_ask f.tag) + 0) = asks-append done (f ∷ []) in
    let t : readies_in replied + k.due s ≤ asks_in done = h.total in
    record {
      total = omega arith;
      settled = λ e due last.
          elim (cases_Bool (is_copy f.tag)) [
            | inr other ↦
                let ask : is_ask f.tag ≡ true = subst (λ (n : ℕ). is_ask n ≡ true) (last_plain_other done f other) last in
                let o : one (is_ask f.tag) ≡ 1 = one_true (is_ask f.tag) ask in
                let some : 1 ≤ readies_in (k.tells s f a).1 = omega arith in
                at_end k replied (k.tells s f a).1 (k.tells s f a).0 (laws.settles s f a (or_left (is_ask f.tag) (is_copy f.tag) ask) some due) some
            | inl copy ↦
                let o : one (is_ask f.tag) ≡ 0 = one_false (is_ask f.tag) (copy_is_none f.tag copy) in
                let before : is_ask (last_tag 0 (plain done)) ≡ true = subst (λ (t : List Frame). is_ask (last_tag 0 t) ≡ true) (last_plain_copy done f copy) last in
                by_due k rules kept laws done s replied f a (k.due s) h copy before refl (omega arith) (omega arith) due
          ];
    }

-- ---- a safe point

last_asks : (d : ℕ) (xs : List Frame) → is_ask d ≡ false → asks_in xs ≡ 0 → is_ask (last_tag d xs) ≡ false
last_asks d [] e n = e
last_asks d (x ∷ xs) e n = last_asks x.tag xs (none (is_ask x.tag) (omega arith)) (omega arith)
  where
    none : (b : Bool) → one b ≡ 0 → b ≡ false
    none true h = absurd cc
    none false h = refl

last_readies : (d : ℕ) (xs : List Frame) → (d == 90) ≡ false → readies_in xs ≡ 0 → (last_tag d xs == 90) ≡ false
last_readies d [] e n = e
last_readies d (x ∷ xs) e n = last_readies x.tag xs (none (x.tag == 90) (omega arith)) (omega arith)
  where
    none : (b : Bool) → one b ≡ 0 → b ≡ false
    none true h = absurd cc
    none false h = refl

keep_fewer : (x : Frame) (xs ys : List Frame) (b : Bool) → asks_in ys ≤ asks_in xs → asks_in (if b then x ∷ ys else ys) ≤ one (is_ask x.tag) + asks_in xs
keep_fewer x xs ys true h = omega arith
keep_fewer x xs ys false h = omega arith

asks_plain : (xs : List Frame) → asks_in (plain xs) ≤ asks_in xs
asks_plain [] = omega arith
asks_plain (x ∷ xs) = keep_fewer x xs (plain xs) (not (is_copy x.tag)) (asks_plain xs)

no_last_ask : (d : ℕ) (xs : List Frame) → is_ask (last_tag d xs) ≡ true → asks_in xs ≡ 0 → xs ≡ []
no_last_ask d [] h n = refl
no_last_ask d (x ∷ xs) h n = let l = last_asks 0 (x ∷ xs) refl n in absurd cc

no_last_ready : (d : ℕ) (xs : List Frame) → (last_tag d xs == 90) ≡ true → readies_in xs ≡ 0 → xs ≡ []
no_last_ready d [] h n = refl
no_last_ready d (x ∷ xs) h n = let l = last_readies 0 (x ∷ xs) refl n in absurd cc

pub record Calm {S C R : Type 0} (k : Kind S C R) (session : S) (ahead owed : List Frame) : Type 0 where
  pub quiet : k.quiet session ≡ true
  pub copies : plain ahead ≡ []
  pub nothing_owed : owed ≡ []

-- where the counts are equal everything was answered, but for copy messages to which a quiet session says nothing
pub safe_is_calm : {S C R : Type 0} (k : Kind S C R) (done ahead got owed replied : List Frame) (session : S) → Sums k done session replied → got ++ owed ≡ replied → safe (done ++ ahead) got ≡ true → Calm k session ahead owed
unfolding safe
safe_is_calm k done ahead got owed replied session h whole s =
    let sent : List Frame = done ++ ahead in
    let s1 = and_parts (is_ask (last_tag 0 sent) || (last_tag 0 sent == 99) || (last_tag 0 sent == 102)) (is_ask (last_tag 0 (plain sent)) && ((asks_in sent == readies_in got) && ((last_tag 0 got == 90) && nat_lt (asks_in sent) 18446744073709551615))) s in
    let s2 = and_parts (is_ask (last_tag 0 (plain sent))) ((asks_in sent == readies_in got) && ((last_tag 0 got == 90) && nat_lt (asks_in sent) 18446744073709551615)) s1.1 in
    let s3 = and_parts (asks_in sent == readies_in got) ((last_tag 0 got == 90) && nat_lt (asks_in sent) 18446744073709551615) s2.1 in
    let same : asks_in sent ≡ readies_in got = eqb-true (asks_in sent) (readies_in got) s3.0 in
    let q : asks_in sent ≡ asks_in done + asks_in ahead = asks-append done ahead in
    let z : readies_in replied ≡ readies_in got + readies_in owed = rw (← whole) (readies-append got owed) in
    let total : readies_in replied + k.due session ≤ asks_in done = h.total in
    let no_ask : asks_in ahead ≡ 0 = omega arith in
    let no_ready : readies_in owed ≡ 0 = omega arith in
    let due : k.due session ≡ 0 = omega arith in
    let split : plain sent ≡ plain done ++ plain ahead = filter-append (λ g. not (is_copy g.tag)) done ahead in
    let asks_last : is_ask (last_tag (last_tag 0 (plain done)) (plain ahead)) ≡ true = rw (← last_tag-append 0 (plain done) (plain ahead), ← split) s2.0 in
    let copies : plain ahead ≡ [] = no_last_ask (last_tag 0 (plain done)) (plain ahead) asks_last (omega (arith, asks_plain ahead)) in
    let before : is_ask (last_tag 0 (plain done)) ≡ true = rw copies at asks_last in
    let t = h.settled (omega arith) due before in
    let ends : (last_tag (last_tag 0 got) owed == 90) ≡ true = rw (← last_tag-append 0 got owed, whole, t.1) refl in
    record { quiet = t.0; copies = copies; nothing_owed = no_last_ready (last_tag 0 got) owed ends no_ready }

-- the first of copy messages
pub copy_first : (f : Frame) (fs : List Frame) → plain (f ∷ fs) ≡ [] → (is_copy f.tag ≡ true) × (plain fs ≡ [])
copy_first f fs e = by (is_copy f.tag) e
  where
    by : (b : Bool) → (if not b then f ∷ plain fs else plain fs) ≡ [] → (b ≡ true) × (plain fs ≡ [])
    by true h = (refl, h)
    by false h = absurd cc

-- ---- the greeting

pub behind_is : (first more : List Frame) → EndsReady first → behind_greeting (first ++ more) ≡ more
behind_is [] more e = absurd e
behind_is (f ∷ []) more e = let n : (f.tag == 90) ≡ true = eq-eqb f.tag 90 e in rw n refl
behind_is (f ∷ g ∷ fs) more e = let n : (f.tag == 90) ≡ false = ne_eqb f.tag 90 e.0 in rw n (behind_is (g ∷ fs) more e.1)
