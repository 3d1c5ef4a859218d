-- What further bytes change of a packet.
use Rattle.std.proofs.Common.{◌≡◌, ◌∙◌, ℕ, zero, suc, ◌+◌, ◌-◌, ◌<◌, ◌≤◌, Bool, true, false, List, ◌++◌, Result, Ok, Err, length, take, drop, refl, sym, ap, arith, true≢false}
use Rattle.std.specs.Prelude.{◌==◌, nat_lt}
use Rattle.std.specs.Int.{w32, from_be_bytes}
use Rattle.std.proofs.lemmas.Bool.{ltb-true, ltb-false, lt-ltb, le-ltb, eqb-true}
use Rattle.std.proofs.lemmas.List.{length-append, length-drop, take-append-le, drop-append-le}
use Rattle.startup_route.specs.declared.header.Kind.{Kind}
use Rattle.startup_route.specs.declared.header.Kind.TheVariants.{Encryption, Cancelling, Starting, Unknown}
use Rattle.startup_route.specs.declared.fault.DoorFault.{DoorFault}
use Rattle.startup_route.specs.declared.fault.DoorFault.TheVariants as fault
use Rattle.startup_route.specs.declared.step.Route.{Route}
use Rattle.startup_route.specs.declared.step.DoorStep.{DoorStep}
use Rattle.startup_route.specs.declared.step.DoorStep.TheVariants as step
use Rattle.startup_route.specs.Routes.{route_of}
use Rattle.startup_route.specs.Packets.{word_at, kind_of, encryption_step, cancel_step, opened, startup_step, step_by, step_with, step_of, missing}
use Rattle.startup_route.specs.Entrances.{is_need}

-- ---- bytes that are there stay as they are

word_more : (place : ℕ) (b p : List ℕ) → place + 4 ≤ length b → word_at place (b ++ p) ≡ word_at place b
word_more place b p h =
    let there : 4 ≤ length (drop place b) = omega (arith, length-drop place b) in
    ap (from_be_bytes w32) (ap (take 4) (drop-append-le place b p (omega arith)) ∙ take-append-le 4 (drop place b) p there)

long_more : (n : ℕ) (b p : List ℕ) → nat_lt (length b) n ≡ false → nat_lt (length (b ++ p)) n ≡ false
long_more n b p e = le-ltb _ _ (omega (arith, ltb-false (length b) n e, length-append b p))

-- ---- an answer stays

cancel_stays : (len : ℕ) (b p : List ℕ) → is_need (cancel_step len b) ≡ false → cancel_step len (b ++ p) ≡ cancel_step len b
cancel_stays len b p = by_len (len == 16) refl (nat_lt (length b) 16) refl
  where
    by_len : (s : Bool) → (len == 16) ≡ s → (t : Bool) → nat_lt (length b) 16 ≡ t → is_need (cancel_step len b) ≡ false → cancel_step len (b ++ p) ≡ cancel_step len b
    by_len false e t f h = rw e refl
    by_len true e true f h = absurd (let k : true ≡ false = rw (e, f) at h in cc)
    by_len true e false f h =
        let there : 16 ≤ length b = ltb-false _ _ f in
        rw (e, f, long_more 16 b p f, word_more 8 b p (omega arith), word_more 12 b p (omega arith)) refl

startup_stays : (len : ℕ) (b p : List ℕ) → 8 ≤ len → is_need (startup_step len b) ≡ false → startup_step len (b ++ p) ≡ startup_step len b
startup_stays len b p least = by_len (len == 8) refl (nat_lt (length b) len) refl
  where
    by_len : (s : Bool) → (len == 8) ≡ s → (t : Bool) → nat_lt (length b) len ≡ t → is_need (startup_step len b) ≡ false → startup_step len (b ++ p) ≡ startup_step len b
    by_len true e t f h = rw e refl
    by_len false e true f h = absurd (let k : true ≡ false = rw (e, f) at h in cc)
    by_len false e false f h =
        let there : len ≤ length b = ltb-false _ _ f in
        let behind : len - 8 ≤ length (drop 8 b) = omega (arith, length-drop 8 b) in
        rw (e, f, long_more len b p f, drop-append-le 8 b p (omega arith), take-append-le (len - 8) (drop 8 b) p behind) refl

kind_stays : (k : Kind) (left len : ℕ) (b p : List ℕ) → 8 ≤ len → 8 ≤ length b → is_need (step_by k left len b) ≡ false → step_by k left len (b ++ p) ≡ step_by k left len b
kind_stays Encryption left len b p least there h = refl
kind_stays Cancelling left len b p least there h = cancel_stays len b p h
kind_stays Starting left len b p least there h = startup_stays len b p least h
kind_stays Unknown left len b p least there h = ap (λ n. step.Refused (fault.BadVersion n)) (word_more 4 b p there)

with_stays : (len left : ℕ) (b p : List ℕ) → is_need (step_with len left b) ≡ false → step_with len left (b ++ p) ≡ step_with len left b
with_stays len left b p = by_len (nat_lt 10000 len) refl (nat_lt len 8) refl (nat_lt (length b) 8) refl
  where
    by_len : (r : Bool) → nat_lt 10000 len ≡ r → (s : Bool) → nat_lt len 8 ≡ s → (t : Bool) → nat_lt (length b) 8 ≡ t
        → is_need (step_with len left b) ≡ false → step_with len left (b ++ p) ≡ step_with len left b
    by_len true e s f t g h = rw e refl
    by_len false e true f t g h = rw (e, f) refl
    by_len false e false f true g h = absurd (let k : true ≡ false = rw (e, f, g) at h in cc)
    by_len false e false f false g h =
        let there : 8 ≤ length b = ltb-false _ _ g in
        let kept = kind_stays (kind_of (word_at 4 b)) left len b p (ltb-false _ _ f) there (rw (e, f, g) at h) in
        rw (e, f, g, long_more 8 b p g, word_more 4 b p there) kept

pub known_stays : (left : ℕ) (b p : List ℕ) → is_need (step_of left b) ≡ false → step_of left (b ++ p) ≡ step_of left b
unfolding step_of
known_stays left b p = by_len (nat_lt (length b) 4) refl
  where
    by_len : (t : Bool) → nat_lt (length b) 4 ≡ t → is_need (step_of left b) ≡ false → step_of left (b ++ p) ≡ step_of left b
    by_len true g h = absurd (let k : true ≡ false = rw g at h in cc)
    by_len false g h =
        rw (g, long_more 4 b p g, word_more 0 b p (omega (arith, ltb-false (length b) 4 g))) (with_stays (word_at 0 b) left b p (rw g at h))

-- ---- a packet that isn't whole

opened_known : (r : Result Route DoorFault) → is_need (opened r) ≡ true → ⊥
opened_known (Ok r) h = true≢false (sym h)
opened_known (Err f) h = true≢false (sym h)

encryption_known : (left len : ℕ) → is_need (encryption_step left len) ≡ true → ⊥
encryption_known left len h = by_len (len == 8) refl left h
  where
    by_len : (s : Bool) → (len == 8) ≡ s → (n : ℕ) → is_need (encryption_step n len) ≡ true → ⊥
    by_len true e zero k = true≢false (sym (rw e at k))
    by_len true e (suc n) k = true≢false (sym (rw e at k))
    by_len false e n k = true≢false (sym (rw e at k))

-- a request to cancel that isn't whole
pub record Cancels (len : ℕ) (b : List ℕ) : Type 0 where
  pub len_is : (len == 16) ≡ true
  pub short : nat_lt (length b) 16 ≡ true

cancels : (len : ℕ) (b : List ℕ) → is_need (cancel_step len b) ≡ true → Cancels len b
cancels len b h = by_len (len == 16) refl (nat_lt (length b) 16) refl
  where
    by_len : (s : Bool) → (len == 16) ≡ s → (t : Bool) → nat_lt (length b) 16 ≡ t → Cancels len b
    by_len true e true f = record { len_is = e; short = f }
    by_len true e false f = absurd (true≢false (sym (rw (e, f) at h)))
    by_len false e t f = absurd (true≢false (sym (rw e at h)))

-- a startup packet that isn't whole
pub record Starts (len : ℕ) (b : List ℕ) : Type 0 where
  pub len_is : (len == 8) ≡ false
  pub short : nat_lt (length b) len ≡ true

starts : (len : ℕ) (b : List ℕ) → is_need (startup_step len b) ≡ true → Starts len b
starts len b h = by_len (len == 8) refl (nat_lt (length b) len) refl
  where
    by_len : (s : Bool) → (len == 8) ≡ s → (t : Bool) → nat_lt (length b) len ≡ t → Starts len b
    by_len true e t f = absurd (true≢false (sym (rw e at h)))
    by_len false e true f = record { len_is = e; short = f }
    by_len false e false f = absurd (opened_known _ (rw (e, f) at h))

rest_missing : (k : Kind) (left len : ℕ) (b : List ℕ) → is_need (step_by k left len b) ≡ true → length b < len
rest_missing Encryption left len b h = absurd (encryption_known left len h)
rest_missing Cancelling left len b h = let c = cancels len b h in omega (arith, eqb-true len 16 c.len_is, ltb-true (length b) 16 c.short)
rest_missing Starting left len b h = ltb-true (length b) len (starts len b h).short
rest_missing Unknown left len b h = absurd (true≢false (sym h))

rest_more : (k : Kind) (left len : ℕ) (b p : List ℕ) → is_need (step_by k left len b) ≡ true → length (b ++ p) < len → is_need (step_by k left len (b ++ p)) ≡ true
rest_more Encryption left len b p h lt = absurd (encryption_known left len h)
rest_more Cancelling left len b p h lt =
    let c = cancels len b h in
    let short : nat_lt (length (b ++ p)) 16 ≡ true = lt-ltb _ _ (omega (arith, eqb-true len 16 c.len_is, lt)) in
    rw (c.len_is, short) refl
rest_more Starting left len b p h lt = rw ((starts len b h).len_is, lt-ltb _ _ lt) refl
rest_more Unknown left len b p h lt = absurd (true≢false (sym h))

-- what a packet is of which some bytes are there, and not all
pub data Partly (left : ℕ) (b : List ℕ) : Type 0 where
  NoLength : nat_lt (length b) 4 ≡ true → Partly left b
  NoCode : nat_lt (length b) 4 ≡ false → nat_lt 10000 (word_at 0 b) ≡ false → nat_lt (word_at 0 b) 8 ≡ false → nat_lt (length b) 8 ≡ true → Partly left b
  NoRest : nat_lt (length b) 4 ≡ false → nat_lt 10000 (word_at 0 b) ≡ false → nat_lt (word_at 0 b) 8 ≡ false → nat_lt (length b) 8 ≡ false
      → is_need (step_by (kind_of (word_at 4 b)) left (word_at 0 b) b) ≡ true → Partly left b

partly : (left : ℕ) (b : List ℕ) → is_need (step_of left b) ≡ true → Partly left b
unfolding step_of
partly left b h = by_len (nat_lt (length b) 4) refl (nat_lt 10000 (word_at 0 b)) refl (nat_lt (word_at 0 b) 8) refl (nat_lt (length b) 8) refl
  where
    by_len : (q : Bool) → nat_lt (length b) 4 ≡ q → (r : Bool) → nat_lt 10000 (word_at 0 b) ≡ r → (s : Bool) → nat_lt (word_at 0 b) 8 ≡ s → (t : Bool) → nat_lt (length b) 8 ≡ t → Partly left b
    by_len true d r e s f t g = NoLength d
    by_len false d true e s f t g = absurd (true≢false (sym (rw (d, e) at h)))
    by_len false d false e true f t g = absurd (true≢false (sym (rw (d, e, f) at h)))
    by_len false d false e false f true g = NoCode d e f g
    by_len false d false e false f false g = NoRest d e f g (rw (d, e, f, g) at h)

pub missing_some : (left : ℕ) (b : List ℕ) → is_need (step_of left b) ≡ true → 0 < missing b
unfolding missing
missing_some left b h = elim (partly left b h) [
  | NoLength d ↦ rw d (omega (arith, ltb-true (length b) 4 d))
  | NoCode d e f g ↦ rw (d, g) (omega (arith, ltb-true (length b) 8 g))
  | NoRest d e f g r ↦ rw (d, g) (omega (arith, rest_missing _ left (word_at 0 b) b r))
]

-- fewer bytes than are missing change nothing
pub need_more : (left : ℕ) (b p : List ℕ) → is_need (step_of left b) ≡ true → length p < missing b → is_need (step_of left (b ++ p)) ≡ true
unfolding step_of missing
need_more left b p h lt = elim (partly left b h) [
  | NoLength d ↦
      let few : length p < 4 - length b = rw d at lt in
      let short : nat_lt (length (b ++ p)) 4 ≡ true = lt-ltb _ _ (omega (arith, few, length-append b p)) in
      rw short refl
  | NoCode d e f g ↦
      let few : length p < 8 - length b = rw (d, g) at lt in
      let short : nat_lt (length (b ++ p)) 8 ≡ true = lt-ltb _ _ (omega (arith, few, length-append b p)) in
      rw (long_more 4 b p d, word_more 0 b p (omega (arith, ltb-false (length b) 4 d)), e, f, short) refl
  | NoRest d e f g r ↦
      let few : length p < word_at 0 b - length b = rw (d, g) at lt in
      let there : 8 ≤ length b = ltb-false _ _ g in
      let more = rest_more (kind_of (word_at 4 b)) left (word_at 0 b) b p r (omega (arith, few, length-append b p)) in
      rw (long_more 4 b p d, word_more 0 b p (omega arith), e, f, long_more 8 b p g, word_more 4 b p there) more
]

-- ---- requests for encryption

abbrev pub is_say : DoorStep → Bool
is_say step.Say = true
is_say step.Need = false
is_say (step.Ready r) = false
is_say (step.Cancel k) = false
is_say (step.Refused f) = false

cancel_silent : (len : ℕ) (b : List ℕ) → is_say (cancel_step len b) ≡ false
cancel_silent len b = by_len (len == 16) refl (nat_lt (length b) 16) refl
  where
    by_len : (s : Bool) → (len == 16) ≡ s → (t : Bool) → nat_lt (length b) 16 ≡ t → is_say (cancel_step len b) ≡ false
    by_len true e true f = rw (e, f) refl
    by_len true e false f = rw (e, f) refl
    by_len false e t f = rw e refl

opened_silent : (r : Result Route DoorFault) → is_say (opened r) ≡ false
opened_silent (Ok r) = refl
opened_silent (Err f) = refl

startup_silent : (len : ℕ) (b : List ℕ) → is_say (startup_step len b) ≡ false
startup_silent len b = by_len (len == 8) refl (nat_lt (length b) len) refl
  where
    by_len : (s : Bool) → (len == 8) ≡ s → (t : Bool) → nat_lt (length b) len ≡ t → is_say (startup_step len b) ≡ false
    by_len true e t f = rw e refl
    by_len false e true f = rw (e, f) refl
    by_len false e false f = rw (e, f) (opened_silent (route_of (take (len - 8) (drop 8 b))))

asks_left : (left len : ℕ) → is_say (encryption_step left len) ≡ true → 0 < left
asks_left left len h = by_len (len == 8) refl left h
  where
    by_len : (s : Bool) → (len == 8) ≡ s → (n : ℕ) → is_say (encryption_step n len) ≡ true → 0 < n
    by_len true e zero k = absurd (true≢false (sym (rw e at k)))
    by_len true e (suc n) k = omega arith
    by_len false e n k = absurd (true≢false (sym (rw e at k)))

-- a whole request, which may be answered
pub record Asks (left : ℕ) (b : List ℕ) : Type 0 where
  pub long : 8 ≤ length b
  pub some : 0 < left
  pub kind : kind_of (word_at 4 b) ≡ Encryption

asks_by : (k : Kind) (left : ℕ) (b : List ℕ) → 8 ≤ length b → kind_of (word_at 4 b) ≡ k → is_say (step_by k left (word_at 0 b) b) ≡ true → Asks left b
asks_by Encryption left b long e h = record { long = long; some = asks_left left (word_at 0 b) h; kind = e }
asks_by Cancelling left b long e h = absurd (true≢false (sym h ∙ cancel_silent (word_at 0 b) b))
asks_by Starting left b long e h = absurd (true≢false (sym h ∙ startup_silent (word_at 0 b) b))
asks_by Unknown left b long e h = absurd (true≢false (sym h))

pub asks : (left : ℕ) (b : List ℕ) → is_say (step_of left b) ≡ true → Asks left b
unfolding step_of
asks left b h = by_len (nat_lt (length b) 4) refl (nat_lt 10000 (word_at 0 b)) refl (nat_lt (word_at 0 b) 8) refl (nat_lt (length b) 8) refl
  where
    by_len : (q : Bool) → nat_lt (length b) 4 ≡ q → (r : Bool) → nat_lt 10000 (word_at 0 b) ≡ r → (s : Bool) → nat_lt (word_at 0 b) 8 ≡ s → (t : Bool) → nat_lt (length b) 8 ≡ t → Asks left b
    by_len true d r e s f t g = absurd (true≢false (sym (rw d at h)))
    by_len false d true e s f t g = absurd (true≢false (sym (rw (d, e) at h)))
    by_len false d false e true f t g = absurd (true≢false (sym (rw (d, e, f) at h)))
    by_len false d false e false f true g = absurd (true≢false (sym (rw (d, e, f, g) at h)))
    by_len false d false e false f false g = asks_by (kind_of (word_at 4 b)) left b (ltb-false _ _ g) refl (rw (d, e, f, g) at h)

-- where no more bytes came than were missing, nothing stands behind a request
pub asks_alone : (left : ℕ) (b p : List ℕ) → is_need (step_of left b) ≡ true → length p ≤ missing b → is_say (step_of left (b ++ p)) ≡ true → length (b ++ p) ≤ 8
unfolding missing
asks_alone left b p h le s = elim (partly left b h) [
  | NoLength d ↦ let few : length p ≤ 4 - length b = rw d at le in omega (arith, few, ltb-true (length b) 4 d, length-append b p)
  | NoCode d e f g ↦ let few : length p ≤ 8 - length b = rw (d, g) at le in omega (arith, few, ltb-true (length b) 8 g, length-append b p)
  | NoRest d e f g r ↦
      let a = asks left (b ++ p) s in
      let kind : kind_of (word_at 4 b) ≡ Encryption = ap kind_of (sym (word_more 4 b p (ltb-false (length b) 8 g))) ∙ a.kind in
      absurd (encryption_known left (word_at 0 b) (rw kind at r))
]
