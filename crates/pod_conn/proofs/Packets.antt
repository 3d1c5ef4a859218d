-- What further bytes change of a packet, and how long one is.
use Rattle.std.proofs.Common.{◌≡◌, ◌∙◌, ℕ, zero, suc, ◌+◌, ◌-◌, ◌<◌, ◌≤◌, Bool, true, false, List, ◌++◌, Result, Ok, Err, length, take, drop, refl, sym, ap, arith, true≢false}
use Rattle.std.specs.Prelude.{◌==◌, ◌||◌, nat_lt}
use Rattle.std.specs.Int.{w32, from_be_bytes}
use Rattle.std.proofs.lemmas.Bool.{ltb-true, ltb-false, lt-ltb, le-ltb, eqb-true}
use Rattle.std.proofs.lemmas.List.{length-append, length-drop, take-append-le, drop-append-le}
use Rattle.pgw_messages.specs.declared.params.Pair.{Pair}
use Rattle.pgw_messages.specs.declared.fault.MsgFault.{MsgFault}
use Rattle.pgw_messages.specs.Startup.{params_of}
use Rattle.pod_conn.specs.declared.packet.Packet.{Packet}
use Rattle.pod_conn.specs.declared.packet.Packet.TheVariants.{Part, Request, Cancelling, Starting, Unfit}
use Rattle.pod_conn.specs.Packets.{word_at, request_of, cancel_of, started, startup_of, packet_by, packet_with, packet_of}

-- ---- what is known stays

abbrev pub Known : Packet → Type 0
Known Part = ⊥
Known Request = Unit {0}
Known Cancelling = Unit {0}
Known (Starting p len) = Unit {0}
Known Unfit = Unit {0}

word_more : (place : ℕ) (b p : List ℕ) → place + 4 ≤ length b → word_at place (b ++ p) ≡ word_at place b
word_more place b p h =
    let there : 4 ≤ length (drop place b) = omega (arith, length-drop place b) in
    ap (from_be_bytes w32) (ap (take 4) (drop-append-le place b p (omega arith)) ∙ take-append-le 4 (drop place b) p there)

long_more : (n : ℕ) (b p : List ℕ) → nat_lt (length b) n ≡ false → nat_lt (length (b ++ p)) n ≡ false
long_more n b p e = le-ltb _ _ (omega (arith, ltb-false (length b) n e, length-append b p))

cancel_stays : (len : ℕ) (b p : List ℕ) → Known (cancel_of len b) → cancel_of len (b ++ p) ≡ cancel_of len b
cancel_stays len b p = by_len (len == 16) refl (nat_lt (length b) 16) refl
  where
    by_len : (s : Bool) → (len == 16) ≡ s → (t : Bool) → nat_lt (length b) 16 ≡ t → Known (cancel_of len b) → cancel_of len (b ++ p) ≡ cancel_of len b
    by_len false e t f h = rw e refl
    by_len true e true f h = absurd (let k : ⊥ = rw (e, f) at h in k)
    by_len true e false f h = rw (e, f, long_more 16 b p f) refl

startup_stays : (len : ℕ) (b p : List ℕ) → 8 ≤ len → Known (startup_of len b) → startup_of len (b ++ p) ≡ startup_of len b
startup_stays len b p least = by_len (nat_lt (length b) len) refl
  where
    by_len : (t : Bool) → nat_lt (length b) len ≡ t → Known (startup_of len b) → startup_of len (b ++ p) ≡ startup_of len b
    by_len true f h = absurd (let k : ⊥ = rw f at h in k)
    by_len false f h =
        let there : len ≤ length b = ltb-false _ _ f in
        let behind : len - 8 ≤ length (drop 8 b) = omega (arith, length-drop 8 b) in
        rw (f, long_more len b p f, drop-append-le 8 b p (omega arith), take-append-le (len - 8) (drop 8 b) p behind) refl

by_stays : (code len : ℕ) (b p : List ℕ) → 8 ≤ len → Known (packet_by code len b) → packet_by code len (b ++ p) ≡ packet_by code len b
by_stays code len b p least = by_code (code == 80877103 || code == 80877104) refl (code == 80877102) refl (code == 196608) refl
  where
    by_code : (r : Bool) → (code == 80877103 || code == 80877104) ≡ r → (s : Bool) → (code == 80877102) ≡ s → (t : Bool) → (code == 196608) ≡ t
        → Known (packet_by code len b) → packet_by code len (b ++ p) ≡ packet_by code len b
    by_code true e s f t g h = rw e refl
    by_code false e true f t g h = rw (e, f) (cancel_stays len b p (rw (e, f) at h))
    by_code false e false f true g h = rw (e, f, g) (startup_stays len b p least (rw (e, f, g) at h))
    by_code false e false f false g h = rw (e, f, g) refl

or_false : (x y : Bool) → (x || y) ≡ false → x ≡ false
or_false false y e = refl
or_false true y e = absurd (true≢false e)

with_stays : (len : ℕ) (b p : List ℕ) → Known (packet_with len b) → packet_with len (b ++ p) ≡ packet_with len b
with_stays len b p = by_len (nat_lt len 8 || nat_lt 11900000 len) refl (nat_lt (length b) 8) refl
  where
    by_len : (s : Bool) → (nat_lt len 8 || nat_lt 11900000 len) ≡ s → (t : Bool) → nat_lt (length b) 8 ≡ t → Known (packet_with len b) → packet_with len (b ++ p) ≡ packet_with len b
    by_len true f t g h = rw f refl
    by_len false f true g h = absurd (let k : ⊥ = rw (f, g) at h in k)
    by_len false f false g h =
        let there : 8 ≤ length b = ltb-false _ _ g in
        let least : 8 ≤ len = ltb-false _ _ (or_false (nat_lt len 8) (nat_lt 11900000 len) f) in
        rw (f, g, long_more 8 b p g, word_more 4 b p there) (by_stays (word_at 4 b) len b p least (rw (f, g) at h))

known_stays : (b p : List ℕ) → Known (packet_of b) → packet_of (b ++ p) ≡ packet_of b
unfolding packet_of
known_stays b p = by_len (nat_lt (length b) 4) refl
  where
    by_len : (t : Bool) → nat_lt (length b) 4 ≡ t → Known (packet_of b) → packet_of (b ++ p) ≡ packet_of b
    by_len true g h = absurd (let k : ⊥ = rw g at h in k)
    by_len false g h =
        rw (g, long_more 4 b p g, word_more 0 b p (omega (arith, ltb-false (length b) 4 g))) (with_stays (word_at 0 b) b p (rw g at h))

-- with further bytes it is the same packet
pub packet_stays : (b p : List ℕ) (q : Packet) → packet_of b ≡ q → Known q → packet_of (b ++ p) ≡ q
packet_stays b p q e h = known_stays b p (rw e h) ∙ e

-- ---- how long it is

-- the bytes are as many as the packet has
abbrev Long : ℕ → Packet → Type 0
Long n Part = Unit {0}
Long n Request = 8 ≤ n
Long n Cancelling = Unit {0}
Long n (Starting p len) = len ≤ n
Long n Unfit = Unit {0}

request_long : (len n : ℕ) → 8 ≤ n → Long n (request_of len)
request_long len n h = by_len (len == 8) refl
  where
    by_len : (s : Bool) → (len == 8) ≡ s → Long n (request_of len)
    by_len true e = rw e h
    by_len false e = rw e tt

cancel_long : (len : ℕ) (b : List ℕ) → Long (length b) (cancel_of len b)
cancel_long len b = by_len (len == 16) refl (nat_lt (length b) 16) refl
  where
    by_len : (s : Bool) → (len == 16) ≡ s → (t : Bool) → nat_lt (length b) 16 ≡ t → Long (length b) (cancel_of len b)
    by_len false e t f = rw e tt
    by_len true e true f = rw (e, f) tt
    by_len true e false f = rw (e, f) tt

started_long : (len n : ℕ) (r : Result (List Pair) MsgFault) → len ≤ n → Long n (started len r)
started_long len n (Ok p) h = h
started_long len n (Err f) h = tt

startup_long : (len : ℕ) (b : List ℕ) → Long (length b) (startup_of len b)
startup_long len b = by_len (nat_lt (length b) len) refl
  where
    by_len : (t : Bool) → nat_lt (length b) len ≡ t → Long (length b) (startup_of len b)
    by_len true f = rw f tt
    by_len false f = rw f (started_long len (length b) (params_of (take (len - 8) (drop 8 b))) (ltb-false _ _ f))

by_long : (code len : ℕ) (b : List ℕ) → 8 ≤ length b → Long (length b) (packet_by code len b)
by_long code len b there = by_code (code == 80877103 || code == 80877104) refl (code == 80877102) refl (code == 196608) refl
  where
    by_code : (r : Bool) → (code == 80877103 || code == 80877104) ≡ r → (s : Bool) → (code == 80877102) ≡ s → (t : Bool) → (code == 196608) ≡ t → Long (length b) (packet_by code len b)
    by_code true e s f t g = rw e (request_long len (length b) there)
    by_code false e true f t g = rw (e, f) (cancel_long len b)
    by_code false e false f true g = rw (e, f, g) (startup_long len b)
    by_code false e false f false g = rw (e, f, g) tt

with_long : (len : ℕ) (b : List ℕ) → Long (length b) (packet_with len b)
with_long len b = by_len (nat_lt len 8 || nat_lt 11900000 len) refl (nat_lt (length b) 8) refl
  where
    by_len : (s : Bool) → (nat_lt len 8 || nat_lt 11900000 len) ≡ s → (t : Bool) → nat_lt (length b) 8 ≡ t → Long (length b) (packet_with len b)
    by_len true f t g = rw f tt
    by_len false f true g = rw (f, g) tt
    by_len false f false g = rw (f, g) (by_long (word_at 4 b) len b (ltb-false _ _ g))

packet_long : (b : List ℕ) → Long (length b) (packet_of b)
unfolding packet_of
packet_long b = by_len (nat_lt (length b) 4) refl
  where
    by_len : (t : Bool) → nat_lt (length b) 4 ≡ t → Long (length b) (packet_of b)
    by_len true g = rw g tt
    by_len false g = rw g (with_long (word_at 0 b) b)

pub request_is_long : (b : List ℕ) → packet_of b ≡ Request → 8 ≤ length b
request_is_long b e = let h = packet_long b in rw e at h

pub startup_is_long : (b : List ℕ) (p : List Pair) (len : ℕ) → packet_of b ≡ Starting p len → len ≤ length b
startup_is_long b p len e = let h = packet_long b in rw e at h
