-- The tally keeps the laws of a session. The proof stands here, since its impl of the trait cites it.
use Rattle.std.proofs.Common.{◌≡◌, ◌≢◌, ℕ, zero, suc, ◌+◌, ◌<◌, ◌≤◌, ◌%◌, ◌^◌, Bool, true, false, List, [], ◌∷◌, ◌++◌, length, Option, Some, None, refl, sym, ap, subst, ◌∙◌, arith, get_or}
use Rattle.std.specs.Prelude.{◌==◌, ◌||◌, if◌then◌else◌, codes}
use Rattle.std.specs.Int.{w32, w64, to_be_bytes, from_be_bytes}
use Rattle.std.specs.Option.{unwrap_or}
use Rattle.std.specs.Fmt.{decimal}
use Rattle.std.specs.List.{AllByRecursion, flat_map}
use Rattle.std.proofs.lemmas.Bool.{cond_both, eqb-true, and_parts}
use Rattle.std.proofs.lemmas.List.{length-append}
use Rattle.base64.specs.GeneralPurpose.{encode_of}
use Rattle.base64.specs.Engines.{standard}
use Rattle.std.proofs.lemmas.Fmt.{length-decimal-le}
use Rattle.std.proofs.lemmas.Nat.{from_be_bytes-to_be_bytes_8}
use Rattle.pgw_frames.specs.declared.frame.Frame.{Frame}
use Rattle.pgw_frames.specs.Frames.{IsBytes, IsGood}
use Rattle.session_model.specs.Kind.{Telling, told_all, WasBegun}
use Rattle.session_model.specs.Laws.{Laws}
use Rattle.session_model.specs.Tags.{is_ask, is_copy, one, readies_in, last_tag}
use Rattle.session_model.specs.Texts.{transfer_query, transfer_reply, digits_reply, restore_query, restore_reply, key_digits, ready, transfer_columns, digits_row, transfer_tag, restore_columns, restore_row, restore_tag, complete}
use Rattle.pgw_messages.specs.declared.params.Pair.{Pair}
use Rattle.pgw_messages.specs.Params.{value_of, is_named}
use Rattle.pgw_messages.specs.Spelling.{value_bytes}
use Rattle.pgw_messages.specs.Startup.{Fits, pair_bytes, startup_body, startup_packet}
use Rattle.session_model.specs.declared.transfer.Dump.TheVariants.{Blob, Not}
use Rattle.session_model.specs.declared.transfer.TransferKey.{TransferKey}
use Rattle.tally_session.specs.declared.store.Nothing.{Nothing}
use Rattle.session_model.proofs.Sizes.{length-encode-le}
use Rattle.tally_session.specs.Reading.{digits_only, then_before, behind, all_digits, is_key, begins_copy, restore_of, transfer_of}
use Rattle.tally_session.specs.Replies.{idle_status, complete_copy, copy_in, copy_failed, copy_ended}
use Rattle.tally_session.specs.Tally.{Tally, State, Told, token_name, token_of, with_token, idle, counts_one, by_restore, by_transfer, by_query, outside, inside, with_first, tells_by, dumps_by, quiet_by, due_by, blob_of, next_tally, tally_kind, tally_rules, CopyKept, TallyKept, StateKept}
use Rattle.tally_session.specs.RoundTrip.{transfer_read, restore_is_none, restore_read}

all_below : (xs : List ℕ) → AllByRecursion (λ x. x < 256) xs → (i : ℕ) → get_or xs i 0 < 256
all_below [] h i = omega arith
all_below (x ∷ xs) h zero = h.0
all_below (x ∷ xs) h (suc i) = all_below xs h.1 i

bytes_of : (n : ℕ) → IsBytes (to_be_bytes w64 n)
bytes_of n i = all_below (to_be_bytes w64 n) (omega arith, (omega arith, (omega arith, (omega arith, (omega arith, (omega arith, (omega arith, (omega arith, tt)))))))) i

-- ---- the cases

outside_cases : (P : Told → Type 0) (token : List ℕ) (n : ℕ) (f : Frame) → (f.tag ≡ 81 → P (by_query token n f.body)) → (f.tag ≡ 83 → P (idle n, ready idle_status ∷ [])) → P (idle n, []) → P (outside token n f)
outside_cases P token n f q s o =
    cond_both (f.tag == 81) (by_query token n f.body) (if f.tag == 83 then (idle n, ready idle_status ∷ []) else (idle n, [])) P (λ e. q (eqb-true f.tag 81 e))
    (λ e. cond_both (f.tag == 83) (idle n, ready idle_status ∷ []) (idle n, []) P (λ d. s (eqb-true f.tag 83 d)) (λ d. o))

restore_cases : (P : Told → Type 0) (n : ℕ) (copy : Bool) (r : Option (List ℕ)) → ((b : List ℕ) → P (idle (from_be_bytes w64 b % 2 ^ 64), restore_reply)) → P (record { count = n; copy = Some 0 }, copy_in ∷ []) → P (counts_one n) → P (by_restore n copy r)
restore_cases P n copy (Some b) r c o = r b
restore_cases P n copy None r c o = cond_both copy (record { count = n; copy = Some 0 }, copy_in ∷ []) (counts_one n) P (λ e. c) (λ e. o)

transfer_cases : (P : Told → Type 0) (token : List ℕ) (n : ℕ) (copy : Bool) (r t : Option (List ℕ)) → ((d : List ℕ) → t ≡ Some d → P (idle n, digits_reply d (blob_of n) token idle_status)) → P (by_restore n copy r) → P (by_transfer token n copy r t)
transfer_cases P token n copy r (Some d) a b = a d refl
transfer_cases P token n copy r None a b = b

query_cases : (P : Told → Type 0) (token : List ℕ) (n : ℕ) (body : List ℕ) → ((d : List ℕ) → transfer_of body ≡ Some d → P (idle n, digits_reply d (blob_of n) token idle_status)) → ((b : List ℕ) → P (idle (from_be_bytes w64 b % 2 ^ 64), restore_reply))
    → P (record { count = n; copy = Some 0 }, copy_in ∷ []) → P (counts_one n) → P (by_query token n body)
query_cases P token n body t r c o = transfer_cases P token n (begins_copy body) (restore_of body) (transfer_of body) t (restore_cases P n (begins_copy body) (restore_of body) r c o)

inside_cases : (P : Told → Type 0) (token : List ℕ) (n c : ℕ) (f : Frame) → P (record { count = n; copy = Some ((c + 1) % 2 ^ 64) }, []) → P (idle n, complete_copy c ∷ ready idle_status ∷ []) → P (idle n, copy_failed ∷ ready idle_status ∷ []) → P (record { count = n; copy = Some c }, [])
    → P (with_first (copy_ended ∷ ready idle_status ∷ []) (outside token n f)) → P (inside token n c f)
inside_cases P token n c f d e x s o =
    cond_both (f.tag == 100) (record { count = n; copy = Some ((c + 1) % 2 ^ 64) }, []) _ P (λ a. d)
    (λ a. cond_both (f.tag == 99) (idle n, complete_copy c ∷ ready idle_status ∷ []) _ P (λ b. e)
    (λ b. cond_both (f.tag == 102) (idle n, copy_failed ∷ ready idle_status ∷ []) _ P (λ g. x)
    (λ g. cond_both ((f.tag == 83) || (f.tag == 72)) (record { count = n; copy = Some c }, []) (with_first (copy_ended ∷ ready idle_status ∷ []) (outside token n f)) P (λ h. s) (λ h. o))))

-- ---- counting

readies_transfer : (d token : List ℕ) (n : ℕ) → readies_in (digits_reply d (blob_of n) token idle_status) ≡ 1
unfolding transfer_columns digits_row transfer_tag
readies_transfer d token n = refl

readies_restore : readies_in restore_reply ≡ 1
unfolding restore_columns restore_row restore_tag
readies_restore = refl

abbrev Counts : ℕ → Told → Type 0
Counts m r = readies_in r.1 + due_by r.0.copy ≤ m

outside_counts : (token : List ℕ) (n : ℕ) (f : Frame) → Counts (one (is_ask f.tag)) (outside token n f)
outside_counts token n f =
    outside_cases (Counts (one (is_ask f.tag))) token n f
    (λ e. rw e (query_cases (Counts 1) token n f.body (λ d t. omega (arith, readies_transfer d token n)) (λ b. omega (arith, readies_restore)) (omega arith) (omega arith)))
    (λ e. rw e (omega arith))
    (omega arith)

tells_counts : (token : List ℕ) (n : ℕ) (f : Frame) (c : Option ℕ) → Counts (due_by c + one (is_ask f.tag)) (tells_by token n f c)
tells_counts token n f None = let h = outside_counts token n f in omega arith
tells_counts token n f (Some c) = inside_cases (Counts (1 + one (is_ask f.tag))) token n c f (omega arith) (omega arith) (omega arith) (omega arith) (let h = outside_counts token n f in omega arith)

-- ---- the end of an answer

abbrev Ends : Told → Type 0
Ends r = due_by r.0.copy ≡ 0 → last_tag 90 r.1 ≡ 90

outside_ends : (token : List ℕ) (n : ℕ) (f : Frame) → Ends (outside token n f)
outside_ends token n f = outside_cases Ends token n f (λ e. query_cases Ends token n f.body (λ d t due. refl) (λ b due. refl) (λ due. absurd cc) (λ due. refl)) (λ e due. refl) (λ due. refl)

tells_ends : (token : List ℕ) (n : ℕ) (f : Frame) (c : Option ℕ) → Ends (tells_by token n f c)
tells_ends token n f None = outside_ends token n f
tells_ends token n f (Some c) = inside_cases Ends token n c f (λ due. absurd cc) (λ due. refl) (λ due. refl) (λ due. absurd cc) (λ due. outside_ends token n f due)

last_any : (d e : ℕ) (xs : List Frame) → 1 ≤ readies_in xs → last_tag d xs ≡ last_tag e xs
last_any d e [] h = absurd (omega arith)
last_any d e (x ∷ xs) h = refl

quiet_due : (o : Option ℕ) → due_by o ≡ 0 → quiet_by o ≡ true
quiet_due None e = refl
quiet_due (Some c) e = absurd cc

quiet_none : (o : Option ℕ) → quiet_by o ≡ true → o ≡ None
quiet_none None e = refl
quiet_none (Some c) e = absurd cc

-- ---- sizes

abbrev Kept : Told → Type 0
Kept r = TallyKept r.0

outside_kept : (token : List ℕ) (n : ℕ) (f : Frame) → n < 2 ^ 64 → Kept (outside token n f)
outside_kept token n f lt = outside_cases Kept token n f (λ e. query_cases Kept token n f.body (λ d t. (lt, tt)) (λ b. (omega arith, tt)) (lt, omega arith) (omega arith, tt)) (λ e. (lt, tt)) (lt, tt)

tells_kept : (token : List ℕ) (n : ℕ) (f : Frame) (c : Option ℕ) → n < 2 ^ 64 → CopyKept c → Kept (tells_by token n f c)
tells_kept token n f None lt small = outside_kept token n f lt
tells_kept token n f (Some c) lt small = inside_cases Kept token n c f (lt, omega arith) (lt, tt) (lt, tt) (lt, small) (outside_kept token n f lt)

abbrev Fine : Told → Type 0
Fine r = AllByRecursion IsGood r.1

-- digits that were read are 32
read_digits : (o : Option (List ℕ)) (d : List ℕ) → digits_only o ≡ Some d → length d ≡ 32
read_digits None d e = absurd cc
read_digits (Some b) d e = by (is_key b) refl e
  where
    by : (x : Bool) → is_key b ≡ x → (if x then Some b else None) ≡ Some d → length d ≡ 32
    by true h g = let same : b ≡ d = cc in rw (← same) (eqb-true (length b) 32 (and_parts (length b == 32) (all_digits b) h).0)
    by false h g = absurd cc

good_row : (d token : List ℕ) (n : ℕ) → length d ≡ 32 → length token ≤ 11900000 → IsGood (digits_row d (blob_of n) token)
unfolding digits_row
good_row d token n e le =
    let b : List ℕ = to_be_bytes w64 n in
    omega (
      arith,
      length-encode-le b,
      length-append (encode_of standard b) (flat_map value_bytes (Some token ∷ Some d ∷ [])),
      length-append token (flat_map value_bytes (Some d ∷ [])),
      length-append d [],
    )

good_transfer : (d token : List ℕ) (n : ℕ) → length d ≡ 32 → length token ≤ 11900000 → AllByRecursion IsGood (digits_reply d (blob_of n) token idle_status)
unfolding transfer_columns transfer_tag
good_transfer d token n e le = (omega arith, (good_row d token n e le, (omega arith, (omega arith, tt))))

good_restore : AllByRecursion IsGood restore_reply
unfolding restore_columns restore_row restore_tag
good_restore = (omega arith, (omega arith, (omega arith, (omega arith, tt))))

good_number : (text : List ℕ) (n : ℕ) → length text ≤ 100 → n < 2 ^ 64 → IsGood (complete (text ++ decimal n))
good_number text n le lt = omega (arith, length-append (text ++ decimal n) (0 ∷ []), length-append text (decimal n), length-decimal-le 20 n (omega arith) (omega arith) lt)

outside_fine : (token : List ℕ) (n : ℕ) (f : Frame) → length token ≤ 11900000 → n < 2 ^ 64 → Fine (outside token n f)
outside_fine token n f le lt =
    outside_cases Fine token n f
    (λ e. query_cases Fine token n f.body
    (λ d t. good_transfer d token n (read_digits (then_before (codes "'" ++ 0 ∷ []) (behind (codes "SHOW TRANSFER STATE WITH '") f.body)) d t) le)
    (λ b. good_restore)
    (omega arith, tt)
    (good_number (codes "TALLY ") (next_tally n) (omega arith) (omega arith), (omega arith, tt)))
    (λ e. (omega arith, tt))
    tt

tells_fine : (token : List ℕ) (n : ℕ) (f : Frame) (c : Option ℕ) → length token ≤ 11900000 → n < 2 ^ 64 → CopyKept c → Fine (tells_by token n f c)
tells_fine token n f None le lt small = outside_fine token n f le lt
tells_fine token n f (Some c) le lt small =
    inside_cases Fine token n c f
    tt
    (good_number (codes "COPY ") c (omega arith) small, (omega arith, tt))
    (omega arith, (omega arith, tt))
    tt
    (omega arith, (omega arith, outside_fine token n f le lt))

-- ---- a session that was begun

-- a value is no longer than the pairs
value_len : (name : List ℕ) (p : List Pair) → length (unwrap_or (value_of name p) []) ≤ length (flat_map pair_bytes p)
value_len name [] = omega arith
value_len name (q ∷ p) =
    let inside : length q.value ≤ length (pair_bytes q) = omega (arith, length-append (q.name ++ 0 ∷ q.value) (0 ∷ []), length-append q.name (0 ∷ q.value)) in
    let both : length (flat_map pair_bytes (q ∷ p)) ≡ length (pair_bytes q) + length (flat_map pair_bytes p) = length-append (pair_bytes q) (flat_map pair_bytes p) in
    let more = value_len name p in
    cond_both (is_named name q) (Some q.value) (value_of name p) (λ o. length (unwrap_or o []) ≤ length (flat_map pair_bytes (q ∷ p))) (λ e. omega arith) (λ e. omega arith)

token_fits : (p : List Pair) → Fits p → length (token_of p) ≤ 11900000
unfolding startup_packet
token_fits p h =
    let front : List ℕ = to_be_bytes w32 196608 in
    let body : length (startup_body p) ≡ length (front ++ flat_map pair_bytes p) + 1 = length-append (front ++ flat_map pair_bytes p) (0 ∷ []) in
    omega (arith, value_len token_name p, body, length-append front (flat_map pair_bytes p), length-append (to_be_bytes w32 (length (startup_body p) + 4)) (startup_body p), h)

-- a session keeps the token with which it was begun
token_told : (s : State) (ts : List (Telling Nothing)) → (told_all tally_kind s ts).token ≡ s.token
unfolding tally_kind
token_told s [] = refl
token_told s (t ∷ ts) = token_told (tally_kind.tells s t.frame t.answer).0 ts

tally_told : (s : State) (ts : List (Telling Nothing)) → TallyKept s.tally → TallyKept (told_all tally_kind s ts).tally
unfolding tally_kind
tally_told s [] h = h
tally_told s (t ∷ ts) h = tally_told (tally_kind.tells s t.frame t.answer).0 ts (tells_kept s.token s.tally.count t.frame s.tally.copy h.0 h.1)

-- ---- the laws

none_of : (s : Tally) → s.copy ≡ None → s ≡ idle s.count
none_of s e = ap (λ (c : Option ℕ). record { count = s.count; copy = c }) e

query_restores : (token : List ℕ) (n : ℕ) (b : List ℕ) → IsBytes b → length b ≡ 8 → outside token n (restore_query b) ≡ (idle (from_be_bytes w64 b % 2 ^ 64), restore_reply)
unfolding restore_query
query_restores token n b bytes eight =
    let body : List ℕ = (restore_query b).body in
    ap (λ (t : Option (List ℕ)). by_transfer token n (begins_copy body) (restore_of body) t) (restore_is_none b) ∙ ap (λ (r : Option (List ℕ)). by_restore n (begins_copy body) r) (restore_read b bytes eight)

query_transfers : (token : List ℕ) (n : ℕ) (t : TransferKey) → outside token n (transfer_query t) ≡ (idle n, digits_reply (key_digits t) (blob_of n) token idle_status)
unfolding transfer_query
query_transfers token n t =
    let body : List ℕ = (transfer_query t).body in
    ap (λ (d : Option (List ℕ)). by_transfer token n (begins_copy body) (restore_of body) d) (transfer_read t)

pub restores : (p : List Pair) (s : State) (b : List ℕ) → WasBegun tally_kind p s → tally_kind.quiet s ≡ true → tally_kind.dumps s ≡ Blob b
    → (tally_kind.asks (tally_kind.begins p).0 (restore_query b) ≡ None) × (tally_kind.tells (tally_kind.begins p).0 (restore_query b) None ≡ (s, restore_reply))
unfolding tally_kind
restores p s b was quiet dump =
    let first : State = (tally_kind.begins p).0 in
    let kept : TallyKept s.tally = subst (λ (x : State). TallyKept x.tally) (sym was.1) (tally_told first was.0 (omega arith, tt)) in
    let token : s.token ≡ token_of p = ap (λ (x : State). x.token) was.1 ∙ token_told first was.0 in
    let none : s.tally.copy ≡ None = quiet_none s.tally.copy quiet in
    let blob : Blob (to_be_bytes w64 s.tally.count) ≡ Blob b = ap (λ (c : Option ℕ). dumps_by s.tally.count c) (sym none) ∙ dump in
    let is : to_be_bytes w64 s.tally.count ≡ b = cc in
    let number : from_be_bytes w64 b ≡ s.tally.count = ap (λ (x : List ℕ). from_be_bytes w64 x) (sym is) ∙ from_be_bytes-to_be_bytes_8 s.tally.count kept.0 in
    let lt : s.tally.count < 2 ^ 64 = kept.0 in
    let same : from_be_bytes w64 b % 2 ^ 64 ≡ s.tally.count = omega arith in
    let whole : s.tally ≡ idle (from_be_bytes w64 b % 2 ^ 64) = none_of s.tally none ∙ ap idle (sym same) in
    let reply : tells_by (token_of p) 0 (restore_query b) None ≡ (s.tally, restore_reply) = query_restores (token_of p) 0 b (subst IsBytes is (bytes_of s.tally.count)) (ap length (sym is)) ∙ ap (λ (x : Tally). (x, restore_reply)) (sym whole) in
    (refl, ap (with_token (token_of p)) reply ∙ ap (λ (t : List ℕ). with_token t (s.tally, restore_reply)) (sym token))

transfers_by : (token : List ℕ) (n : ℕ) (c : Option ℕ) (t : TransferKey) → quiet_by c ≡ true
    → tells_by token n (transfer_query t) c ≡ (record { count = n; copy = c }, digits_reply (key_digits t) (dumps_by n c) token idle_status)
transfers_by token n None t quiet = query_transfers token n t
transfers_by token n (Some c) t quiet = absurd cc

pub transfers : (s : State) (t : TransferKey) → tally_kind.quiet s ≡ true
    → (tally_kind.asks s (transfer_query t) ≡ None) × (tally_kind.tells s (transfer_query t) None ≡ (s, transfer_reply t (tally_kind.dumps s) (tally_kind.token s) (tally_kind.status s)))
unfolding tally_kind
transfers s t quiet = (refl, ap (with_token s.token) (transfers_by s.token s.tally.count s.tally.copy t quiet))

blob_bytes_by : (n : ℕ) (c : Option ℕ) (b : List ℕ) → dumps_by n c ≡ Blob b → IsBytes b
blob_bytes_by n None b e = let is : to_be_bytes w64 n ≡ b = cc in subst IsBytes is (bytes_of n)
blob_bytes_by n (Some c) b e = absurd cc

says_why_by : (n : ℕ) (c : Option ℕ) (r : List ℕ) → dumps_by n c ≡ Not r → r ≢ []
says_why_by n None r e = absurd cc
says_why_by n (Some c) r e = λ none. let is : codes "session is in a copy" ≡ r = cc in let bad : codes "session is in a copy" ≡ [] = is ∙ none in absurd cc

due_once_by : (c : Option ℕ) → due_by c ≤ 1
due_once_by None = omega arith
due_once_by (Some c) = omega arith

ignores_by : (token : List ℕ) (n : ℕ) (f : Frame) (c : Option ℕ) → is_copy f.tag ≡ true → quiet_by c ≡ true → tells_by token n f c ≡ (idle n, [])
ignores_by token n f None copy quiet =
    outside_cases (λ r. r ≡ (idle n, [])) token n f (λ e. absurd (let x : is_copy 81 ≡ true = subst (λ (t : ℕ). is_copy t ≡ true) e copy in cc)) (λ e. absurd (let x : is_copy 83 ≡ true = subst (λ (t : ℕ). is_copy t ≡ true) e copy in cc)) refl
ignores_by token n f (Some c) copy quiet = absurd cc

pub keeps_laws : Laws tally_kind tally_rules StateKept
unfolding tally_kind
keeps_laws = record {
  restores = restores;
  transfers = transfers;
  blob_bytes = λ s b e. blob_bytes_by s.tally.count s.tally.copy b e;
  says_why = λ s r e. says_why_by s.tally.count s.tally.copy r e;
  counts = λ s f a. tells_counts s.token s.tally.count f s.tally.copy;
  due_once = λ s. due_once_by s.tally.copy;
  has_status = λ s. refl;
  settles = λ s f a kind some due.
      let r : Told = tells_by s.token s.tally.count f s.tally.copy in
      (last_any 0 90 r.1 some ∙ tells_ends s.token s.tally.count f s.tally.copy due, quiet_due r.0.copy due);
  ignores = λ s f a copy quiet.
      let e = ignores_by s.token s.tally.count f s.tally.copy copy quiet in
      (ap (λ (r : Told). r.1) e, ap (λ (r : Told). quiet_by r.0.copy) e, ap (λ (r : Told). due_by r.0.copy) e);
  greets = λ p. ((λ e. omega (arith, e), (λ e. omega (arith, e), refl)), refl, refl);
  begin_fits = λ p h. (((omega arith, tt), token_fits p h), (omega arith, (omega arith, (omega arith, tt))));
  tell_fits = λ s f a h g w. ((tells_kept s.token s.tally.count f s.tally.copy h.0.0 h.0.1, h.1), tells_fine s.token s.tally.count f s.tally.copy h.1 h.0.0 h.0.1);
}
