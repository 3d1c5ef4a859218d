-- The mini session keeps the laws of a session.
use Rattle.std.proofs.Common.{Bool, List, None, Option, Some, [], ap, arith, false, length, refl, subst, true, ℕ, ◌++◌, ◌+◌, ◌∙◌, ◌∷◌, ◌≡◌, ◌≤◌}
use Rattle.std.proofs.lemmas.List.{length-append}
use Rattle.std.specs.Int.{to_be_bytes, w32}
use Rattle.std.specs.List.{AllByRecursion, flat_map}
use Rattle.std.specs.Option.{unwrap_or}
use Rattle.std.proofs.lemmas.Bool.{cond_both}
use Rattle.std.specs.Prelude.{codes, filter, if◌then◌else◌, not, ◌≢◌}
use Rattle.pgw_frames.specs.Frames.{IsBytes}
use Rattle.pgw_frames.specs.declared.frame.Frame.{Frame}
use Rattle.pgw_messages.specs.Params.{value_of}
use Rattle.pgw_messages.specs.Startup.{Fits, pair_bytes, startup_body, startup_packet}
use Rattle.pgw_messages.specs.declared.params.Pair.{Pair}
use Rattle.session_model.specs.Kind.{Answers}
use Rattle.session_model.specs.Laws.{Laws}
use Rattle.session_model.specs.Tags.{is_copy, is_status}
use Rattle.proxy_outside.specs.Rules.{Rules}
use Rattle.session_model.specs.declared.transfer.Dump.TheVariants as dump
use Rattle.mini_kind.proofs.Below.{SqlLaws, StoreLaws}
use Rattle.mini_kind.proofs.FineTold.{told_fine}
use Rattle.mini_kind.proofs.FrameSizes.{FineAfter, Fitting}
use Rattle.mini_kind.proofs.Lists.{FoundFits, all_filter, all_put_all, all_weaker, value_found}
use Rattle.mini_kind.proofs.Moves.{calm, calm_is, restores, transfers}
use Rattle.mini_kind.proofs.Plain.{last_any}
use Rattle.mini_kind.proofs.Spellings.{spelling_is, state_is_bytes}
use Rattle.mini_kind.proofs.Told.{told_settled}
use Rattle.mini_kind.specs.Dumps.{dump_by, is_quiet, state_in}
use Rattle.mini_kind.specs.Fits.{MiniKept, VariableFits}
use Rattle.mini_kind.specs.Mini.{Copying, Mini, Mode, Skipping, Turn, Usual, in_turn, is_own, mode_due, opening, status_of}
use Rattle.mini_kind.specs.Plans.{Asks, Now, Plan, Told, asked, with_answer}
use Rattle.mini_kind.specs.Spelled.{has_spelling}
use Rattle.mini_kind.specs.Telling.{mini_kind, told}
use Rattle.mini_store.specs.declared.answer.Answer.{Answer}
use Rattle.mini_store.specs.declared.command.StoreCommand.{StoreCommand}
use Rattle.session_blob.specs.Blob.{state_bytes}
use Rattle.session_blob.specs.declared.state.State.{State}

-- ---- the dump

blob_out : (st : State) (x : Bool) (b : List ℕ) → has_spelling st ≡ x → (if x then dump.Blob (state_bytes st) else dump.Not (codes "session state is too large")) ≡ dump.Blob b → IsBytes b
blob_out st true b h e = let is : state_bytes st ≡ b = cc in subst IsBytes is (state_is_bytes st (spelling_is st h))
blob_out st false b h e = absurd cc

blob_by : (q t : Bool) (st : State) (b : List ℕ) → dump_by q t st ≡ dump.Blob b → IsBytes b
blob_by false t st b e = absurd cc
blob_by true true st b e = absurd cc
blob_by true false st b e = blob_out st (has_spelling st) b refl e

why_out : (st : State) (x : Bool) (r : List ℕ) → (if x then dump.Blob (state_bytes st) else dump.Not (codes "session state is too large")) ≡ dump.Not r → r ≢ []
why_out st true r e = absurd cc
why_out st false r e = λ none. let is : codes "session state is too large" ≡ r = cc in let bad : codes "session state is too large" ≡ [] = is ∙ none in absurd cc

why_by : (q t : Bool) (st : State) (r : List ℕ) → dump_by q t st ≡ dump.Not r → r ≢ []
why_by false t st r e = λ none. let is : codes "session is busy" ≡ r = cc in let bad : codes "session is busy" ≡ [] = is ∙ none in absurd cc
why_by true true st r e = λ none. let is : codes "session is in a transaction" ≡ r = cc in let bad : codes "session is in a transaction" ≡ [] = is ∙ none in absurd cc
why_by true false st r e = why_out st (has_spelling st) r e

-- ---- stray copy messages

ignored : (s : Mini) (f : Frame) → is_copy f.tag ≡ true → told (calm s) f ≡ Now (calm s, [])
ignored s f copy = rw copy refl

ignores : (s : Mini) (f : Frame) (a : Option Answer) → is_copy f.tag ≡ true → is_quiet s ≡ true → with_answer (told s f) a ≡ (calm s, [])
ignores s f a copy quiet = ap (λ (u : Mini). with_answer (told u f) a) (calm_is s quiet) ∙ ap (λ (p : Plan Told). with_answer p a) (ignored s f copy)

-- ---- the opening

pair_le : (n : ℕ) (p : List Pair) → length (flat_map pair_bytes p) ≤ n → AllByRecursion (λ (q : Pair). length q.value ≤ n) p
pair_le n [] le = tt
pair_le n (q ∷ p) le =
    let a = length-append (pair_bytes q) (flat_map pair_bytes p) in
    let b = length-append (q.name ++ 0 ∷ q.value) (0 ∷ []) in
    let c = length-append q.name (0 ∷ q.value) in
    (omega arith, pair_le n p (omega arith))

params_le : (p : List Pair) → Fits p → AllByRecursion (λ (q : Pair). length q.value ≤ 11900000) p
unfolding startup_packet
params_le p fits =
    let a = length-append (to_be_bytes w32 (length (startup_body p) + 4)) (startup_body p) in
    let b = length-append (to_be_bytes w32 196608 ++ flat_map pair_bytes p) (0 ∷ []) in
    let c = length-append (to_be_bytes w32 196608) (flat_map pair_bytes p) in
    pair_le 11900000 p (omega arith)

or_empty_le : (n : ℕ) (v : Option (List ℕ)) → FoundFits n v → length (unwrap_or v []) ≤ n
or_empty_le n None h = omega arith
or_empty_le n (Some v) h = h

opening_kept : (p : List Pair) → Fits p → MiniKept (opening p)
opening_kept p fits =
    let le = params_le p fits in
    let all : AllByRecursion VariableFits p = all_weaker (λ (q : Pair). length q.value ≤ 11900000) VariableFits p (λ q h. omega arith) le in
    record {
      token = or_empty_le 11900000 (value_of (codes "crdb:session_token_base64") p) (value_found (codes "crdb:session_token_base64") 11900000 p le);
      variables = all_put_all (filter (λ q. not (is_own q)) p) [] (all_filter VariableFits (λ q. not (is_own q)) p all) tt;
      statements = tt;
      portals = tt;
    }

-- ---- what is due, and the status

due_le : (m : Mode) → mode_due m ≤ 1
due_le Usual = omega arith
due_le Skipping = omega arith
due_le (Copying c) = cond_both c.by_query 1 0 (λ (n : ℕ). n ≤ 1) (λ e. omega arith) (λ e. omega arith)

status_is : (t : Option Turn) → is_status (status_of t) ≡ true
status_is None = refl
status_is (Some t) = cond_both t.failed 69 84 (λ (n : ℕ). is_status n ≡ true) (λ e. refl) (λ e. refl)

-- ---- a message

answered_fine : {A T : Type 0} (rules : Rules T StoreCommand Answer) (store : StoreLaws rules) (P : A → Type 0) (p : Plan A) (a : Option Answer) → Fitting P p → Answers rules (asked p) a → P (with_answer p a)
answered_fine rules store P (Now x) None h w = h
answered_fine rules store P (Now x) (Some r) h w = absurd w
answered_fine rules store P (Asks c k) None h w = absurd w
answered_fine rules store P (Asks c k) (Some r) h w = h r (store.answers c r w)

pub keeps_laws : {T : Type 0} (laws : SqlLaws) (rules : Rules T StoreCommand Answer) (store : StoreLaws rules) → Laws (mini_kind) rules MiniKept
unfolding mini_kind
keeps_laws laws rules store = record {
  restores = restores laws;
  transfers = transfers laws;
  blob_bytes = λ s b e. blob_by (is_quiet s) (in_turn s.turn) (state_in s) b e;
  says_why = λ s r e. why_by (is_quiet s) (in_turn s.turn) (state_in s) r e;
  counts = λ s f a. (told_settled s f a).counts;
  due_once = λ s. due_le s.mode;
  has_status = λ s. status_is s.turn;
  settles = λ s f a kind some due.
      let r : Told = with_answer (told s f) a in
      let e = (told_settled s f a).ends kind some due in
      (last_any 0 90 r.1 some ∙ e.0, e.1);
  ignores = λ s f a copy quiet.
      let e = ignores s f a copy quiet in
      (ap (λ (r : Told). r.1) e, ap (λ (r : Told). is_quiet r.0) e, ap (λ (r : Told). mode_due r.0.mode) e);
  greets = λ p. ((λ e. omega (arith, e), (λ e. omega (arith, e), (λ e. omega (arith, e), (λ e. omega (arith, e), (λ e. omega (arith, e), (λ e. omega (arith, e), (λ e. omega (arith, e), refl))))))), refl, refl);
  begin_fits = λ p h. (opening_kept p h, (omega arith, (omega arith, (omega arith, (omega arith, (omega arith, (omega arith, (omega arith, (omega arith, tt)))))))));
  tell_fits = λ s f a h g w. answered_fine rules store FineAfter (told s f) a (told_fine laws s f h g) w;
}
