-- Each message, in each mode: ready messages are bounded, and a settled reply ends with ready.
-- what a message leaves, of which so many ready messages were due before
use Rattle.std.proofs.Common.{Bool, Err, List, Ok, Option, Result, [], ap, arith, false, inl, inr, refl, subst, sym, true, ℕ, ◌++◌, ◌+◌, ◌∙◌, ◌∷◌, ◌≡◌, ◌≤◌}
use Rattle.std.proofs.lemmas.Bool.{and_parts, cond_both, eqb-true}
use Rattle.std.specs.Prelude.{if◌then◌else◌, not, ◌&&◌, ◌==◌, ◌||◌, ◌⊎◌}
use Rattle.pgw_frames.specs.declared.frame.Frame.{Frame}
use Rattle.pgw_messages.specs.Reading.{text_at, whole}
use Rattle.session_model.specs.Tags.{is_ask, is_copy, last_tag, one, readies_in}
use Rattle.session_model.specs.Texts.{ready}
use Rattle.mini_kind.proofs.Neat.{Good, Ids, ModeAfter, Msg, always_weaker, attempts_good, copy_ends_good, extended_msg, good_msg, ids_then}
use Rattle.mini_kind.proofs.Plain.{Always, always_answer, always_then, last_push, readies-append}
use Rattle.mini_kind.specs.Copies.{copy_ends}
use Rattle.mini_kind.specs.Dumps.{is_quiet, no_portals}
use Rattle.mini_kind.specs.Extended.{extended}
use Rattle.mini_kind.specs.Mini.{CopyTo, Copying, Mini, Mode, Portal, Skipping, Usual, dropped, failing, has_failed, is_copying, is_usual, mode_due, status_of}
use Rattle.mini_kind.specs.Parameters.{params_in}
use Rattle.mini_kind.specs.Plans.{Gives, Now, Outcome, Refuses, Told, and_then, with_answer, with_first}
use Rattle.mini_kind.specs.Replies.{error}
use Rattle.mini_kind.specs.Running.{attempts, runs_failed}
use Rattle.mini_kind.specs.Telling.{asks_for, breaks, done, gathers, in_copy, is_transfer, left, message_done, on_query, on_sync, queried, query_done, query_text, skipped_sync, skips, told, told_by, usually}
use Rattle.mini_store.specs.declared.answer.Answer.{Answer}
use Rattle.mini_store.specs.declared.code.SqlCode.{SqlCode}
use Rattle.sql_text.specs.declared.stmt.Stmt.{Stmt}
use Rattle.mini_store.specs.declared.code.SqlCode.TheVariants as code

pub record Neat (d : ℕ) (s : Mini) (f : Frame) (r : Told) : Type 0 where
  pub ids : Ids s r.0
  pub counts : readies_in r.1 + mode_due r.0.mode ≤ d + one (is_ask f.tag)
  pub ends : (is_ask f.tag || is_copy f.tag) ≡ true → 1 ≤ readies_in r.1 → mode_due r.0.mode ≡ 0 → (last_tag 90 r.1 ≡ 90) × (is_quiet r.0 ≡ true)
  pub answers : f.tag ≡ 81 → d ≡ 0 → 1 ≤ readies_in r.1 + mode_due r.0.mode

-- nothing is replied, and what is due stays
pub silent : (d : ℕ) (s u : Mini) (f : Frame) → Ids s u → mode_due u.mode ≡ d → (f.tag ≡ 81 → d ≡ 0 → ⊥) → Neat d s f (u, [])
silent d s u f ids due not = record { ids = ids; counts = omega arith; ends = λ k some zero. absurd (omega arith); answers = λ e z. absurd (not e z) }

-- ---- Query

record Answered (s : Mini) (r : Told) : Type 0 where
  ids : Ids s r.0
  counts : readies_in r.1 + mode_due r.0.mode ≤ 1
  some : 1 ≤ readies_in r.1 + mode_due r.0.mode
  ends : mode_due r.0.mode ≡ 0 → (last_tag 90 r.1 ≡ 90) × (is_quiet r.0 ≡ true)

usual_quiet : (ps : List Portal) (m : Mode) → ps ≡ [] → m ≡ Usual → (is_usual m && no_portals ps) ≡ true
usual_quiet ps m none usual = rw (none, usual) refl

gives_done : (s u : Mini) (fs : List Frame) → Ids s u → u.portals ≡ [] → readies_in fs ≡ 0 → (u.mode ≡ Usual) ⊎ ((c : CopyTo) × (u.mode ≡ Copying c) × (c.by_query ≡ true)) → Answered s (query_done (Gives u fs))
gives_done s u fs ids none quiet (inl usual) =
    let r : Told = (u, fs ++ ready (status_of u.turn) ∷ []) in
    let is : query_done (Gives u fs) ≡ r = ap (λ (m : Mode). if is_copying m then (u, fs) else r) usual in
    let due : mode_due u.mode ≡ 0 = ap mode_due usual in
    let n : readies_in (fs ++ ready (status_of u.turn) ∷ []) ≡ readies_in fs + 1 = readies-append fs (ready (status_of u.turn) ∷ []) in
    subst (Answered s) (sym is) (record { ids = ids; counts = omega arith; some = omega arith; ends = λ z. (last_push 90 fs (ready (status_of u.turn)), usual_quiet u.portals u.mode none usual) })
gives_done s u fs ids none quiet (inr c) =
    let is : query_done (Gives u fs) ≡ (u, fs) = ap (λ (m : Mode). if is_copying m then (u, fs) else (u, fs ++ ready (status_of u.turn) ∷ [])) c.1 in
    let due : mode_due u.mode ≡ 1 = ap mode_due c.1 ∙ ap (λ (b : Bool). if b then 1 else 0) c.2 in
    subst (Answered s) (sym is) (record { ids = ids; counts = omega arith; some = omega arith; ends = λ z. absurd (omega arith) })

query_ends : (s : Mini) (r : Outcome) → s.portals ≡ [] → s.mode ≡ Usual → Good true s r → Answered s (query_done r)
query_ends s (Gives u fs) none usual g = gives_done s u fs g.0 (g.1 ∙ none) g.3 (way g.2)
  where
    way : ModeAfter true s.mode u.mode → (u.mode ≡ Usual) ⊎ ((c : CopyTo) × (u.mode ≡ Copying c) × (c.by_query ≡ true))
    way (inl e) = inl (e ∙ usual)
    way (inr c) = inr c
query_ends s (Refuses u c) none usual g =
    let m : u.mode ≡ Usual = g.2 ∙ usual in
    let due : mode_due u.mode ≡ 0 = ap mode_due m in
    record { ids = g.0; counts = omega arith; some = omega arith; ends = λ z. (refl, usual_quiet u.portals u.mode (g.1 ∙ none) m) }

asks_good : (s : Mini) (st : Stmt) → Always (Good true s) (asks_for s st)
asks_good s st = cond_both (not (params_in st == 0) && not (not (runs_failed st) && has_failed s.turn)) (Now (Refuses s code.ProtocolViolation)) (attempts true [] s st) (Always (Good true s)) (λ e. ((refl, refl, refl), refl, refl)) (λ e. attempts_good true [] s st)

asks_ends : (s u : Mini) (st : Stmt) → Ids s u → u.portals ≡ [] → u.mode ≡ Usual → Always (λ r. Answered s (query_done r)) (asks_for u st)
asks_ends s u st ids none usual = always_weaker (Good true u) (λ r. Answered s (query_done r)) (asks_for u st) (λ r g. from (query_done r) (query_ends u r none usual g)) (asks_good u st)
  where
    from : (r : Told) → Answered u r → Answered s r
    from r a = record { ids = ids_then s u r.0 ids a.ids; counts = a.counts; some = a.some; ends = a.ends }

no_portals_is : (ps : List Portal) → no_portals ps ≡ true → ps ≡ []
no_portals_is [] e = refl
no_portals_is (p ∷ ps) e = absurd cc

queried_ends : (s : Mini) (r : Result Stmt SqlCode) → s.mode ≡ Usual → Always (λ r. Answered s (query_done r)) (queried s r)
queried_ends s (Err c) usual =
    let due : mode_due s.mode ≡ 0 = ap mode_due usual in
    record { ids = (refl, refl, refl); counts = omega arith; some = omega arith; ends = λ z. (refl, usual_quiet [] s.mode refl usual) }
queried_ends s (Ok st) usual =
    cond_both (is_transfer st && is_quiet s) (asks_for s st) (asks_for (dropped s) st) (Always (λ r. Answered s (query_done r)))
    (λ e. asks_ends s s st (refl, refl, refl) (no_portals_is s.portals (and_parts (is_usual s.mode) (no_portals s.portals) (and_parts (is_transfer st) (is_quiet s) e).1).1) usual)
    (λ e. asks_ends s (dropped s) st (refl, refl, refl) refl usual)

-- ---- the usual mode

query_neat : (s : Mini) (f : Frame) → s.mode ≡ Usual → f.tag ≡ 81 → Always (Neat 0 s f) (on_query s f.body)
query_neat s f usual tag =
    always_then (λ r. Answered s (query_done r)) (Neat 0 s f) query_done (queried s (query_text (whole (text_at f.body)))) (λ r a. neat (query_done r) a) (queried_ends s (query_text (whole (text_at f.body))) usual)
  where
    neat : (r : Told) → Answered s r → Neat 0 s f r
    neat r a = let k : one (is_ask f.tag) ≡ 1 = rw tag refl in record { ids = a.ids; counts = omega (arith, a.counts); ends = λ k some z. a.ends z; answers = λ e z. a.some }

message_neat : (s : Mini) (f : Frame) (r : Outcome) → mode_due s.mode ≡ 0 → (f.tag == 81) ≡ false → Msg s r → Neat 0 s f (message_done r)
message_neat s f (Gives u fs) due tag m =
    let d = none m.1 in
    record { ids = m.0; counts = omega (arith, m.2); ends = λ k some z. absurd (omega (arith, m.2)); answers = λ e z. absurd (let x : (81 == 81) ≡ false = subst (λ (t : ℕ). (t == 81) ≡ false) e tag in cc) }
  where
    none : ModeAfter false s.mode u.mode → mode_due u.mode ≡ 0
    none (inl e) = ap mode_due e ∙ due
    none (inr c) = ap mode_due c.1 ∙ ap (λ (b : Bool). if b then 1 else 0) c.2
message_neat s f (Refuses u c) due tag m =
    record { ids = m; counts = omega arith; ends = λ k some z. absurd (omega arith); answers = λ e z. absurd (let x : (81 == 81) ≡ false = subst (λ (t : ℕ). (t == 81) ≡ false) e tag in cc) }

extended_neat : (s : Mini) (f : Frame) → mode_due s.mode ≡ 0 → (f.tag == 81) ≡ false → Always (Neat 0 s f) (and_then message_done (extended s f))
extended_neat s f due tag = always_then (Msg s) (Neat 0 s f) message_done (extended s f) (λ r m. message_neat s f r due tag m) (extended_msg s f)

sync_neat : (s : Mini) (f : Frame) (b : List ℕ) → s.mode ≡ Usual → (f.tag == 81) ≡ false → f.tag ≡ 83 → Neat 0 s f (on_sync s b)
sync_neat s f [] usual tag sync =
    let due : mode_due s.mode ≡ 0 = ap mode_due usual in
    let k : one (is_ask f.tag) ≡ 1 = rw sync refl in
    record { ids = (refl, refl, refl); counts = omega arith; ends = λ k some z. (refl, usual_quiet [] s.mode refl usual); answers = λ e z. absurd (omega arith) }
sync_neat s f (c ∷ b) usual tag sync = message_neat s f (Refuses s code.ProtocolViolation) (ap mode_due usual) tag (refl, refl, refl)

pub usually_neat : (s : Mini) (f : Frame) → s.mode ≡ Usual → Always (Neat 0 s f) (usually s f)
usually_neat s f usual =
    cond_both (is_copy f.tag) (Now (s, [])) _ (Always (Neat 0 s f)) (λ e. silent 0 s s f (refl, refl, refl) (ap mode_due usual) (λ q z. let x : is_copy 81 ≡ true = subst (λ (t : ℕ). is_copy t ≡ true) q e in cc))
    (λ e. cond_both (f.tag == 81) (on_query s f.body) _ (Always (Neat 0 s f)) (λ q. query_neat s f usual (eqb-true f.tag 81 q))
    (λ q. cond_both (f.tag == 83) (Now (on_sync s f.body)) (and_then message_done (extended s f)) (Always (Neat 0 s f)) (λ y. sync_neat s f f.body usual q (eqb-true f.tag 83 y))
    (λ y. extended_neat s f (ap mode_due usual) q)))

-- ---- while messages are discarded

skipped_neat : (s : Mini) (f : Frame) (b : List ℕ) → mode_due s.mode ≡ 0 → f.tag ≡ 83 → Neat 0 s f (skipped_sync s b)
skipped_neat s f [] due sync =
    let k : one (is_ask f.tag) ≡ 1 = rw sync refl in
    record { ids = (refl, refl, refl); counts = omega arith; ends = λ k some z. (refl, refl); answers = λ e z. absurd (omega arith) }
skipped_neat s f (c ∷ b) due sync = silent 0 s s f (refl, refl, refl) due (λ q z. omega arith)

-- no Query is answered, so only what else is promised is said
pub record Skipped (s : Mini) (f : Frame) (r : Told) : Type 0 where
  pub ids : Ids s r.0
  pub due : mode_due r.0.mode ≡ 0
  pub counts : readies_in r.1 ≤ one (is_ask f.tag)
  pub ends : 1 ≤ readies_in r.1 → (last_tag 90 r.1 ≡ 90) × (is_quiet r.0 ≡ true)
  pub query : (f.tag == 83) ≡ false → readies_in r.1 ≡ 0

skipped_sync_is : (s : Mini) (f : Frame) (b : List ℕ) → mode_due s.mode ≡ 0 → f.tag ≡ 83 → Skipped s f (skipped_sync s b)
skipped_sync_is s f [] due sync = let k : one (is_ask f.tag) ≡ 1 = rw sync refl in record { ids = (refl, refl, refl); due = refl; counts = omega arith; ends = λ some. (refl, refl); query = λ e. absurd (let x : (83 == 83) ≡ false = subst (λ (t : ℕ). (t == 83) ≡ false) sync e in cc) }
skipped_sync_is s f (c ∷ b) due sync = record { ids = (refl, refl, refl); due = due; counts = omega arith; ends = λ some. absurd (omega arith); query = λ e. refl }

skipped_message : (s : Mini) (f : Frame) (r : Outcome) → mode_due s.mode ≡ 0 → Msg s r → Skipped s f (message_done r)
skipped_message s f (Gives u fs) due m =
    let d = none m.1 in
    record { ids = m.0; due = d; counts = omega (arith, m.2); ends = λ some. absurd (omega (arith, m.2)); query = λ e. m.2 }
  where
    none : ModeAfter false s.mode u.mode → mode_due u.mode ≡ 0
    none (inl e) = ap mode_due e ∙ due
    none (inr c) = ap mode_due c.1 ∙ ap (λ (b : Bool). if b then 1 else 0) c.2
skipped_message s f (Refuses u c) due m = record { ids = m; due = refl; counts = omega arith; ends = λ some. absurd (omega arith); query = λ e. refl }

pub skips_neat : (s : Mini) (f : Frame) → mode_due s.mode ≡ 0 → Always (Skipped s f) (skips s f)
skips_neat s f due =
    cond_both (f.tag == 83) (Now (skipped_sync s f.body)) _ (Always (Skipped s f)) (λ y. skipped_sync_is s f f.body due (eqb-true f.tag 83 y))
    (λ y. cond_both (f.tag == 88) (and_then message_done (extended s f)) (Now (s, [])) (Always (Skipped s f)) (λ x. always_then (Msg s) (Skipped s f) message_done (extended s f) (λ r m. skipped_message s f r due m) (extended_msg s f))
    (λ x. record { ids = (refl, refl, refl); due = due; counts = omega arith; ends = λ some. absurd (omega arith); query = λ e. refl }))

-- ---- all modes

-- what every message leaves
pub record Settled (d : ℕ) (s : Mini) (f : Frame) (r : Told) : Type 0 where
  pub ids : Ids s r.0
  pub counts : readies_in r.1 + mode_due r.0.mode ≤ d + one (is_ask f.tag)
  pub ends : (is_ask f.tag || is_copy f.tag) ≡ true → 1 ≤ readies_in r.1 → mode_due r.0.mode ≡ 0 → (last_tag 90 r.1 ≡ 90) × (is_quiet r.0 ≡ true)

from_neat : (d : ℕ) (s : Mini) (f : Frame) (r : Told) → Neat d s f r → Settled d s f r
from_neat d s f r n = record { ids = n.ids; counts = n.counts; ends = n.ends }

from_skipped : (s : Mini) (f : Frame) (r : Told) → Skipped s f r → Settled 0 s f r
from_skipped s f r n = record { ids = n.ids; counts = omega (arith, n.counts, n.due); ends = λ k some z. n.ends some }

from_answered : (s : Mini) (f : Frame) (r : Told) → Answered s r → Settled 1 s f r
from_answered s f r n = record { ids = n.ids; counts = omega (arith, n.counts); ends = λ k some z. n.ends z }

by_query_ends : (s : Mini) (c : CopyTo) (f : Frame) → Always (Settled 1 s f) (and_then query_done (copy_ends (record s { mode = Usual; portals = [] }) c f))
by_query_ends s c f =
    let u : Mini = record s { mode = Usual; portals = [] } in
    always_then (Good true u) (Settled 1 s f) query_done (copy_ends u c f) (λ r g. from (query_done r) (query_ends u r refl refl g)) (copy_ends_good true u c f)
  where
    from : (r : Told) → Answered (record s { mode = Usual; portals = [] }) r → Settled 1 s f r
    from r n = record { ids = n.ids; counts = omega (arith, n.counts); ends = λ k some z. n.ends z }

by_execute_ends : (s : Mini) (c : CopyTo) (f : Frame) → Always (Settled 0 s f) (and_then message_done (copy_ends (record s { mode = Usual; portals = s.portals }) c f))
by_execute_ends s c f =
    let u : Mini = record s { mode = Usual; portals = s.portals } in
    always_then (Good false u) (Settled 0 s f) message_done (copy_ends u c f) (λ r g. from (message_done r) (skipped_message u f r refl (good_msg u r g))) (copy_ends_good false u c f)
  where
    from : (r : Told) → Skipped (record s { mode = Usual; portals = s.portals }) f r → Settled 0 s f r
    from r n = record { ids = n.ids; counts = omega (arith, n.counts, n.due); ends = λ k some z. n.ends some }

not_sync : (f : Frame) → (f.tag == 83 || f.tag == 72) ≡ false → (f.tag == 83) ≡ false
not_sync f e = by (f.tag == 83) (f.tag == 72) e
  where
    by : (a b : Bool) → (a || b) ≡ false → a ≡ false
    by true b e = absurd cc
    by false b e = refl

-- a Query, where it is asked or a copy message and neither Sync nor copy message
must_query : (t : ℕ) → (is_ask t || is_copy t) ≡ true → (t == 83) ≡ false → is_copy t ≡ false → t ≡ 81
must_query t k s c = eqb-true t 81 (by (t == 81) (t == 83) (is_copy t) k s c)
  where
    by : (q s c : Bool) → ((q || s) || c) ≡ true → s ≡ false → c ≡ false → q ≡ true
    by true s c k e d = refl
    by false true c k e d = absurd cc
    by false false true k e d = absurd cc
    by false false false k e d = absurd cc

broken_query : (s u : Mini) (f : Frame) (fs : List Frame) → Ids s u → u.mode ≡ Usual → readies_in fs ≡ 1 → ((d : ℕ) (xs : List Frame) → last_tag d (fs ++ xs) ≡ last_tag 90 xs) → (f.tag == 83) ≡ false → is_copy f.tag ≡ false → Always (Settled 1 s f) (and_then (with_first fs) (usually u f))
broken_query s u f fs ids usual n last sync copy =
    always_then (Neat 0 u f) (Settled 1 s f) (with_first fs) (usually u f) by (usually_neat u f usual)
  where
    by : (r : Told) → Neat 0 u f r → Settled 1 s f (with_first fs r)
    by r h =
        let k : readies_in (fs ++ r.1) ≡ readies_in fs + readies_in r.1 = readies-append fs r.1 in
        record {
          ids = ids_then s u r.0 ids h.ids;
          counts = omega (arith, h.counts);
          ends = λ k some z.
              let q = must_query f.tag k sync copy in
              let e = h.ends k (omega (arith, h.answers q refl)) z in
              (last 90 r.1 ∙ e.0, e.1);
        }

broken_execute : (s u : Mini) (f : Frame) (fs : List Frame) → Ids s u → mode_due u.mode ≡ 0 → readies_in fs ≡ 0 → (f.tag == 83) ≡ false → Always (Settled 0 s f) (and_then (with_first fs) (skips u f))
broken_execute s u f fs ids due n sync =
    always_then (Skipped u f) (Settled 0 s f) (with_first fs) (skips u f) by (skips_neat u f due)
  where
    by : (r : Told) → Skipped u f r → Settled 0 s f (with_first fs r)
    by r h =
        let k : readies_in (fs ++ r.1) ≡ readies_in fs + readies_in r.1 = readies-append fs r.1 in
        let z : readies_in r.1 ≡ 0 = h.query sync in
        record { ids = ids_then s u r.0 ids h.ids; counts = omega (arith, h.due); ends = λ kind some d. absurd (omega arith) }

copy_neat : (s : Mini) (f : Frame) (q : Bool) (table : List ℕ) (width : ℕ) (b : List ℕ) → s.mode ≡ Copying (record { by_query = q; table = table; width = width; gathered = b })
    → Always (Settled (if q then 1 else 0) s f) (in_copy s (record { by_query = q; table = table; width = width; gathered = b }) f)
copy_neat s f q table width b mode =
    let c : CopyTo = record { by_query = q; table = table; width = width; gathered = b } in
    cond_both (f.tag == 100) (Now (gathers s c f.body, [])) _ (Always (Settled (if q then 1 else 0) s f)) (λ e. record { ids = (refl, refl, refl); counts = omega arith; ends = λ k some z. absurd (omega arith) })
    (λ e. cond_both (f.tag == 83 || f.tag == 72) (Now (s, [])) _ (Always (Settled (if q then 1 else 0) s f)) (λ y. let d : mode_due s.mode ≡ (if q then 1 else 0) = ap mode_due mode in record { ids = (refl, refl, refl); counts = omega arith; ends = λ k some z. absurd (omega arith) })
    (λ y. cond_both (is_copy f.tag) (and_then (done q) (copy_ends (left s c) c f)) (breaks f q (done q (Refuses (left s c) code.ProtocolViolation))) (Always (Settled (if q then 1 else 0) s f)) (λ x. ending q) (λ x. breaking q (not_sync f y) x)))
  where
    ending : (q : Bool) → Always (Settled (if q then 1 else 0) s f) (and_then (done q) (copy_ends (left s (record { by_query = q; table = table; width = width; gathered = b })) (record { by_query = q; table = table; width = width; gathered = b }) f))
    ending true = by_query_ends s (record { by_query = true; table = table; width = width; gathered = b }) f
    ending false = by_execute_ends s (record { by_query = false; table = table; width = width; gathered = b }) f

    breaking : (q : Bool) → (f.tag == 83) ≡ false → is_copy f.tag ≡ false → Always (Settled (if q then 1 else 0) s f) (breaks f q (done q (Refuses (left s (record { by_query = q; table = table; width = width; gathered = b })) code.ProtocolViolation)))
    breaking true sync copy = broken_query s (record s { mode = Usual; portals = []; turn = failing s.turn }) f (error code.ProtocolViolation ∷ ready (status_of (failing s.turn)) ∷ []) (refl, refl, refl) refl refl (λ d xs. refl) sync copy
    breaking false sync copy = broken_execute s (record s { mode = Skipping; turn = failing s.turn }) f (error code.ProtocolViolation ∷ []) (refl, refl, refl) refl refl sync

told_by_settled : (s : Mini) (f : Frame) (m : Mode) → s.mode ≡ m → Always (Settled (mode_due m) s f) (told_by s f m)
told_by_settled s f Usual e = always_weaker (Neat 0 s f) (Settled 0 s f) (usually s f) (from_neat 0 s f) (usually_neat s f e)
told_by_settled s f Skipping e = always_weaker (Skipped s f) (Settled 0 s f) (skips s f) (from_skipped s f) (skips_neat s f (ap mode_due e))
told_by_settled s f (Copying c) e = copy_neat s f c.by_query c.table c.width c.gathered e

pub told_settled : (s : Mini) (f : Frame) (a : Option Answer) → Settled (mode_due s.mode) s f (with_answer (told s f) a)
told_settled s f a = always_answer (Settled (mode_due s.mode) s f) (told s f) (told_by_settled s f s.mode refl) a
