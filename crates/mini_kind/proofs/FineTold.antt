-- Replies to each message fit in frames.
use Rattle.std.proofs.Common.{Bool, Err, List, None, Ok, Option, Result, Some, [], arith, false, length, refl, true, ℕ, ◌++◌, ◌∷◌, ◌≡◌, ◌≤◌}
use Rattle.std.proofs.lemmas.Bool.{cond_both}
use Rattle.std.specs.Prelude.{codes, not, ◌&&◌, ◌==◌, ◌||◌}
use Rattle.pgw_frames.specs.Frames.{IsGood}
use Rattle.pgw_frames.specs.declared.frame.Frame.{Frame}
use Rattle.pgw_messages.specs.Reading.{text_at, whole}
use Rattle.pgw_messages.specs.declared.fault.MsgFault.{MsgFault}
use Rattle.session_model.specs.Tags.{is_copy}
use Rattle.session_model.specs.Texts.{ready}
use Rattle.mini_kind.proofs.Below.{SqlLaws}
use Rattle.mini_kind.proofs.Fine.{attempts_fine, count_seen, operates_fine, says_fine}
use Rattle.mini_kind.proofs.FineMessages.{dropped_kept, empty_fine, extended_fine, portals_kept, query_short, read_fine, some_fine, stmt_fits_le}
use Rattle.mini_kind.proofs.FrameSizes.{Fine, FineAfter, Fitting, fitting_then, good_error}
use Rattle.mini_kind.proofs.Lists.{all_join}
use Rattle.mini_kind.specs.Copies.{copied_rows, copies_in, copy_ends}
use Rattle.mini_kind.specs.Dumps.{is_quiet}
use Rattle.mini_kind.specs.Extended.{extended, on_empty, on_read}
use Rattle.mini_kind.specs.Fits.{MiniKept, StmtFits}
use Rattle.mini_kind.specs.Mini.{CopyTo, Copying, Mini, Mode, Skipping, Usual, dropped, has_failed, is_copying, status_of}
use Rattle.mini_kind.specs.Operating.{operates, see_count}
use Rattle.mini_kind.specs.Parameters.{params_in, stmt_in}
use Rattle.mini_kind.specs.Plans.{Gives, Now, Outcome, Refuses, Told, and_then, refuse, with_first}
use Rattle.mini_kind.specs.Running.{attempts, runs_failed, says_count}
use Rattle.mini_kind.specs.Telling.{asks_for, breaks, broken, done, gathers, in_copy, is_transfer, left, message_done, on_query, on_sync, or_syntax_error, queried, query_done, query_text, skipped_sync, skips, told, told_by, usually}
use Rattle.mini_store.specs.declared.code.SqlCode.{SqlCode}
use Rattle.sql_text.specs.declared.stmt.Stmt.{Stmt}
use Rattle.mini_store.specs.declared.code.SqlCode.TheVariants as code
use Rattle.mini_store.specs.declared.op.Op.TheVariants as op

-- ---- ends of a message

query_done_fine : (r : Outcome) → Fine r → FineAfter (query_done r)
query_done_fine (Gives u fs) h = cond_both (is_copying u.mode) (u, fs) (u, fs ++ ready (status_of u.turn) ∷ []) FineAfter (λ e. h) (λ e. (h.0, all_join IsGood fs (ready (status_of u.turn) ∷ []) h.1 (omega arith, tt)))
query_done_fine (Refuses u c) h = (h, (good_error c, (omega arith, tt)))

message_done_fine : (r : Outcome) → Fine r → FineAfter (message_done r)
message_done_fine (Gives u fs) h = h
message_done_fine (Refuses u c) h = (h, (good_error c, tt))

done_fine : (q : Bool) (r : Outcome) → Fine r → FineAfter (done q r)
done_fine true r h = query_done_fine r h
done_fine false r h = message_done_fine r h

asks_fine : (s : Mini) (st : Stmt) → MiniKept s → StmtFits 16777215 st → Fitting Fine (asks_for s st)
asks_fine s st kept f = cond_both (not (params_in st == 0) && not (not (runs_failed st) && has_failed s.turn)) (Now (Refuses s code.ProtocolViolation)) (attempts true [] s st) (Fitting Fine) (λ e. kept) (λ e. attempts_fine true [] s st kept tt f)

abbrev StmtIf : Result Stmt SqlCode → Type 0
StmtIf (Ok st) = StmtFits 16777215 st
StmtIf (Err c) = Unit {0}

queried_fine : (s : Mini) (r : Result Stmt SqlCode) → MiniKept s → StmtIf r → Fitting Fine (queried s r)
queried_fine s (Err c) kept f = dropped_kept s kept
queried_fine s (Ok st) kept f = cond_both (is_transfer st && is_quiet s) (asks_for s st) (asks_for (dropped s) st) (Fitting Fine) (λ e. asks_fine s st kept f) (λ e. asks_fine (dropped s) st (dropped_kept s kept) f)

module _ (laws : SqlLaws)
  where
    text_if : (b : List ℕ) (r : Result (List ℕ) MsgFault) → whole (text_at b) ≡ r → length b ≤ 16777216 → StmtIf (query_text r)
    text_if b (Err e) g le = tt
    text_if b (Ok t) g le = by (stmt_in t) refl
      where
        by : (x : Option Stmt) → stmt_in t ≡ x → StmtIf (or_syntax_error x)
        by None h = tt
        by (Some st) h = stmt_fits_le (length t) 16777215 st (omega (arith, query_short b t g)) (laws.fits t st h)

    query_fine : (s : Mini) (b : List ℕ) → MiniKept s → length b ≤ 16777216 → Fitting FineAfter (on_query s b)
    query_fine s b kept le = fitting_then Fine FineAfter query_done (queried s (query_text (whole (text_at b)))) query_done_fine (queried_fine s (query_text (whole (text_at b))) kept (text_if b (whole (text_at b)) refl le))

    sync_fine : (s : Mini) (b : List ℕ) → MiniKept s → FineAfter (on_sync s b)
    sync_fine s [] kept = (portals_kept s [] kept tt, (omega arith, tt))
    sync_fine s (c ∷ b) kept = (kept, (good_error code.ProtocolViolation, tt))

    message_fine : (s : Mini) (f : Frame) → MiniKept s → IsGood f → Fitting FineAfter (and_then message_done (extended s f))
    message_fine s f kept good = fitting_then Fine FineAfter message_done (extended s f) message_done_fine (extended_fine laws s kept f good)

    usually_fine : (s : Mini) (f : Frame) → MiniKept s → IsGood f → Fitting FineAfter (usually s f)
    usually_fine s f kept good =
        cond_both (is_copy f.tag) (Now (s, [])) _ (Fitting FineAfter) (λ e. (kept, tt))
        (λ e. cond_both (f.tag == 81) (on_query s f.body) _ (Fitting FineAfter) (λ e. query_fine s f.body kept good)
        (λ e. cond_both (f.tag == 83) (Now (on_sync s f.body)) (and_then message_done (extended s f)) (Fitting FineAfter) (λ e. sync_fine s f.body kept) (λ e. message_fine s f kept good)))

    skipped_fine : (s : Mini) (b : List ℕ) → MiniKept s → FineAfter (skipped_sync s b)
    skipped_fine s [] kept = (portals_kept s [] kept tt, (omega arith, tt))
    skipped_fine s (c ∷ b) kept = (kept, tt)

    skips_fine : (s : Mini) (f : Frame) → MiniKept s → IsGood f → Fitting FineAfter (skips s f)
    skips_fine s f kept good =
        cond_both (f.tag == 83) (Now (skipped_sync s f.body)) _ (Fitting FineAfter) (λ e. skipped_fine s f.body kept)
        (λ e. cond_both (f.tag == 88) (and_then message_done (extended s f)) (Now (s, [])) (Fitting FineAfter) (λ e. message_fine s f kept good) (λ e. (kept, tt)))

    left_kept : (s : Mini) (c : CopyTo) → MiniKept s → MiniKept (left s c)
    left_kept s c kept = cond_both c.by_query [] s.portals (λ ps. MiniKept (record s { mode = Usual; portals = ps })) (λ e. portals_kept s [] kept tt) (λ e. kept)

    copies_in_fine : (s : Mini) (c : CopyTo) → MiniKept s → Fitting Fine (copies_in s c)
    copies_in_fine s c kept =
        some_fine s code.BadCopyFileFormat (λ rs. operates s (op.CopyIn c.table rs) see_count (says_count (codes "COPY "))) (copied_rows c.width c.gathered) kept
        (λ rs e. operates_fine s kept (op.CopyIn c.table rs) see_count (says_count (codes "COPY ")) (λ u a n m g. says_fine (record s { turn = u }) (codes "COPY ") n kept (omega arith) (count_seen a n m g)))

    copy_ends_fine : (s : Mini) (c : CopyTo) (f : Frame) → MiniKept s → Fitting Fine (copy_ends s c f)
    copy_ends_fine s c f kept =
        cond_both (f.tag == 102) (on_read s (λ t. refuse s code.QueryCanceled) (whole (text_at f.body))) (on_empty s (copies_in s c) f.body) (Fitting Fine)
        (λ e. read_fine s (λ t. refuse s code.QueryCanceled) (whole (text_at f.body)) kept (λ t g. kept)) (λ e. empty_fine s (copies_in s c) f.body kept (copies_in_fine s c kept))

    broken_fine : (s : Mini) (q : Bool) (f : Frame) → MiniKept s → IsGood f → Fitting FineAfter (broken s q f)
    broken_fine s true f kept good = usually_fine s f kept good
    broken_fine s false f kept good = skips_fine s f kept good

    breaks_fine : (f : Frame) (q : Bool) (r : Told) → FineAfter r → IsGood f → Fitting FineAfter (breaks f q r)
    breaks_fine f q r h good = fitting_then FineAfter FineAfter (with_first r.1) (broken r.0 q f) (λ x k. (k.0, all_join IsGood r.1 x.1 h.1 k.1)) (broken_fine r.0 q f h.0 good)

    in_copy_fine : (s : Mini) (c : CopyTo) (f : Frame) → MiniKept s → IsGood f → Fitting FineAfter (in_copy s c f)
    in_copy_fine s c f kept good =
        cond_both (f.tag == 100) (Now (gathers s c f.body, [])) _ (Fitting FineAfter) (λ e. (kept, tt))
        (λ e. cond_both (f.tag == 83 || f.tag == 72) (Now (s, [])) _ (Fitting FineAfter) (λ e. (kept, tt))
        (λ e. cond_both (is_copy f.tag) (and_then (done c.by_query) (copy_ends (left s c) c f)) (breaks f c.by_query (done c.by_query (Refuses (left s c) code.ProtocolViolation))) (Fitting FineAfter)
        (λ e. fitting_then Fine FineAfter (done c.by_query) (copy_ends (left s c) c f) (done_fine c.by_query) (copy_ends_fine (left s c) c f (left_kept s c kept)))
        (λ e. breaks_fine f c.by_query (done c.by_query (Refuses (left s c) code.ProtocolViolation)) (done_fine c.by_query (Refuses (left s c) code.ProtocolViolation) (left_kept s c kept)) good)))

    told_by_fine : (s : Mini) (f : Frame) (m : Mode) → MiniKept s → IsGood f → Fitting FineAfter (told_by s f m)
    told_by_fine s f Usual kept good = usually_fine s f kept good
    told_by_fine s f Skipping kept good = skips_fine s f kept good
    told_by_fine s f (Copying c) kept good = in_copy_fine s c f kept good

    pub told_fine : (s : Mini) (f : Frame) → MiniKept s → IsGood f → Fitting FineAfter (told s f)
    told_fine s f kept good = told_by_fine s f s.mode kept good
