-- Revival is faithful, and the transfer query changes nothing.
use Rattle.std.proofs.Common.{Bool, List, None, Ok, Option, Result, Some, [], ap, false, refl, subst, sym, true, ℕ, ◌++◌, ◌∙◌, ◌∷◌, ◌≡◌}
use Rattle.std.proofs.lemmas.Bool.{and_from, and_parts}
use Rattle.std.proofs.lemmas.List.{append-nil}
use Rattle.std.specs.Prelude.{codes, if◌then◌else◌}
use Rattle.std.specs.Str.{bytes_eq}
use Rattle.base64.proofs.EngineFacts.{decode_of-encode_of}
use Rattle.base64.specs.Engines.{standard}
use Rattle.base64.specs.GeneralPurpose.{decode_of, encode_of}
use Rattle.pgw_frames.specs.Frames.{IsBytes}
use Rattle.pgw_messages.specs.Reading.{text_at, whole}
use Rattle.pgw_messages.specs.Spelling.{IsText}
use Rattle.pgw_messages.specs.declared.params.Pair.{Pair}
use Rattle.session_blob.proofs.Again.{state_again}
use Rattle.session_model.specs.Kind.{Telling, WasBegun, told_all}
use Rattle.session_model.specs.Texts.{digits_reply, restore_columns, restore_query, restore_reply, restore_row, restore_tag, restore_text, transfer_columns, transfer_query, transfer_reply, transfer_row, transfer_tag, transfer_text}
use Rattle.session_model.specs.declared.transfer.TransferKey.{TransferKey}
use Rattle.session_model.specs.declared.transfer.Dump.TheVariants as dump
use Rattle.pgw_messages.proofs.Codecs.{text as text_codec}  -- keep
use Rattle.std.proofs.lemmas.Slice.Eq.{bytes_eq-Decides}  -- keep
use Rattle.mini_kind.proofs.Below.{SqlLaws}
use Rattle.mini_kind.proofs.Clear.{restore_is_text, transfer_is_text}
use Rattle.mini_kind.proofs.Neat.{Ids, ids_then}
use Rattle.mini_kind.proofs.Spellings.{spelling_is, state_is_bytes}
use Rattle.mini_kind.proofs.Told.{told_settled}
use Rattle.mini_kind.specs.Dumps.{dump_by, dump_of, is_quiet, no_portals, state_in}
use Rattle.mini_kind.specs.Mini.{Copying, Mini, Mode, Portal, Skipping, Turn, Usual, in_turn, is_usual, opening, status_of}
use Rattle.mini_kind.specs.Plans.{Gives, Now, Plan, Refuses, Told, and_then, asked, with_answer}
use Rattle.mini_kind.specs.Running.{decoded, is_of, restored}
use Rattle.mini_kind.specs.Spelled.{has_spelling}
use Rattle.mini_kind.specs.Telling.{asks_for, mini_kind, queried, query_done, query_text, told, usually}
use Rattle.mini_store.specs.declared.answer.Answer.{Answer}
use Rattle.mini_store.specs.declared.code.SqlCode.{SqlCode}
use Rattle.session_blob.specs.Blob.{IsSpelling, state_bytes}
use Rattle.session_blob.specs.Reading.{state_of}
use Rattle.session_blob.specs.declared.fault.BlobFault.{BlobFault}
use Rattle.session_blob.specs.declared.state.State.{State}
use Rattle.sql_text.specs.declared.stmt.Stmt.{Stmt}
use Rattle.mini_store.specs.declared.code.SqlCode.TheVariants as code
use Rattle.sql_text.specs.declared.stmt.Stmt.TheVariants as sql

-- a Query's body is its text
body_read : (t : List ℕ) → IsText t → whole (text_at (t ++ 0 ∷ [])) ≡ Ok t
body_read t is = let e : text_at (t ++ 0 ∷ []) ≡ Ok (t, []) = ap text_at (sym (append-nil (t ++ 0 ∷ []))) ∙ text_codec.again t [] is in rw e refl

-- a quiet session is in the usual mode, and has no portal
abbrev pub calm : Mini → Mini
calm s = record s { portals = []; mode = Usual }

usual_is : (m : Mode) → is_usual m ≡ true → m ≡ Usual
usual_is Usual e = refl
usual_is Skipping e = absurd cc
usual_is (Copying c) e = absurd cc

none_is : (ps : List Portal) → no_portals ps ≡ true → ps ≡ []
none_is [] e = refl
none_is (p ∷ ps) e = absurd cc

pub calm_is : (s : Mini) → is_quiet s ≡ true → s ≡ calm s
calm_is s q =
    let p = and_parts (is_usual s.mode) (no_portals s.portals) q in
    ap (λ (m : Mode). record s { mode = m }) (usual_is s.mode p.0) ∙ ap (λ (ps : List Portal). record s { mode = Usual; portals = ps }) (none_is s.portals p.1)

abbrev now : Told → Plan Told
now r = Now r

-- ---- the transfer query

asks_transfer : (s : Mini) (k : TransferKey) → asks_for s (sql.Transfer k.high k.low) ≡ Now (Gives s (transfer_columns ∷ transfer_row k (dump_of s) s.token ∷ transfer_tag ∷ []))
asks_transfer s k = refl

transfer_told : (laws : SqlLaws) (s : Mini) (t : TransferKey) → usually (calm s) (transfer_query t) ≡ Now (calm s, transfer_reply t (dump_of (calm s)) s.token (status_of s.turn))
unfolding transfer_query
transfer_told laws s t =
    let found = laws.transfer t in
    let body : whole (text_at (transfer_text t ++ 0 ∷ [])) ≡ Ok (transfer_text t) = body_read (transfer_text t) (transfer_is_text t) in
    let query : query_text (whole (text_at (transfer_text t ++ 0 ∷ []))) ≡ Ok (sql.Transfer found.0.high found.0.low) = rw (body, found.1) refl in
    let step : usually (calm s) (transfer_query t) ≡ and_then query_done (queried (calm s) (Ok (sql.Transfer found.0.high found.0.low))) = ap (λ (r : Result Stmt SqlCode). and_then query_done (queried (calm s) r)) query in
    step ∙ ap (λ (d : List ℕ). now (calm s, digits_reply d (dump_of (calm s)) s.token (status_of s.turn))) found.2

pub transfers : (laws : SqlLaws) (s : Mini) (t : TransferKey) → is_quiet s ≡ true
    → (asked (told s (transfer_query t)) ≡ None) × (with_answer (told s (transfer_query t)) None ≡ (s, transfer_reply t (dump_of s) s.token (status_of s.turn)))
transfers laws s t quiet =
    let e = transfer_told laws s t in
    subst (λ (u : Mini). (asked (told u (transfer_query t)) ≡ None) × (with_answer (told u (transfer_query t)) None ≡ (u, transfer_reply t (dump_of u) u.token (status_of u.turn)))) (sym (calm_is s quiet)) (ap asked e, ap (λ (p : Plan Told). with_answer p None) e)

-- ---- revival

same_all : (s : Mini) (ts : List (Telling Answer)) → Ids s (told_all (mini_kind) s ts)
unfolding mini_kind
same_all s [] = (refl, refl, refl)
same_all s (t ∷ ts) =
    let one = (told_settled s t.frame t.answer).ids in
    let next : Mini = (with_answer (told s t.frame) t.answer).0 in
    ids_then s next (told_all (mini_kind) next ts) one (same_all next ts)

-- what a blob says of the session that dumped it
dumped_out : (st : State) (x : Bool) (b : List ℕ) → has_spelling st ≡ x → (if x then dump.Blob (state_bytes st) else dump.Not (codes "session state is too large")) ≡ dump.Blob b → (has_spelling st ≡ true) × (state_bytes st ≡ b)
dumped_out st true b h g = (h, cc)
dumped_out st false b h g = absurd cc

dumped_by : (turn : Option Turn) (st : State) (b : List ℕ) → dump_by true (in_turn turn) st ≡ dump.Blob b → (turn ≡ None) × (has_spelling st ≡ true) × (state_bytes st ≡ b)
dumped_by (Some t) st b e = absurd cc
dumped_by None st b e = let d = dumped_out st (has_spelling st) b refl e in (refl, d.0, d.1)

dumped : (s : Mini) (b : List ℕ) → is_quiet s ≡ true → dump_of s ≡ dump.Blob b → (s.turn ≡ None) × (has_spelling (state_in s) ≡ true) × (state_bytes (state_in s) ≡ b)
dumped s b quiet e = dumped_by s.turn (state_in s) b (ap (λ (q : Bool). dump_by q (in_turn s.turn) (state_in s)) (sym quiet) ∙ e)

revived : (laws : SqlLaws) (p : List Pair) (st : State) (b : List ℕ) → st.user ≡ (opening p).user → st.database ≡ (opening p).database → has_spelling st ≡ true → state_bytes st ≡ b
    → usually (opening p) (restore_query b) ≡ Now (record { user = (opening p).user; database = (opening p).database; token = (opening p).token; variables = st.variables; statements = st.statements; portals = []; turn = None; mode = Usual }, restore_reply)
unfolding restore_query
revived laws p st b user database spelled is =
    let state : IsSpelling st (state_bytes st) = spelling_is st spelled in
    let bytes : IsBytes b = subst IsBytes is (state_is_bytes st state) in
    let body : whole (text_at (restore_text b ++ 0 ∷ [])) ≡ Ok (restore_text b) = body_read (restore_text b) (restore_is_text b bytes) in
    let query : query_text (whole (text_at (restore_text b ++ 0 ∷ []))) ≡ Ok (sql.Restore (encode_of standard b)) = rw (body, laws.restore b bytes) refl in
    let d : decode_of standard (encode_of standard b) ≡ Ok b = decode_of-encode_of standard b refl bytes in
    let found : decoded (decode_of standard (encode_of standard b)) ≡ Ok st = ap decoded d ∙ ap state_of (sym is) ∙ state_again st (state_bytes st) state in
    let same_user : bytes_eq st.user (opening p).user ≡ true = (bytes_eq-Decides st.user (opening p).user).1 user in
    let same_database : bytes_eq st.database (opening p).database ≡ true = (bytes_eq-Decides st.database (opening p).database).1 database in
    let same : is_of (opening p) st ≡ true = and_from _ _ same_user same_database in
    let step : usually (opening p) (restore_query b) ≡ and_then query_done (queried (opening p) (Ok (sql.Restore (encode_of standard b)))) = ap (λ (r : Result Stmt SqlCode). and_then query_done (queried (opening p) r)) query in
    let next : and_then query_done (queried (opening p) (Ok (sql.Restore (encode_of standard b)))) ≡ now (query_done (restored true (opening p) None (Ok st))) = ap (λ (r : Result State BlobFault). now (query_done (restored true (opening p) None r))) found in
    step ∙ next ∙ ap (λ (x : Bool). now (query_done (if x then Gives (record { user = (opening p).user; database = (opening p).database; token = (opening p).token; variables = st.variables; statements = st.statements; portals = []; turn = None; mode = Usual }) (restore_columns ∷ restore_row ∷ restore_tag ∷ []) else Refuses (opening p) code.InvalidParameterValue))) same

pub restores : (laws : SqlLaws) (p : List Pair) (s : Mini) (b : List ℕ) → WasBegun (mini_kind) p s → is_quiet s ≡ true → dump_of s ≡ dump.Blob b
    → (asked (told (opening p) (restore_query b)) ≡ None) × (with_answer (told (opening p) (restore_query b)) None ≡ (s, restore_reply))
unfolding mini_kind
restores laws p s b was quiet dump =
    let ids : Ids (opening p) s = subst (λ (u : Mini). Ids (opening p) u) (sym was.1) (same_all (opening p) was.0) in
    let d = dumped s b quiet dump in
    let e = revived laws p (state_in s) b ids.0 ids.1 d.1 d.2 in
    let r : Mini = record { user = (opening p).user; database = (opening p).database; token = (opening p).token; variables = s.variables; statements = s.statements; portals = []; turn = None; mode = Usual } in
    let a : r ≡ record { user = s.user; database = s.database; token = s.token; variables = s.variables; statements = s.statements; portals = []; turn = None; mode = Usual } =
    rw (ids.0, ids.1, ids.2) refl in
    let c : calm s ≡ record { user = s.user; database = s.database; token = s.token; variables = s.variables; statements = s.statements; portals = []; turn = None; mode = Usual } = ap (λ (t : Option Turn). record { user = s.user; database = s.database; token = s.token; variables = s.variables; statements = s.statements; portals = []; turn = t; mode = Usual }) d.0 in
    let whole : r ≡ s = a ∙ sym c ∙ sym (calm_is s quiet) in
    (ap asked e, ap (λ (q : Plan Told). with_answer q None) e ∙ ap (λ (u : Mini). (u, restore_reply)) whole)
