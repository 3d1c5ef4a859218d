-- What every kind of session keeps.
use Rattle.std.specs.Prelude.{◌≡◌, ◌≢◌, ℕ, ◌+◌, ◌≤◌, true, ◌||◌, List, [], Option, None}
use Rattle.std.specs.List.{AllByRecursion}
use Rattle.pgw_frames.specs.declared.frame.Frame.{Frame}
use Rattle.pgw_frames.specs.Frames.{IsGood, IsBytes}
use Rattle.proxy_outside.specs.Rules.{Rules}
use Rattle.pgw_messages.specs.Startup.{Fits}
use Rattle.session_model.specs.Kind.{Kind, EndsReady, Answers, WasBegun}
use Rattle.session_model.specs.Tags.{is_ask, is_copy, is_status, one, readies_in, last_tag}
use Rattle.session_model.specs.Texts.{transfer_query, transfer_reply, restore_query, restore_reply}
use Rattle.pgw_messages.specs.declared.params.Pair.{Pair}
use Rattle.session_model.specs.declared.transfer.Dump.TheVariants.{Blob, Not}
use Rattle.session_model.specs.declared.transfer.TransferKey.{TransferKey}

-- kept holds of each state that is reached with frames and answers that fit
pub record Laws {S T C R : Type 0} (k : Kind S C R) (rules : Rules T C R) (kept : S → Type 0) : Type 0 where
  -- a session that is begun anew and told the restore Query of a quiet session's blob is that session
  pub restores : (p : List Pair) (s : S) (b : List ℕ) → WasBegun k p s → k.quiet s ≡ true → k.dumps s ≡ Blob b
      → (k.asks (k.begins p).0 (restore_query b) ≡ None) × (k.tells (k.begins p).0 (restore_query b) None ≡ (s, restore_reply))
  -- in a quiet session the transfer Query changes nothing
  pub transfers : (s : S) (t : TransferKey) → k.quiet s ≡ true
      → (k.asks s (transfer_query t) ≡ None) × (k.tells s (transfer_query t) None ≡ (s, transfer_reply t (k.dumps s) (k.token s) (k.status s)))
  pub blob_bytes : (s : S) (b : List ℕ) → k.dumps s ≡ Blob b → IsBytes b
  pub says_why : (s : S) (r : List ℕ) → k.dumps s ≡ Not r → r ≢ []
  -- no more ReadyForQuery than Query and Sync
  pub counts : (s : S) (f : Frame) (a : Option R) → readies_in (k.tells s f a).1 + k.due (k.tells s f a).0 ≤ k.due s + one (is_ask f.tag)
  -- one is due at most
  pub due_once : (s : S) → k.due s ≤ 1
  -- a session is idle, in a transaction, or in one that failed
  pub has_status : (s : S) → is_status (k.status s) ≡ true
  -- where the last one that is due has come, it stands last and the session is quiet
  pub settles : (s : S) (f : Frame) (a : Option R) → (is_ask f.tag || is_copy f.tag) ≡ true → 1 ≤ readies_in (k.tells s f a).1 → k.due (k.tells s f a).0 ≡ 0
      → (last_tag 0 (k.tells s f a).1 ≡ 90) × (k.quiet (k.tells s f a).0 ≡ true)
  -- copy messages say nothing to a quiet session
  pub ignores : (s : S) (f : Frame) (a : Option R) → is_copy f.tag ≡ true → k.quiet s ≡ true
      → ((k.tells s f a).1 ≡ []) × (k.quiet (k.tells s f a).0 ≡ true) × (k.due (k.tells s f a).0 ≡ 0)
  -- a greeting
  pub greets : (p : List Pair) → EndsReady (k.begins p).1 × (k.quiet (k.begins p).0 ≡ true) × (k.due (k.begins p).0 ≡ 0)
  pub begin_fits : (p : List Pair) → Fits p → kept (k.begins p).0 × AllByRecursion IsGood (k.begins p).1
  pub tell_fits : (s : S) (f : Frame) (a : Option R) → kept s → IsGood f → Answers rules (k.asks s f) a → kept (k.tells s f a).0 × AllByRecursion IsGood (k.tells s f a).1
