-- Counts and ends of lists of messages, and the laws as the proof asks them: of states that were kept.
use Rattle.std.specs.Prelude.{◌≡◌, ℕ, ◌+◌, ◌≤◌, ◌<◌, Bool, true, false, List, [], ◌∷◌, ◌++◌, Option, None, ◌||◌, ◌&&◌, IsTrue}
use Rattle.std.specs.List.{AllByRecursion}
use Rattle.pgw_frames.specs.Frames.{IsGood}
use Rattle.pgw_frames.specs.declared.frame.Frame.{Frame}
use Rattle.pgw_messages.specs.Startup as startup
use Rattle.pgw_messages.specs.declared.params.Pair.{Pair}
use Rattle.proxy_outside.specs.Rules.{Rules}
use Rattle.session_model.specs.Kind.{Kind, Answers}
use Rattle.session_model.specs.Tags as tags
use Rattle.session_model.specs.Tags.{asks_in, readies_in}
use Rattle.session_model.specs.Texts.{transfer_query, restore_query, restore_reply}
use Rattle.session_model.specs.declared.transfer.Dump.TheVariants.{Blob}
use Rattle.session_model.specs.declared.transfer.TransferKey.{TransferKey}
use Rattle.transfer_stages.specs.Accepts.{AcceptsOld}
use Rattle.transfer_stages.specs.declared.stage.Said.TheVariants.{Given}
use Rattle.session_trace.specs.Replies.{Told, reply}

abbrev pub is_ask : Frame → Bool
is_ask f = tags.is_ask f.tag

abbrev pub is_copy : Frame → Bool
is_copy f = tags.is_copy f.tag

abbrev pub asks : Frame → ℕ
asks f = tags.one (is_ask f)

abbrev pub all_copy : List Frame → Bool
all_copy [] = true
all_copy (f ∷ fs) = is_copy f && all_copy fs

-- the last message other than d, c and f is Q or S
abbrev pub ends_asked : List Frame → Bool
ends_asked [] = false
ends_asked (f ∷ fs) = ends_asked fs || (is_ask f && all_copy fs)

-- the last message is a Z
abbrev pub EndsReady : List Frame → Type 0
EndsReady xs = (ys : List Frame) × (z : Frame) × (xs ≡ ys ++ z ∷ []) × (z.tag ≡ 90)

-- the last message is the only Z
abbrev pub OnlyReady : List Frame → Type 0
OnlyReady xs = (ys : List Frame) × (z : Frame) × (xs ≡ ys ++ z ∷ []) × (z.tag ≡ 90) × (readies_in ys ≡ 0)

abbrev pub after : {S C A : Type 0} → Kind S C A → S → List (Told A) → S
after k s [] = s
after k s (m ∷ ms) = after k (k.tells s m.0 m.1).0 ms

-- kept p s: s was begun with p and told messages and answers within the limits
pub record KeptLaws {S T C A : Type 0} (k : Kind S C A) (rules : Rules T C A) (kept : List Pair → S → Type 0) : Type 0 where
  pub begin : (p : List Pair) → startup.Fits p → kept p (k.begins p).0 × AllByRecursion IsGood (k.begins p).1
  pub begin_ready : (p : List Pair) → OnlyReady (k.begins p).1 × IsTrue (k.quiet (k.begins p).0) × (k.due (k.begins p).0 ≡ 0)
  pub tell : (p : List Pair) (s : S) (f : Frame) (a : Option A) → kept p s → IsGood f → Answers rules (k.asks s f) a
      → kept p (k.tells s f a).0 × AllByRecursion IsGood (k.tells s f a).1
  pub revive : (p : List Pair) (s : S) (blob : List ℕ) → kept p s → IsTrue (k.quiet s) → k.dumps s ≡ Blob blob
      → (k.asks (k.begins p).0 (restore_query blob) ≡ None) × (k.tells (k.begins p).0 (restore_query blob) None ≡ (s, restore_reply))
  pub transfer : (p : List Pair) (s : S) (key : TransferKey) → kept p s → IsTrue (k.quiet s)
      → (k.asks s (transfer_query key) ≡ None) × (k.tells s (transfer_query key) None ≡ (s, reply k key s))
  pub ready : (p : List Pair) (s : S) (f : Frame) (a : Option A) → kept p s → IsGood f → Answers rules (k.asks s f) a
      → readies_in (k.tells s f a).1 + k.due (k.tells s f a).0 ≤ k.due s + asks f
  pub last : (p : List Pair) (s : S) (f : Frame) (a : Option A) → kept p s → IsGood f → Answers rules (k.asks s f) a
      → IsTrue (is_ask f || is_copy f) → 0 < readies_in (k.tells s f a).1 → k.due (k.tells s f a).0 ≡ 0
      → EndsReady (k.tells s f a).1 × IsTrue (k.quiet (k.tells s f a).0)
  pub copies : (p : List Pair) (s : S) (f : Frame) (a : Option A) → kept p s → IsGood f → Answers rules (k.asks s f) a
      → IsTrue (k.quiet s) → IsTrue (is_copy f)
      → ((k.tells s f a).1 ≡ []) × IsTrue (k.quiet (k.tells s f a).0) × (k.due (k.tells s f a).0 ≡ 0)
  -- what is accepted of a quiet session is what it dumps
  pub accepts_blob : (key : TransferKey) (p route : List Pair) (s : S) (state token : List ℕ) → kept p s → IsTrue (k.quiet s)
      → AcceptsOld key route (reply k key s) (Given state token) → k.dumps s ≡ Blob state
