-- When a transfer Query may be sent, and what answers it.
use Rattle.std.specs.Prelude.{◌≡◌, ℕ, true, List, [], ◌∷◌, ◌⊎◌, Bool, IsTrue, false}
use Rattle.session_model.specs.SafePoint.{safe}
use Rattle.pgw_frames.specs.declared.frame.Frame.{Frame}
use Rattle.pgw_messages.specs.declared.params.Pair.{Pair}
use Rattle.session_model.specs.declared.transfer.TransferKey.{TransferKey}
use Rattle.transfer_stages.specs.Accepts.{AcceptsOld}
use Rattle.transfer_stages.specs.declared.stage.Said.{Said}
use Rattle.transfer_stages.specs.declared.stage.Said.TheVariants.{Given}
use Rattle.pgw_frames.specs.Frames.{frame_bytes, Begins}
use Rattle.session_model.specs.Texts.{transfer_query}
use Rattle.session_trace.specs.Trace.{Same, Moved, Next, all_relayed, Round, all_forwarded}
use Rattle.session_trace.specs.Openings.{IsWhole, Reopens}

-- all that was forwarded and all that was relayed are whole messages, at a safe point
pub record IsSafe (f r : List ℕ) : Type 0 where
  pub sent : IsWhole f
  pub passed : IsWhole r
  pub holds : safe sent.fs passed.fs ≡ true

-- their types
abbrev pub tags_of : List Frame → List ℕ
tags_of [] = []
tags_of (f ∷ fs) = f.tag ∷ tags_of fs

-- the answer to a transfer Query was read whole; after want of memory by its types alone
abbrev pub Replied : List Pair → TransferKey → List ℕ → Next → Type 0
Replied p key answer Same = (w : IsWhole answer) × (((s : Said) × AcceptsOld key p w.fs s) ⊎ (tags_of w.fs ≡ 84 ∷ 68 ∷ 67 ∷ 90 ∷ []))
Replied p key answer (Moved c o) = (w : IsWhole answer) × (state : List ℕ) × (token : List ℕ) × AcceptsOld key p w.fs (Given state token) × Reopens p state token o

-- the transfer Query was sent whole, or it was cut in the last round of a call that ends so
abbrev pub Asks : List Pair → Bool → List ℕ → List ℕ → Next → Type 0
Asks p may_cut ask answer next =
    (key : TransferKey) × (((ask ≡ frame_bytes (transfer_query key)) × Replied p key answer next)
    ⊎ (IsTrue may_cut × Begins ask (frame_bytes (transfer_query key)) × (next ≡ Same)))

-- a round without a transfer Query moves nothing
abbrev pub FitsRound : List Pair → Bool → List ℕ → List ℕ → List ℕ → List ℕ → Next → Type 0
FitsRound p may_cut f r [] answer next = (answer ≡ []) × (next ≡ Same)
FitsRound p may_cut f r (x ∷ xs) answer next = IsSafe f r × Asks p may_cut (x ∷ xs) answer next

-- only the newest round may be cut
abbrev pub FitsRounds : List Pair → Bool → List Round → Type 0
FitsRounds p may_cut [] = Unit {0}
FitsRounds p may_cut (r ∷ rs) = FitsRound p may_cut (all_forwarded (r ∷ rs)) (all_relayed (r ∷ rs)) r.ask r.answer r.next × FitsRounds p false rs
