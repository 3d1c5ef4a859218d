-- The links that were dialed for a transfer and left.
use Rattle.std.specs.Prelude.{Option, ◌≡◌, ◌⊎◌, ℕ, ◌<◌, ◌≤◌, true, List, ◌++◌, Some, Bool, [], ◌∷◌}
use Rattle.pgw_frames.specs.Frames.{frames, bad, Begins, frame_bytes}
use Rattle.pgw_frames.specs.declared.frame.Frame.{Frame}
use Rattle.pgw_messages.specs.declared.pod_key.PodKey.{PodKey}
use Rattle.proxy_links.specs.Links.{LinkRecord}
use Rattle.transfer_stages.specs.Accepts.{AcceptsNew}
use Rattle.pgw_messages.specs.declared.params.Pair.{Pair}
use Rattle.session_model.specs.Texts.{restore_query}
use Rattle.transfer_stages.specs.Exchange.{packet}

-- a link's record shows why it was left: what it got is refused, it failed, it ended, or it was too late
abbrev pub ShowsWhy : ℕ → LinkRecord → Type 0
ShowsWhy patience l =
    ((fs : List Frame) × Begins fs (frames l.got) × ((more : List Frame) (key : Option PodKey) → ¬ AcceptsNew (fs ++ more) key))
    ⊎ ((n : ℕ) × (bad l.got ≡ Some n))
    ⊎ (0 < l.counts.tx_faults) ⊎ (0 < l.counts.rx_faults) ⊎ (l.counts.ended ≡ true) ⊎ (patience ≤ l.counts.waits)

-- what was sent on it begins a packet with a token, and the restore Query
pub record IsTrial (p : List Pair) (l : LinkRecord) : Type 0 where
  pub token : List ℕ
  pub state : List ℕ
  pub sent : Begins l.sent (packet p token ++ frame_bytes (restore_query state))

-- one at most, and its record shows why it was left, but for want of memory
abbrev pub Trials : List Pair → ℕ → Bool → List LinkRecord → Type 0
Trials p patience starved [] = Unit {0}
Trials p patience starved (l ∷ []) = IsTrial p l × ((starved ≡ true) ⊎ ShowsWhy patience l)
Trials p patience starved (l ∷ m ∷ ls) = ⊥
