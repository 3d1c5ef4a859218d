-- Attempts to move the session, and what each came to.
use Rattle.std.specs.Prelude.{ℕ, List, Option, ◌≡◌, false, Some, None, ◌≢◌, ◌⊎◌, Bool, true, [], ◌∷◌, if◌then◌else◌, ◌+◌}
use Rattle.pgw_messages.specs.declared.params.Pair.{Pair}
use Rattle.session_model.specs.declared.transfer.TransferKey.{TransferKey}
use Rattle.transfer_stages.specs.Accepts.{AcceptsOld}
use Rattle.transfer_stages.specs.declared.stage.Said.TheVariants.{Refuses}
use Rattle.proxy_links.specs.declared.dialer.Dial.{Dial}
use Rattle.session_legs.specs.declared.side.LegEnd.TheVariants.{Parked}
use Rattle.session_trace.specs.Trace.{Same, Moved, Next, Round, Attempt, all_relayed, all_forwarded}
use Rattle.session_trace.specs.Openings.{IsWhole}
use Rattle.session_trace.specs.Transfers.{IsSafe}
use Rattle.session_trace.specs.Trials.{Trials}

abbrev pub IsMove : Next → Type 0
IsMove Same = ⊥
IsMove (Moved c o) = Unit {0}

-- the old pod gave a reason why not
abbrev pub SaysError : List Pair → List ℕ → Type 0
SaysError p answer = (w : IsWhole answer) × (key : TransferKey) × (reason : List ℕ) × AcceptsOld key p w.fs (Refuses reason)

-- no link came
abbrev pub DialFailed : Option Dial → Type 0
DialFailed None = ⊥
DialFailed (Some d) = d.came ≡ false

-- what an attempt came to: want of memory, a move, the call's end, a refusal, a failed dial, or a link that was left
abbrev pub CameTo : List Pair → Bool → Attempt → Round → Type 0
CameTo p ends a r =
    ((a.starved ≡ true) × (r.next ≡ Same))
    ⊎ IsMove r.next ⊎ (ends ≡ true) ⊎ SaysError p r.answer ⊎ DialFailed a.dial ⊎ (r.trials ≢ [])

-- an attempt is made after two parks at a safe point, where nothing is held
pub record Tries (p : List Pair) (patience : ℕ) (ends : Bool) (f g : List ℕ) (a : Attempt) (r : Round) : Type 0 where
  pub request : r.request ≡ Parked
  pub response : r.response ≡ Parked
  pub nothing_held : r.held ≡ []
  pub safe_there : IsSafe f g
  pub came_to : CameTo p ends a r
  pub trials : Trials p patience a.starved r.trials
  pub dialed : (d : Dial) → a.dial ≡ Some d → d.place ≡ a.place

-- where none is made nothing is sent
abbrev pub Attempts : List Pair → ℕ → Bool → List ℕ → List ℕ → Option Attempt → Round → Type 0
Attempts p patience ends f g None r = (r.ask ≡ []) × (r.answer ≡ []) × (r.trials ≡ []) × (r.next ≡ Same)
Attempts p patience ends f g (Some a) r = Tries p patience ends f g a r

-- one may end the call in the newest round alone
abbrev pub AllAttempts : List Pair → ℕ → Bool → List Round → Type 0
AllAttempts p patience ends [] = Unit {0}
AllAttempts p patience ends (r ∷ rs) =
    Attempts p patience ends (all_forwarded (r ∷ rs)) (all_relayed (r ∷ rs)) r.attempt r × AllAttempts p patience false rs

abbrev pub is_starved : Option Attempt → ℕ
is_starved None = 0
is_starved (Some a) = if a.starved then 1 else 0

-- how many were given up for want of memory
abbrev pub starved_in : List Round → ℕ
starved_in [] = 0
starved_in (r ∷ rs) = starved_in rs + is_starved r.attempt
