-- How the two sides end their rounds, and what the board shows of it.
use Rattle.session_legs.specs.declared.side.LegEnd.{LegEnd}
use Rattle.session_legs.specs.declared.side.LegEnd.TheVariants.{Parked, Over, Terminated}
use Rattle.std.specs.Prelude.{◌≡◌, ℕ, List, [], ◌∷◌, ◌++◌, ◌≢◌, ◌+◌, ◌≤◌, length}
use Rattle.pgw_frames.specs.declared.frame.Frame.{Frame}
use Rattle.pgw_frames.specs.Frames.{Begins, frames}
use Rattle.proxy_links.specs.Board.{Half, raised}
use Rattle.session_trace.specs.Trace.{Round}
use Rattle.session_trace.specs.Openings.{IsWhole}
use Rattle.session_trace.specs.Running.{Board}

-- a last look that is Park or Over
abbrev pub IsLook : LegEnd → Type 0
IsLook Parked = Unit {0}
IsLook Over = Unit {0}
IsLook _ = ⊥

-- what was forwarded ends with a Terminate where that ended the side
abbrev pub MayEnd : List ℕ → LegEnd → Type 0
MayEnd f Terminated = (w : IsWhole f) × (before : List Frame) × (x : Frame) × (w.fs ≡ before ++ x ∷ []) × (x.tag ≡ 88)
MayEnd f _ = Unit {0}

-- both sides ended each round so
abbrev pub AllLooks : List Round → Type 0
AllLooks [] = Unit {0}
AllLooks (r ∷ rs) = IsLook r.request × IsLook r.response × AllLooks rs

-- all rounds but the newest end by a look
abbrev pub Sides : List Round → Type 0
Sides [] = Unit {0}
Sides (r ∷ rs) = MayEnd r.forwarded r.request × (r.response ≢ Terminated) × AllLooks rs

-- what was held begins what is relayed and held after the next round; where the session moved nothing was
abbrev pub HeldOn : List ℕ → List Round → Type 0
HeldOn more [] = Unit {0}
HeldOn more (r ∷ rs) = Begins r.held more × HeldOn (r.relayed ++ r.held) rs

abbrev pub Holds : List Round → Type 0
Holds [] = Unit {0}
Holds (r ∷ rs) = HeldOn (r.relayed ++ r.held) rs

abbrev pub parks_of : LegEnd → ℕ
parks_of Parked = 1
parks_of _ = 0

abbrev pub overs_of : LegEnd → ℕ
overs_of Over = 1
overs_of _ = 0

-- over all rounds
abbrev pub summed : (Round → ℕ) → List Round → ℕ
summed f [] = 0
summed f (r ∷ rs) = summed f rs + f r

-- looks rose at least by the whole frames, and at most by these and the waits of the source
pub record Looked (old new : Half) (bytes : List ℕ) (waits : ℕ) : Type 0 where
  pub looks : ℕ
  pub rose : new.looks ≡ raised old.looks looks
  pub least : length (frames bytes) ≤ looks
  pub most : looks ≤ length (frames bytes) + waits

-- the parks and overs of both halves
pub record Boards (before now : Board) (rs : List Round) : Type 0 where
  pub front_parks : now.front.parks ≡ raised before.front.parks (summed (λ r. parks_of r.request) rs)
  pub front_overs : now.front.overs ≡ raised before.front.overs (summed (λ r. overs_of r.request) rs)
  pub back_parks : now.back.parks ≡ raised before.back.parks (summed (λ r. parks_of r.response) rs)
  pub back_overs : now.back.overs ≡ raised before.back.overs (summed (λ r. overs_of r.response) rs)
