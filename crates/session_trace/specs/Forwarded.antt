-- What was forwarded of what the client sent.
use Rattle.std.specs.Prelude.{◌≡◌, ℕ, List, [], ◌∷◌, ◌++◌, ◌⊎◌, true}
use Rattle.pgw_frames.specs.declared.frame.Frame.{Frame}
use Rattle.pgw_frames.specs.Frames.{Begins}
use Rattle.session_trace.specs.Calls.{Call}
use Rattle.session_trace.specs.Openings.{IsWhole}

-- the last message is a Terminate
abbrev pub EndsInTerminate : List ℕ → Type 0
EndsInTerminate b = (w : IsWhole b) × (before : List Frame) × (x : Frame) × (w.fs ≡ before ++ x ∷ []) × (x.tag ≡ 88)

-- in the client's order; at a farewell all of it, or what ends with a Terminate
pub record Forwards (c : Call) (b : List ℕ) : Type 0 where
  pub begins : Begins b c.taken
  pub at_bye : c.why.bye ≡ true → (b ≡ c.taken) ⊎ EndsInTerminate b
