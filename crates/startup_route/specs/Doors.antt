-- What a door knows of the bytes that it was fed.
use Rattle.std.specs.Prelude.{◌≡◌, ℕ, Bool, true, false, not, List}
use Rattle.startup_route.specs.declared.step.DoorStep.{DoorStep}
use Rattle.startup_route.specs.declared.step.DoorStep.TheVariants as step
use Rattle.startup_route.specs.Entrances.{entrance, is_need}

pub record Knows (says : ℕ) (over : Bool) (fed : List ℕ) : Type 0 where
  pub says_is : says ≡ (entrance fed).says
  pub over_is : over ≡ not (is_need (entrance fed).step)

-- whether a door goes on behind this answer
abbrev pub goes_on : DoorStep → Bool
goes_on step.Need = true
goes_on step.Say = true
goes_on (step.Ready r) = false
goes_on (step.Cancel k) = false
goes_on (step.Refused f) = false

-- how often `N` is said by this answer
abbrev pub said_by : DoorStep → ℕ
said_by step.Say = 1
said_by step.Need = 0
said_by (step.Ready r) = 0
said_by (step.Cancel k) = 0
said_by (step.Refused f) = 0
