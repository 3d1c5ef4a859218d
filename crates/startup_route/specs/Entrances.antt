-- What all the bytes of a client say, from its first: how often `N` is the answer, and what then comes of it.
use Rattle.std.specs.Prelude.{◌≡◌, ◌*◌, ◌+◌, ◌<◌, ℕ, zero, suc, Bool, true, false, if◌then◌else◌, nat_lt, List, ◌++◌, length, drop}
use Rattle.startup_route.specs.declared.step.DoorStep.{DoorStep}
use Rattle.startup_route.specs.declared.step.DoorStep.TheVariants as step
use Rattle.startup_route.specs.Packets.{step_of, missing}

-- The answers: so often `N`, and then a route, a key or a fault, or Need where the bytes end before that.
pub record Entrance : Type 0 where
  pub says : ℕ
  pub step : DoorStep

-- a request of eight bytes was answered, and then comes this
abbrev pub behind : DoorStep → Entrance → Entrance
behind step.Say next = record { says = next.says + 1; step = next.step }
behind step.Need next = record { says = 0; step = step.Need }
behind (step.Ready r) next = record { says = 0; step = step.Ready r }
behind (step.Cancel k) next = record { says = 0; step = step.Cancel k }
behind (step.Refused f) next = record { says = 0; step = step.Refused f }

unfoldable pub entrance_with : ℕ → List ℕ → Entrance
entrance_with zero b = record { says = 0; step = step_of 0 b }
entrance_with (suc left) b = behind (step_of (suc left) b) (entrance_with left (drop 8 b))

-- two requests are answered at most
abbrev pub entrance : List ℕ → Entrance
entrance b = entrance_with 2 b

abbrev pub is_need : DoorStep → Bool
is_need step.Need = true
is_need step.Say = false
is_need (step.Ready r) = false
is_need (step.Cancel k) = false
is_need (step.Refused f) = false

-- the bytes behind the requests that were answered
abbrev pub packet_in : List ℕ → List ℕ
packet_in b = drop (8 * (entrance b).says) b

-- how many bytes are wanted behind these
abbrev pub wanted : List ℕ → ℕ
wanted b = if is_need (entrance b).step then missing (packet_in b) else 0

-- what is answered when the one became the other
abbrev pub step_between : Entrance → Entrance → DoorStep
step_between old new = if nat_lt old.says new.says then step.Say else new.step

-- ---- laws

-- Once the answer is known, further bytes change nothing.
abbrev pub NothingBehindCounts : Type 0
NothingBehindCounts = (b more : List ℕ) → is_need (entrance b).step ≡ false → entrance (b ++ more) ≡ entrance b

-- Some bytes are wanted until the answer is known; and with fewer than are wanted nothing is known that wasn't.
abbrev pub EachWantedIsNeeded : Type 0
EachWantedIsNeeded = (b more : List ℕ) → is_need (entrance b).step ≡ true → (0 < wanted b) × (length more < wanted b → entrance (b ++ more) ≡ entrance b)
