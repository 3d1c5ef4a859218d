-- What the source and the sink in memory hold.
use Rattle.std.specs.Prelude.{◌==◌, ℕ, ◌+◌, ◌-◌, ◌^◌, min, Bool, List}
use Rattle.std.specs.List.{list_any}

pub record Supply : Type 0 where
  pub bytes : List ℕ
  pub at : ℕ  -- how many of them were taken
  pub piece : ℕ  -- the most bytes that one call gives
  pub idle : List ℕ  -- the calls that are idle
  pub failing : List ℕ  -- the calls that fail
  pub calls : ℕ
  pub faults : ℕ
  pub waits : ℕ
  pub ended : Bool

pub record Store : Type 0 where
  pub bytes : List ℕ
  pub piece : ℕ  -- the most bytes that one call takes
  pub failing : List ℕ  -- the calls that fail
  pub calls : ℕ
  pub faults : ℕ

-- a count that is one more, or stands at its type's end
abbrev pub raised : ℕ → ℕ
raised count = min (count + 1) (2 ^ 64 - 1)

abbrev pub is_listed : ℕ → List ℕ → Bool
is_listed call calls = list_any (λ c. c == call) calls
