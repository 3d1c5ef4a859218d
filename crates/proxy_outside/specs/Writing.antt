-- What a write does to a sink.
use Rattle.std.specs.Prelude.{◌≡◌, ℕ, ◌≤◌, List, ◌++◌, length, take, Option, option_map}
use Rattle.proxy_outside.specs.Reading.{Rose}
use Rattle.proxy_outside.specs.declared.sink.Gave.{Gave}
use Rattle.proxy_outside.specs.declared.sink.Gave.TheVariants.{Took, Failed}

pub record Target : Type 0 where
  pub contents : Option (List ℕ)
  pub faults : ℕ
  pub link : ℕ

abbrev pub Appends : Target → Target → List ℕ → Type 0
Appends old new bytes = new.contents ≡ option_map (λ xs. xs ++ bytes) old.contents

abbrev pub WriteCase : Gave → Target → Target → List ℕ → Type 0
WriteCase (Took n) old new bytes = (1 ≤ n) × (n ≤ length bytes) × Appends old new (take n bytes)
WriteCase Failed old new bytes = (new.contents ≡ old.contents) × Rose old.faults new.faults

pub record Writes (g : Gave) (old new : Target) (bytes : List ℕ) : Type 0 where
  pub by_case : WriteCase g old new bytes
  pub faults : old.faults ≤ new.faults
  pub link : new.link ≡ old.link
