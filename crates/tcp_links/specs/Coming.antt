-- What a read of a socket gave.
use Rattle.std.specs.Prelude.{◌≡◌, ℕ, ◌≤◌, List, length, drop}
use Rattle.tcp_links.specs.declared.inflow.Came.{Came}
use Rattle.tcp_links.specs.declared.inflow.Came.TheVariants.{Bytes, End, Nothing, Fault}

-- so many bytes stand at the front of the buffer, and the others stay
abbrev pub Comes : Came → List ℕ → List ℕ → Type 0
Comes (Bytes n) before after = (1 ≤ n) × (n ≤ length before) × (drop n after ≡ drop n before)
Comes End before after = after ≡ before
Comes Nothing before after = after ≡ before
Comes Fault before after = after ≡ before

-- no bytes came, and it didn't end
abbrev pub IsNone : Came → Type 0
IsNone (Bytes n) = ⊥
IsNone End = ⊥
IsNone Nothing = Unit {0}
IsNone Fault = Unit {0}
