-- A read of a source into memory that a stream holds.
use Rattle.std.specs.Prelude.{◌≡◌, ℕ, ◌+◌, ◌≤◌, Bool, List, ◌++◌, length, take}
use Rattle.pgw_frames.specs.declared.frame.Frame.{Frame}
use Rattle.proxy_outside.specs.Reading.{Origin, Reads}
use Rattle.proxy_outside.specs.declared.source.Took.{Took}
use Rattle.proxy_outside.specs.declared.source.Took.TheVariants.{Got, End, Idle, Failed}

-- how many bytes a read took
abbrev pub count_of : Took → ℕ
count_of (Got n) = n
count_of End = 0
count_of Idle = 0
count_of Failed = 0

-- one read into a buffer of at most 8,192 bytes, which took these
pub record ReadsSome (t : Took) (old new : Origin) (bytes : List ℕ) : Type 0 where
  pub before : List ℕ
  pub after : List ℕ
  pub most : length before ≤ 8192
  pub reads : Reads t old new before after
  pub are : bytes ≡ take (count_of t) after
  pub count : length bytes ≡ count_of t

-- such a read, and what it took was fed
abbrev pub Fills : {P : Type 0} → (P → List ℕ → List Frame → Bool → Type 0) → P → P → Took → Origin → Origin → Type 0
Fills {P} stands p q t old new =
    (bytes : List ℕ) × ReadsSome t old new bytes
    × ((fed : List ℕ) (handed : List Frame) (suspended : Bool) → stands p fed handed suspended → stands q (fed ++ bytes) handed suspended)

-- such a read, whose bytes stand behind the first bytes of a buffer
pub record ReadsBehind (t : Took) (old new : Origin) (end : ℕ) (before after : List ℕ) : Type 0 where
  pub bytes : List ℕ
  pub some : ReadsSome t old new bytes
  pub length_is : length after ≡ length before
  pub within : end + count_of t ≤ length after
  pub stand : take (end + count_of t) after ≡ take end before ++ bytes
