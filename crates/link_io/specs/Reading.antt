-- What it is to read just so many bytes.
use Rattle.std.specs.Prelude.{◌≡◌, ℕ, ◌+◌, ◌-◌, ◌^◌, ◌≤◌, ◌<◌, min, List, [], ◌++◌, length, take, option_map, IsTrue, IfSome, Result, Ok, Err}
use Rattle.proxy_outside.specs.Reading.{Origin, Rose}
use Rattle.proxy_links.specs.Told.{push}
use Rattle.link_io.specs.declared.read.ReadCut.{ReadCut}
use Rattle.link_io.specs.declared.read.ReadCut.TheVariants.{Fault, Ended, Late}

-- a count rose by so much, or stands at its type's end
abbrev pub RoseBy : ℕ → ℕ → ℕ → Type 0
RoseBy before by now = min (before + by) (2 ^ 64 - 1) ≤ now

-- these bytes were taken next, and it was idle at least so often
pub record ReadOn (old new : Origin) (bytes : List ℕ) (idles : ℕ) : Type 0 where
  pub taken : new.taken ≡ push old.taken bytes
  pub left : old.left ≡ option_map (λ xs. bytes ++ xs) new.left
  pub link : new.link ≡ old.link
  pub faults : old.faults ≤ new.faults
  pub waits : RoseBy old.waits idles new.waits

-- the first bytes of the buffer were read; it was idle so often before, and so often by now
pub record ReadPart (waited : ℕ) (buf : List ℕ) (old new : Origin) (at waits : ℕ) : Type 0 where
  pub within : at ≤ length buf
  pub more : waited ≤ waits
  pub read : ReadOn old new (take at buf) (waits - waited)

-- fewer bytes were read than the buffer has room for
pub record ReadShort (waited : ℕ) (buf : List ℕ) (old new : Origin) (waits : ℕ) : Type 0 where
  pub at : ℕ
  pub short : at < length buf
  pub part : ReadPart waited buf old new at waits

-- it gave its end
abbrev pub IsAtEnd : Origin → Type 0
IsAtEnd s = IsTrue s.ended × IfSome s.left (λ xs. xs ≡ [])

abbrev pub ReadsExactly : ℕ → ℕ → List ℕ → Origin → Origin → Result ℕ ReadCut → Type 0
ReadsExactly waited patience buf old new (Ok waits) = ReadPart waited buf old new (length buf) waits × (waits < patience)
ReadsExactly waited patience buf old new (Err Fault) = ((waits : ℕ) × ReadShort waited buf old new waits) × Rose old.faults new.faults
ReadsExactly waited patience buf old new (Err Ended) = ((waits : ℕ) × ReadShort waited buf old new waits) × IsAtEnd new
ReadsExactly waited patience buf old new (Err (Late n)) = ReadShort waited buf old new n × (patience ≤ n)
