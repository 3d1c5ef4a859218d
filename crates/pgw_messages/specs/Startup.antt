-- The startup packet (PostgreSQL manual, Message Formats, StartupMessage): a length that counts itself, the
-- version 3.0, the parameters as zero-ended names and values, and a zero byte.
use Rattle.std.specs.Prelude.{ℕ, ◌+◌, ◌<◌, ◌≤◌, List, [], ◌∷◌, ◌++◌, length, Result, Ok}
use Rattle.std.specs.Int.{w32, to_be_bytes}
use Rattle.std.specs.List.{flat_map}
use Rattle.pgw_messages.specs.declared.params.Pair.{Pair}
use Rattle.pgw_messages.specs.declared.fault.MsgFault.{MsgFault}
use Rattle.pgw_messages.specs.Params.{put_all}
use Rattle.pgw_messages.specs.Spelling.{HasNoZero, IsText}
use Rattle.pgw_messages.specs.Reading.{Read, ◌>>=◌, text_at, ended_at, whole}

abbrev pub pair_bytes : Pair → List ℕ
pair_bytes q = q.name ++ 0 ∷ q.value ++ 0 ∷ []

abbrev pub startup_body : List Pair → List ℕ
startup_body p = to_be_bytes w32 196608 ++ flat_map pair_bytes p ++ 0 ∷ []

unfoldable pub startup_packet : List Pair → List ℕ
startup_packet p = to_be_bytes w32 (length (startup_body p) + 4) ++ startup_body p

-- the startup packet of these parameters is within its limit
abbrev pub Fits : List Pair → Type 0
Fits p = length (startup_packet p) ≤ 11900000

-- what stands behind the version
abbrev pub params_bytes : List Pair → List ℕ
params_bytes p = flat_map pair_bytes p ++ 0 ∷ []

-- ---- the parameters as they are read

abbrev pub pair_at : List ℕ → Read Pair
pair_at b = do
  name ← text_at b
  value ← text_at name.1
  Ok (record { name = name.0; value = value.0 }, value.1)

pub record IsPair (q : Pair) : Type 0 where
  pub name : IsText q.name
  pub value : IsText q.value

-- pairs up to a zero byte
unfoldable pub pairs_at : List ℕ → Read (List Pair)
pairs_at b = do
  pairs ← ended_at pair_at (length b) b
  Ok (put_all [] pairs.0, pairs.1)

-- what stands behind the version
unfoldable pub params_of : List ℕ → Result (List Pair) MsgFault
params_of b = whole (pairs_at b)

-- a pair that can be told from the end of the packet
pub record IsParam (q : Pair) : Type 0 where
  pub some : 0 < length q.name
  pub pair : IsPair q

-- a pair that can be told from the end of the packet, and whose texts end where they end
pub record CanWriteParam (q : Pair) : Type 0 where
  pub some : 0 < length q.name
  pub name : HasNoZero q.name
  pub value : HasNoZero q.value
