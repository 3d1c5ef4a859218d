-- What is written is read again.
use Rattle.std.specs.Prelude.{◌≡◌, ◌++◌, List, Ok}
use Rattle.std.specs.Int.{w32, to_be_bytes}
use Rattle.std.specs.List.{AllByRecursion}
use Rattle.pgw_messages.specs.declared.params.Pair.{Pair}
use Rattle.pgw_messages.specs.declared.frontend.message.FrontMsg.{FrontMsg}
use Rattle.pgw_messages.specs.declared.backend.message.BackMsg.{BackMsg}
use Rattle.pgw_messages.specs.Params.{HasDistinctNames}
use Rattle.pgw_messages.specs.Startup.{startup_body, params_bytes, params_of, IsParam}
use Rattle.pgw_messages.specs.Frontend.{front_of, front_frame, IsFront, HasFrontFields}
use Rattle.pgw_messages.specs.Backend.{back_of, back_frame, IsBack, HasBackFields}

abbrev pub FrontIsReadAgain : Type 0
FrontIsReadAgain = (m : FrontMsg) → IsFront m → front_of (front_frame m) ≡ Ok m

abbrev pub BackIsReadAgain : Type 0
BackIsReadAgain = (m : BackMsg) → IsBack m → back_of (back_frame m) ≡ Ok m

-- parameters are read again from what stands behind the version of their packet
abbrev pub ParamsAreReadAgain : Type 0
ParamsAreReadAgain = (p : List Pair) → HasDistinctNames p → AllByRecursion IsParam p → (startup_body p ≡ to_be_bytes w32 196608 ++ params_bytes p) × (params_of (params_bytes p) ≡ Ok p)

-- a message that is read is read again from its frame, where its body is within the limit
abbrev pub FrontCanBeWritten : Type 0
FrontCanBeWritten = (m : FrontMsg) → IsFront m → HasFrontFields m

abbrev pub BackCanBeWritten : Type 0
BackCanBeWritten = (m : BackMsg) → IsBack m → HasBackFields m
