-- What a body holds, seen where it stands: the same readings as those of a whole message.
use Rattle.std.specs.Prelude.{ℕ, Bool, List, [], is_some, Ok, Err}
use Rattle.std.specs.Result.{result_ok}
use Rattle.pgw_messages.specs.Reading.{Read, many_at, whole}
use Rattle.pgw_messages.specs.Fields.{fields_at}

-- what was read, or nothing where the bytes were refused
abbrev pub listed : {A : Type 0} → Read (List A) → List A
listed (Ok x) = x.0
listed (Err e) = []

-- so many items stand here, and nothing behind them
abbrev pub is_whole : {A : Type 0} → (List ℕ → Read A) → ℕ → List ℕ → Bool
is_whole item n b = is_some (result_ok (whole (many_at item n b)))

-- fields stand here, and nothing behind them
abbrev pub are_fields : List ℕ → Bool
are_fields b = is_some (result_ok (whole (fields_at b)))
