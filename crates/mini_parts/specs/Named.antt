-- A copy of statements, one after the other.
use Rattle.std.specs.Prelude.{ℕ, List, Option, Some, None, if◌then◌else◌}
use Rattle.session_blob.specs.Prepared.{Prepared, is_prepared_as, with_statement}

-- the statement stands last, unless it has this name
abbrev pub put_other : List ℕ → Option Prepared → List Prepared → List Prepared
put_other name None rest = rest
put_other name (Some x) rest = if is_prepared_as name x then rest else with_statement x.name x.query x.types rest
