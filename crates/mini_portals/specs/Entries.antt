-- The entries of a map as portals.
use Rattle.std.specs.Prelude.{ℕ, List, map, string_bytes}
use Rattle.std.specs.declared.string.String.{String}
use Rattle.std.specs.declared.alloc.Global.{Global}
use Rattle.mini_kind.specs.Mini.{Portal}
use Rattle.mini_portals.specs.declared.portals.BoundStmt.{BoundStmt}

-- a bound statement under a name
abbrev pub portal : List ℕ → BoundStmt → Portal
portal n b = record { name = n; stmt = b.stmt; texts = b.texts }

abbrev pub portals_of : List (String Global × BoundStmt) → List Portal
portals_of es = map (λ e. portal (string_bytes e.0) e.1) es
