-- The limits: 64 tables, 16 columns, 100,000 rows over all tables, 256 bytes in each text.
use Rattle.std.specs.Prelude.{ℕ, zero, suc, Bool, true, ◌+◌, ◌&&◌, nat_le, List, length, Option, Some, None}
use Rattle.std.specs.List.{list_all}
use Rattle.sql_text.specs.declared.stmt.ColumnDef.{ColumnDef}
use Rattle.sql_text.specs.Numbers.{fits}
use Rattle.mini_store.specs.declared.datum.Given.{Given}
use Rattle.mini_store.specs.declared.datum.Given.TheVariants as given
use Rattle.mini_store.specs.declared.datum.Match.{Match}

abbrev pub is_short : List ℕ → Bool
is_short t = nat_le (length t) 256

abbrev pub is_small : Given → Bool
is_small (given.Number n) = fits n
is_small (given.Text t) = is_short t
is_small (given.Bound t) = is_short t

abbrev pub is_small_match : Match → Bool
is_small_match m = is_short m.column && is_small m.value

abbrev pub is_small_filter : Option Match → Bool
is_small_filter None = true
is_small_filter (Some m) = is_small_match m

abbrev pub are_small : List Given → Bool
are_small gs = list_all is_small gs

abbrev pub are_short_names : List ColumnDef → Bool
are_short_names cs = list_all (λ (c : ColumnDef). is_short c.name) cs

-- so many more rows; none always fit
abbrev pub has_room : ℕ → ℕ → Bool
has_room held zero = true
has_room held (suc n) = nat_le (held + suc n) 100000
