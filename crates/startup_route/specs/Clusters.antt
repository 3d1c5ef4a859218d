-- How a startup packet names its cluster: in the words of `options` that begin `--cluster=`, and in `database` before its
-- first dot.
use Rattle.std.specs.Prelude.{◌==◌, ℕ, nat_lt, Bool, not, if◌then◌else◌, List, [], ◌∷◌, ◌++◌, length, drop, map, filter, codes, nat_eq, Result, Ok, Err}
use denote.Ref.{Bor}
use Rattle.std.specs.List.{slice_split, starts_with, list_any, list_all, before_first, after_first, join_with_byte}
use Rattle.std.specs.Str.{bytes_eq}
use Rattle.startup_route.specs.declared.fault.DoorFault.{DoorFault}
use Rattle.startup_route.specs.declared.fault.DoorFault.TheVariants as fault

-- what these references lead to
abbrev pub texts : List (Bor (List ℕ)) → List (List ℕ)
texts ws = map (λ w. w.now) ws

abbrev pub is_blank : ℕ → Bool
is_blank c = c == 32

abbrev pub is_dot : ℕ → Bool
is_dot c = c == 46

-- ---- options

abbrev pub has_bytes : List ℕ → Bool
has_bytes text = nat_lt 0 (length text)

-- what stands between blanks
abbrev pub words : List ℕ → List (List ℕ)
words options = filter has_bytes (slice_split is_blank options)

abbrev pub names_cluster : List ℕ → Bool
names_cluster word = starts_with nat_eq word (codes "--cluster=")

-- the name in such a word
abbrev pub name_in : List ℕ → List ℕ
name_in word = drop 10 word

-- the names in these words
abbrev pub named : List (List ℕ) → List (List ℕ)
named ws = map name_in (filter names_cluster ws)

-- the other words
abbrev pub other_words : List (List ℕ) → List (List ℕ)
other_words ws = filter (λ w. not (names_cluster w)) ws

-- what is left of the options
abbrev pub options_left : List ℕ → List ℕ
options_left options = join_with_byte 32 (other_words (words options))

-- ---- database

abbrev pub has_dot : List ℕ → Bool
has_dot database = list_any is_dot database

abbrev pub prefixes : List ℕ → List (List ℕ)
prefixes database = if has_dot database then before_first is_dot database ∷ [] else []

-- what is left of the database
abbrev pub database_left : List ℕ → List ℕ
database_left database = if has_dot database then after_first is_dot database else database

-- ---- the cluster

-- all that are named, in order
abbrev pub names : List ℕ → List ℕ → List (List ℕ)
names options database = named (words options) ++ prefixes database

-- the one that all of these names are
abbrev pub one_of : List (List ℕ) → Result (List ℕ) DoorFault
one_of [] = Err fault.NoCluster
one_of (x ∷ xs) = if list_all (bytes_eq x) xs then Ok x else Err fault.TwoClusters
