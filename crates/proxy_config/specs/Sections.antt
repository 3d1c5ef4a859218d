-- A table of the settings, and what is read from it by name.
use Rattle.std.specs.Prelude.{ℕ, ◌++◌, [], List, if◌then◌else◌, codes, Option, Some, None, ok_or, Ok, Err}
use Rattle.std.specs.List.{list_any}
use Rattle.std.specs.Str.{bytes_eq}
use Rattle.toml.specs.Data.{Data, as_array, as_table, Items, Members, no_members, member, get_member}
use Rattle.toml.specs.View.{table_view}
use Rattle.proxy_config.specs.declared.section.Section.{Section}
use Rattle.proxy_config.specs.declared.settings.Spot.{Spot}
use Rattle.proxy_config.specs.declared.fault.SettingsFault.TheVariants.{UnknownKey, Missing, WrongKind}
use Rattle.proxy_config.specs.Reading.{Reading, ◌>>=◌, number_at, text_at, spot_at, entries}

-- what stands before a key where a fault names it, and the table's members
pub record Part : Type 0 where
  pub path : List ℕ
  pub members : Members

abbrev pub part_of : Section → Part
part_of s = record { path = s.path.now; members = table_view s.table.now }

abbrev pub key_of : Part → List ℕ → List ℕ
key_of p name = p.path ++ name

-- the table at a key
abbrev pub part_at : List ℕ → Data → Reading Part
part_at key d = ok_or (as_table d) (WrongKind key) >>= λ members. Ok (record { path = key ++ codes "."; members = members })

-- ---- unknown keys

-- the first key that is none of the names; keys stand in byte order
abbrev pub first_other : List (List ℕ) → Members → Option (List ℕ)
first_other names no_members = None
first_other names (member k d ms) = if list_any (bytes_eq k) names then first_other names ms else Some k

abbrev pub by_other : Part → Option (List ℕ) → Reading Part
by_other p (Some name) = Err (UnknownKey (key_of p name))
by_other p None = Ok p

-- the table, which has none but these keys
abbrev pub known : List (List ℕ) → Part → Reading Part
known names p = by_other p (first_other names p.members)

-- ---- values by name

abbrev pub needed : Part → List ℕ → Reading Data
needed p name = ok_or (get_member name p.members) (Missing (key_of p name))

abbrev pub number : ℕ → ℕ → List ℕ → Part → Reading ℕ
number least most name p = needed p name >>= number_at least most (key_of p name)

abbrev pub some_number : ℕ → ℕ → List ℕ → Option Data → Reading (Option ℕ)
some_number least most key None = Ok None
some_number least most key (Some d) = number_at least most key d >>= λ n. Ok (Some n)

-- a number that may be missing
abbrev pub optional_number : ℕ → ℕ → List ℕ → Part → Reading (Option ℕ)
optional_number least most name p = some_number least most (key_of p name) (get_member name p.members)

abbrev pub or_number : ℕ → ℕ → ℕ → List ℕ → Option Data → Reading ℕ
or_number default least most key None = Ok default
or_number default least most key (Some d) = number_at least most key d

-- a number that has a default
abbrev pub number_or : ℕ → ℕ → ℕ → List ℕ → Part → Reading ℕ
number_or default least most name p = or_number default least most (key_of p name) (get_member name p.members)

abbrev pub text : List ℕ → Part → Reading (List ℕ)
text name p = needed p name >>= text_at (key_of p name)

abbrev pub spot : List ℕ → Part → Reading Spot
spot name p = needed p name >>= spot_at (key_of p name)

-- ---- lists by name

abbrev pub some_items : List ℕ → Option Data → Reading (Option Items)
some_items key None = Ok None
some_items key (Some d) = ok_or (as_array d) (WrongKind key) >>= λ ds. Ok (Some ds)

-- a list that may be missing
abbrev pub items : List ℕ → Part → Reading (Option Items)
items name p = some_items (key_of p name) (get_member name p.members)

abbrev pub entries_of : {A : Type 0} → (List A → List ℕ → Data → Reading A) → List ℕ → Option Items → Reading (List A)
entries_of at key None = Ok []
entries_of at key (Some ds) = entries at key [] ds

-- the entries of a list, which are none where it is missing
abbrev pub list : {A : Type 0} → (List A → List ℕ → Data → Reading A) → List ℕ → Part → Reading (List A)
list at name p = items name p >>= entries_of at (key_of p name)
