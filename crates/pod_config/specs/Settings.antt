-- A pod's settings in a table, or the first fault: the walk through its keys.
use Rattle.std.specs.Prelude.{ℕ, List, ◌∷◌, [], length, Bool, true, false, nat_lt, ◌||◌, if◌then◌else◌, codes, Option, Some, None, ok_or, Ok, Err}
use Rattle.std.specs.List.{list_any}
use Rattle.std.specs.Str.{bytes_eq}
use Rattle.toml.specs.Data.{Data, Members, Items, as_array}
use Rattle.proxy_config.specs.Reading.{Reading, ◌>>=◌, entries, spot_at}
use Rattle.proxy_config.specs.Sections.{Part, key_of, part_at, known, needed, number, text, list}
use Rattle.proxy_config.specs.Settings.{most_number, most_moment, table_of}
use Rattle.proxy_config.specs.declared.fault.SettingsFault.TheVariants.{NotToml, Missing, WrongKind, OutOfRange, Twice}
use Rattle.proxy_config.specs.declared.settings.Spot.{Spot}
use Rattle.pod_conn.specs.declared.settings.User.{User}
use Rattle.pod_config.specs.declared.settings.PodFile.{PodFile}
use Rattle.pod_config.specs.declared.read.Identity.{Identity}

-- ---- the secret

-- a text of 16 to 1,024 bytes
abbrev pub sized : List ℕ → List ℕ → Reading (List ℕ)
sized key secret = if nat_lt (length secret) 16 || nat_lt 1024 (length secret) then Err (OutOfRange key) else Ok secret

abbrev pub secret : Part → Reading (List ℕ)
secret p = text (codes "secret") p >>= sized (key_of p (codes "secret"))

-- ---- places

abbrev pub place_at : List Spot → List ℕ → Data → Reading Spot
place_at before key d = spot_at key d

-- there is a place at least
abbrev pub some_place : List ℕ → List Spot → Reading (List Spot)
some_place key [] = Err (OutOfRange key)
some_place key (s ∷ spots) = Ok (s ∷ spots)

-- a list that is required
abbrev pub needed_items : List ℕ → Part → Reading Items
needed_items name p = needed p name >>= λ d. ok_or (as_array d) (WrongKind (key_of p name))

abbrev pub places : Part → Reading (List Spot)
places p = needed_items (codes "listen") p >>= λ ds. entries place_at (key_of p (codes "listen")) [] ds >>= some_place (key_of p (codes "listen"))

-- ---- users

abbrev pub user_keys : List (List ℕ)
user_keys = codes "name" ∷ codes "password" ∷ []

-- the name, where no earlier entry has it
abbrev pub first_named : List ℕ → Bool → List ℕ → Reading (List ℕ)
first_named key true name = Err (Twice key)
first_named key false name = Ok name

abbrev pub user_of : List User → Part → Reading User
user_of before table = do
  p ← known user_keys table
  n ← text (codes "name") p
  name ← first_named (key_of p (codes "name")) (list_any (λ u. bytes_eq u.name n) before) n
  password ← text (codes "password") p
  Ok (record { name = name; password = password })

abbrev pub user_at : List User → List ℕ → Data → Reading User
user_at before key d = part_at key d >>= user_of before

abbrev pub users : Part → Reading (List User)
users p = needed_items (codes "user") p >>= entries user_at (key_of p (codes "user")) []

-- ---- all

abbrev pub all_keys : List (List ℕ)
all_keys = codes "tenant" ∷ codes "secret" ∷ codes "token_until" ∷ codes "listen" ∷ codes "user" ∷ []

-- the tenant, and what its tokens need
abbrev pub identity : Part → Reading Identity
identity p = do
  tenant ← number 1 most_number (codes "tenant") p
  secret ← secret p
  until ← number 0 most_moment (codes "token_until") p
  Ok (record { tenant = record { 0 = tenant }; secret = secret; token_until = until })

abbrev pub settings_in : Part → Reading PodFile
settings_in table = do
  p ← known all_keys table
  i ← identity p
  listen ← places p
  users ← users p
  Ok (record { pod = record { tenant = i.tenant; secret = i.secret; token_until = i.token_until; users = users }; listen = listen })

-- the settings of a table, or its first fault
unfoldable pub settings_of : Members → Reading PodFile
settings_of members = settings_in (record { path = []; members = members })

-- the settings of a text
abbrev pub settings_of_text : List ℕ → Reading PodFile
settings_of_text text = ok_or (table_of text) NotToml >>= settings_of
