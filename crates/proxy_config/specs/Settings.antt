-- The settings of a table, or the first fault: the walk through its keys.
use Rattle.std.specs.Prelude.{ℕ, ◌==◌, ◌+◌, ◌++◌, ◌∷◌, [], List, map, Bool, true, false, if◌then◌else◌, nat_lt, codes, Option, Some, None, ok_or, Ok, Err}
use Rattle.std.specs.List.{list_any}
use Rattle.std.specs.Str.{bytes_eq, is_utf8}
use Rattle.toml.specs.Data.{Data, Members, Items, no_items, item, get_member}
use Rattle.toml.specs.Parse.{parse_document}
use Rattle.proxy_outside.specs.declared.identity.TenantId.{TenantId}
use Rattle.access_lists.specs.Verdicts.{Entries}
use Rattle.access_lists.specs.declared.net.Net.{Net}
use Rattle.access_lists.specs.declared.deny.Who.{Who}
use Rattle.access_lists.specs.declared.deny.Who.TheVariants.{Network, Tenant}
use Rattle.access_lists.specs.declared.deny.Deny.{Deny}
use Rattle.access_lists.specs.declared.lists.Allow.{Allow as Entry}
use Rattle.tenant_directory.specs.declared.pod.Pod.{Pod}
use Rattle.tenant_directory.specs.declared.pod.PodState.{PodState}
use Rattle.tenant_directory.specs.declared.pod.PodState.TheVariants.{Running, Draining}
use Rattle.tenant_directory.specs.Rows.{TenantPods}
use Rattle.proxy_config.specs.declared.settings.Spot.{Spot}
use Rattle.proxy_config.specs.declared.settings.Allow.{Allow}
use Rattle.proxy_config.specs.declared.settings.Settings.{Settings}
use Rattle.proxy_config.specs.declared.fault.SettingsFault.TheVariants.{NotToml, Missing, OutOfRange, Twice}
use Rattle.proxy_config.specs.Reading.{Reading, ◌>>=◌, number_at, net_at, entries}
use Rattle.proxy_config.specs.Sections.{Part, key_of, part_at, known, number, optional_number, number_or, text, spot, items, list}

-- ---- the ranges

-- of tenants' and pods' numbers
abbrev pub most_number : ℕ
most_number = 4294967295

-- of versions and moments
abbrev pub most_moment : ℕ
most_moment = 9223372036854775807

-- ---- deny entries

abbrev pub deny_keys : List (List ℕ)
deny_keys = codes "network" ∷ codes "tenant" ∷ codes "until" ∷ codes "reason" ∷ []

-- one of both is there
abbrev pub who_of : Part → Option Data → Option Data → Reading Who
who_of p (Some d) None = net_at (key_of p (codes "network")) d >>= λ net. Ok (Network net)
who_of p None (Some d) = number_at 1 most_number (key_of p (codes "tenant")) d >>= λ n. Ok (Tenant (record { 0 = n }))
who_of p (Some d) (Some e) = Err (Missing (key_of p (codes "network")))
who_of p None None = Err (Missing (key_of p (codes "network")))

abbrev pub who : Part → Reading Who
who p = who_of p (get_member (codes "network") p.members) (get_member (codes "tenant") p.members)

abbrev pub deny_of : Part → Reading Deny
deny_of table = do
  p ← known deny_keys table
  who ← who p
  until ← optional_number 0 most_moment (codes "until") p
  reason ← text (codes "reason") p
  Ok (record { who = who; until = until; reason = reason })

abbrev pub deny_at : List Deny → List ℕ → Data → Reading Deny
deny_at before key d = part_at key d >>= deny_of

-- ---- numbers that stand once

-- the number, where no earlier entry has it
abbrev pub once : List ℕ → Bool → ℕ → Reading ℕ
once key true n = Err (Twice key)
once key false n = Ok n

-- ---- allow entries

abbrev pub allow_keys : List (List ℕ)
allow_keys = codes "tenant" ∷ codes "networks" ∷ []

abbrev pub network_at : List Net → List ℕ → Data → Reading Net
network_at before key d = net_at key d

abbrev pub allow_of : List Allow → Part → Reading Allow
allow_of before table = do
  p ← known allow_keys table
  n ← number 1 most_number (codes "tenant") p
  tenant ← once (key_of p (codes "tenant")) (list_any (λ a. a.tenant.0 == n) before) n
  networks ← list network_at (codes "networks") p
  Ok (record { tenant = record { 0 = tenant }; networks = networks })

abbrev pub allow_at : List Allow → List ℕ → Data → Reading Allow
allow_at before key d = part_at key d >>= allow_of before

-- ---- pods

abbrev pub pod_keys : List (List ℕ)
pod_keys = codes "number" ∷ codes "place" ∷ codes "state" ∷ []

abbrev pub state_of : List ℕ → Option PodState
state_of word = if bytes_eq word (codes "running") then Some Running else (if bytes_eq word (codes "draining") then Some Draining else None)

abbrev pub state : Part → Reading PodState
state p = text (codes "state") p >>= λ word. ok_or (state_of word) (OutOfRange (key_of p (codes "state")))

abbrev pub pod_by : ℕ → Spot → PodState → Pod
pod_by number spot state = record { place = record { pod = record { 0 = number }; addr = spot.addr; port = spot.port }; state = state }

abbrev pub pod_of : List Pod → Part → Reading Pod
pod_of before table = do
  p ← known pod_keys table
  n ← number 1 most_number (codes "number") p
  pod ← once (key_of p (codes "number")) (list_any (λ q. q.place.pod.0 == n) before) n
  spot ← spot (codes "place") p
  state ← state p
  Ok (pod_by pod spot state)

abbrev pub pod_at : List Pod → List ℕ → Data → Reading Pod
pod_at before key d = part_at key d >>= pod_of before

-- ---- tenants

abbrev pub tenant_keys : List (List ℕ)
tenant_keys = codes "id" ∷ codes "version" ∷ codes "pod" ∷ []

abbrev pub count : Items → ℕ
count no_items = 0
count (item d ds) = 1 + count ds

-- at most 1,000 pods, which are counted before one is read
abbrev pub pods_of : List ℕ → Option Items → Reading (List Pod)
pods_of key None = Ok []
pods_of key (Some ds) = if nat_lt 1000 (count ds) then Err (OutOfRange key) else entries pod_at key [] ds

abbrev pub pods : Part → Reading (List Pod)
pods p = items (codes "pod") p >>= pods_of (key_of p (codes "pod"))

abbrev pub row_of : List TenantPods → Part → Reading TenantPods
row_of before table = do
  p ← known tenant_keys table
  n ← number 1 most_number (codes "id") p
  tenant ← once (key_of p (codes "id")) (list_any (λ r. r.tenant.0 == n) before) n
  version ← number 0 most_moment (codes "version") p
  pods ← pods p
  Ok (record { tenant = record { 0 = tenant }; version = version; pods = pods })

abbrev pub row_at : List TenantPods → List ℕ → Data → Reading TenantPods
row_at before key d = part_at key d >>= row_of before

-- ---- all

abbrev pub all_keys : List (List ℕ)
all_keys = codes "listen" ∷ codes "period" ∷ codes "patience" ∷ codes "login_waits" ∷ codes "deny" ∷ codes "allow" ∷ codes "tenant" ∷ []

abbrev pub settings_in : Part → Reading Settings
settings_in table = do
  p ← known all_keys table
  listen ← spot (codes "listen") p
  period ← number_or 10 1 1000000 (codes "period") p
  patience ← number_or 150 1 1000000 (codes "patience") p
  login_waits ← number_or 600 1 1000000 (codes "login_waits") p
  deny ← list deny_at (codes "deny") p
  allow ← list allow_at (codes "allow") p
  tenants ← list row_at (codes "tenant") p
  Ok (record { listen = listen; period = period; patience = patience; login_waits = login_waits; deny = deny; allow = allow; tenants = tenants })

-- the settings of a table, or its first fault
unfoldable pub settings_of : Members → Reading Settings
settings_of members = settings_in (record { path = []; members = members })

-- the table of a text, which is TOML in UTF-8
abbrev pub table_of : List ℕ → Option Members
table_of text = if is_utf8 text then parse_document text else None

-- the settings of a text
abbrev pub settings_of_text : List ℕ → Reading Settings
settings_of_text text = ok_or (table_of text) NotToml >>= settings_of

-- ---- the lists of the settings

-- the entries of one tenant's allow list
abbrev pub allowed : TenantId → List Net → List Entry
allowed tenant nets = map (λ net. record { tenant = tenant; net = Some net }) nets

abbrev pub entry_of : TenantId → List Net → List Entry
entry_of tenant [] = record { tenant = tenant; net = None } ∷ []
entry_of tenant (net ∷ nets) = allowed tenant (net ∷ nets)

abbrev pub all_allowed : List Allow → List Entry
all_allowed [] = []
all_allowed (a ∷ others) = entry_of a.tenant a.networks ++ all_allowed others

abbrev pub entries_of : Settings → Entries
entries_of s = record { denies = s.deny; allows = all_allowed s.allow }
