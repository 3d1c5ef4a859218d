-- The verdict on a client, over all the entries.
use Rattle.std.specs.Prelude.{◌==◌, ℕ, ◌+◌, ◌-◌, ◌^◌, ◌&&◌, min, nat_lt, not, Bool, true, false, if◌then◌else◌, List, [], ◌∷◌, filter, Option, Some, None}
use Rattle.std.specs.List.{list_any}
use Rattle.proxy_outside.specs.declared.addr.Addr.{Addr}
use Rattle.proxy_outside.specs.declared.identity.TenantId.{TenantId}
use Rattle.access_lists.specs.declared.net.Net.{Net}
use Rattle.access_lists.specs.declared.deny.Who.{Who}
use Rattle.access_lists.specs.declared.deny.Who.TheVariants.{Network, Tenant}
use Rattle.access_lists.specs.declared.deny.Deny.{Deny}
use Rattle.access_lists.specs.declared.lists.Allow.{Allow}
use Rattle.access_lists.specs.declared.verdict.Verdict.{Verdict}
use Rattle.access_lists.specs.declared.verdict.Verdict.TheVariants.{Pass, Denied, NotAllowed}
use Rattle.access_lists.specs.Networks.{has}

-- all entries that were added, in order
pub record Entries : Type 0 where
  pub denies : List Deny
  pub allows : List Allow

-- ---- deny entries

abbrev pub names : Who → Addr → TenantId → Bool
names (Network net) addr tenant = has net addr
names (Tenant named) addr tenant = named.0 == tenant.0

-- an entry stands before the moment that ends it
abbrev pub is_live : Option ℕ → ℕ → Bool
is_live None now = true
is_live (Some until) now = nat_lt now until

abbrev pub matches : Addr → TenantId → ℕ → Deny → Bool
matches addr tenant now d = is_live d.until now && names d.who addr tenant

-- the places of all items that pass the test, in order, where the first item stands at n
abbrev pub places_from : {A : Type 0} → (A → Bool) → ℕ → List A → List ℕ
places_from passes n [] = []
places_from passes n (x ∷ xs) = if passes x then n ∷ places_from passes (n + 1) xs else places_from passes (n + 1) xs

-- ---- allow lists

abbrev pub is_of : TenantId → Allow → Bool
is_of tenant allow = allow.tenant.0 == tenant.0

abbrev pub in_some : Addr → Option Net → Bool
in_some addr None = false
in_some addr (Some net) = has net addr

abbrev pub admits : Addr → Allow → Bool
admits addr allow = in_some addr allow.net

-- there is an allow list, and no network of it has the address
abbrev pub is_barred : Addr → List Allow → Bool
is_barred addr [] = false
is_barred addr (x ∷ xs) = not (list_any (admits addr) (x ∷ xs))

-- ---- the verdict

-- by the places of the deny entries that match, and the tenant's allow list
abbrev pub answer : List ℕ → Bool → Verdict
answer (i ∷ is) barred = Denied (min i (2 ^ 32 - 1))
answer [] true = NotAllowed
answer [] false = Pass

abbrev pub verdict : Entries → Addr → TenantId → ℕ → Verdict
verdict lists addr tenant now = answer (places_from (matches addr tenant now) 0 lists.denies) (is_barred addr (filter (is_of tenant) lists.allows))
