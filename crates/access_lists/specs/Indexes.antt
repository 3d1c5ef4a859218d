-- The allow lists of all tenants, against all allow entries.
use Rattle.std.specs.Prelude.{◌≡◌, List, [], ◌∷◌, filter, Option, Some, None, option_to_list}
use Rattle.std.specs.List.{flat_map}
use Rattle.std.specs.BTreeMap as tree
use Rattle.proxy_outside.specs.declared.identity.TenantId.{TenantId}
use Rattle.proxy_outside.specs.Orders.{tenants}
use Rattle.access_lists.specs.declared.net.Net.{Net}
use Rattle.access_lists.specs.declared.lists.Allow.{Allow}
use Rattle.access_lists.specs.declared.by_tenant.ByTenant.{ByTenant}
use Rattle.access_lists.specs.Verdicts.{is_of}

-- the networks of these entries
abbrev pub networks : List Allow → List Net
networks xs = flat_map (λ (x : Allow). option_to_list x.net) xs

-- the list that a tenant's entries make, or none where there is no entry
abbrev pub listed : List Allow → Option (List Net)
listed [] = None
listed (x ∷ xs) = Some (networks (x ∷ xs))

-- each tenant has the list that its entries make
abbrev pub Indexes : ByTenant → List Allow → Type 0
Indexes by allows = (tenant : TenantId) → tree.get tenants by.lists tenant ≡ listed (filter (is_of tenant) allows)
