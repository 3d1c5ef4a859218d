-- The allow list that a tenant's entries make: whom it admits, and one entry more.
use Rattle.std.proofs.Common.{◌≡◌, ℕ, suc, ◌+◌, ◌<◌, length, take, get_or, Bool, true, false, cond, List, [], ◌∷◌, ◌++◌, Option, Some, None, refl, sym, ap, subst, ◌∙◌, arith}
use Rattle.std.specs.Prelude.{◌==◌, ◌||◌, filter, not, if◌then◌else◌, option_to_list}
use Rattle.std.specs.List.{list_any}
use Rattle.std.specs.BTreeMap as tree
use Rattle.std.specs.BTreeMap.{BTreeMap}
use Rattle.std.specs.Cmp.{unsigned_tied}
use Rattle.std.proofs.Math.Seq.{take-suc}
use Rattle.std.proofs.lemmas.List.{append-nil}
use Rattle.std.proofs.lemmas.List.Elements.{filter-append}
use Rattle.std.proofs.lemmas.Grind.{flat_map-append}
use Rattle.proxy_outside.specs.declared.addr.Addr.{Addr}
use Rattle.proxy_outside.specs.declared.identity.TenantId.{TenantId}
use Rattle.proxy_outside.specs.Orders.{tenants}
use Rattle.access_lists.specs.declared.net.Net.{Net}
use Rattle.access_lists.specs.declared.lists.Allow.{Allow}
use Rattle.access_lists.specs.Networks.{has}
use Rattle.access_lists.specs.Verdicts.{is_of, in_some, admits, is_barred}
use Rattle.access_lists.specs.Indexes.{networks, listed}

-- ---- whom it admits

in_one : (addr : Addr) (o : Option Net) (nets : List Net) → list_any (λ (n : Net). has n addr) (option_to_list o ++ nets) ≡ (in_some addr o || list_any (λ (n : Net). has n addr) nets)
in_one addr None nets = refl
in_one addr (Some net) nets = refl

admitted : (addr : Addr) (xs : List Allow) → list_any (λ (n : Net). has n addr) (networks xs) ≡ list_any (admits addr) xs
admitted addr [] = refl
admitted addr (x ∷ xs) = in_one addr x.net (networks xs) ∙ ap (λ (b : Bool). in_some addr x.net || b) (admitted addr xs)

-- there is a list, and it leaves the address out
abbrev pub barred_by : Addr → Option (List Net) → Bool
barred_by addr None = false
barred_by addr (Some nets) = not (list_any (λ (n : Net). has n addr) nets)

pub barred : (addr : Addr) (xs : List Allow) → barred_by addr (listed xs) ≡ is_barred addr xs
barred addr [] = refl
barred addr (x ∷ xs) = ap not (admitted addr (x ∷ xs))

-- ---- one entry more

abbrev pub with_net : Option Net → Option (List Net) → List Net
with_net net None = option_to_list net
with_net net (Some nets) = nets ++ option_to_list net

one_more : (xs : List Allow) (x : Allow) → listed (xs ++ x ∷ []) ≡ Some (with_net x.net (listed xs))
one_more [] x = ap Some (append-nil (option_to_list x.net))
one_more (y ∷ ys) x =
    ap Some (flat_map-append (λ (a : Allow). option_to_list a.net) (y ∷ ys) (x ∷ [])
    ∙ ap (λ (l : List Net). networks (y ∷ ys) ++ l) (append-nil (option_to_list x.net)))

same_tenant : (s t : TenantId) → (s.0 == t.0) ≡ true → s ≡ t
same_tenant s t e = let is : s.0 ≡ t.0 = grind arith in λ i. record { 0 = is i }

-- each tenant's list is what its entries make
abbrev pub AreLists : BTreeMap TenantId (List Net) → List Allow → Type 0
AreLists lists allows = (t : TenantId) → tree.get tenants lists t ≡ listed (filter (is_of t) allows)

module _ (old new : BTreeMap TenantId (List Net)) (x : Allow) (allows : List Allow) (h : AreLists old allows)
    (u : tree.Updates tenants old new x.tenant (Some (with_net x.net (tree.get tenants old x.tenant)))) where
  own : (t : TenantId) → x.tenant ≡ t → Some (with_net x.net (tree.get tenants old x.tenant)) ≡ listed (filter (is_of t) allows ++ x ∷ [])
  own t same = subst (λ (s : TenantId). Some (with_net x.net (tree.get tenants old x.tenant)) ≡ listed (filter (is_of s) allows ++ x ∷ [])) same
      (ap (λ (o : Option (List Net)). Some (with_net x.net o)) (h x.tenant) ∙ sym (one_more (filter (is_of x.tenant) allows) x))

  put : (t : TenantId) (b : Bool) → (x.tenant.0 == t.0) ≡ b
      → tree.get tenants new t ≡ cond b (Some (with_net x.net (tree.get tenants old x.tenant))) (tree.get tenants old t)
  put t b e = u.0 t ∙ ap (λ (c : Bool). cond c (Some (with_net x.net (tree.get tenants old x.tenant))) (tree.get tenants old t)) (unsigned_tied x.tenant.0 t.0 ∙ e)

  at : (t : TenantId) (b : Bool) → (x.tenant.0 == t.0) ≡ b → tree.get tenants new t ≡ listed (filter (is_of t) allows ++ (if b then x ∷ [] else []))
  at t true e = put t true e ∙ own t (same_tenant x.tenant t e)
  at t false e = put t false e ∙ h t ∙ ap listed (sym (append-nil (filter (is_of t) allows)))

  pub lists_more : AreLists new (allows ++ x ∷ [])
  lists_more t = at t (x.tenant.0 == t.0) refl ∙ ap listed (sym (filter-append (is_of t) allows (x ∷ [])))

-- a tenant's list is put, where there was none
pub lists_made : (was old new : BTreeMap TenantId (List Net)) (x : Allow) (v : List Net) → old ≡ was → None ≡ tree.get tenants was x.tenant → v ≡ option_to_list x.net
    → tree.Updates tenants old new x.tenant (Some v) → (allows : List Allow) → AreLists was allows → AreLists new (allows ++ x ∷ [])
lists_made was old new x v same none is u allows h =
    let put : tree.Updates tenants old new x.tenant (Some (with_net x.net (tree.get tenants was x.tenant)))
    = subst (λ (l : List Net). tree.Updates tenants old new x.tenant (Some l)) (is ∙ ap (with_net x.net) none) u in
    lists_more was new x allows h (subst (λ (m : BTreeMap TenantId (List Net)). tree.Updates tenants m new x.tenant (Some (with_net x.net (tree.get tenants was x.tenant)))) same put)

-- a tenant's list has one network more
pub lists_added : (old new : BTreeMap TenantId (List Net)) (x : Allow) (nets v : List Net) → Some nets ≡ tree.get tenants old x.tenant → v ≡ nets ++ option_to_list x.net
    → tree.Updates tenants old new x.tenant (Some v) → (allows : List Allow) → AreLists old allows → AreLists new (allows ++ x ∷ [])
lists_added old new x nets v some is u allows h =
    lists_more old new x allows h (subst (λ (l : List Net). tree.Updates tenants old new x.tenant (Some l)) (is ∙ ap (with_net x.net) some) u)

-- a tenant's list is put as it was
module _ (old new : BTreeMap TenantId (List Net)) (k : TenantId) (nets : List Net) (some : Some nets ≡ tree.get tenants old k) (u : tree.Updates tenants old new k (Some nets)) where
  as_before : (t : TenantId) (b : Bool) → (k.0 == t.0) ≡ b → cond b (Some nets) (tree.get tenants old t) ≡ tree.get tenants old t
  as_before t true e = subst (λ (s : TenantId). Some nets ≡ tree.get tenants old s) (same_tenant k t e) some
  as_before t false e = refl

  pub lists_stay : (allows : List Allow) → AreLists old allows → AreLists new allows
  lists_stay allows h t =
      u.0 t ∙ ap (λ (c : Bool). cond c (Some nets) (tree.get tenants old t)) (unsigned_tied k.0 t.0)
      ∙ as_before t (k.0 == t.0) refl ∙ h t

-- the lists of the first entries, and of one more
pub lists_next : (lists : BTreeMap TenantId (List Net)) (allows : List Allow) (i : ℕ) (d : Allow) → i < length allows → AreLists lists (take i allows ++ get_or allows i d ∷ []) → AreLists lists (take (i + 1) allows)
lists_next lists allows i d lt h =
    let next : i + 1 ≡ suc i = omega arith in
    let taken : take i allows ++ get_or allows i d ∷ [] ≡ take (i + 1) allows = sym (ap (λ (n : ℕ). take n allows) next ∙ take-suc allows i d lt) in
    subst (λ (p : List Allow). AreLists lists p) taken h
