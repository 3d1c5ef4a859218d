-- A tenant that was added and is taken out again.
use Rattle.std.proofs.Common.{◌≡◌, Bool, true, false, not, List, [], ◌∷◌, refl, sym, ap, ◌∙◌, true≢false}
use Rattle.std.specs.Prelude.{if◌then◌else◌}
use Rattle.std.specs.BTreeMap.{is_at}
use Rattle.std.specs.Cmp.{tied_itself}
use Rattle.std.specs.List.{list_any}
use Rattle.std.specs.declared.cmp.Ordering.{Ordering}
use Rattle.std.specs.declared.cmp.Ordering.TheVariants.{Less, Equal, Greater}
use Rattle.proxy_outside.specs.Orders.{tenants, tenants_total}
use Rattle.proxy_outside.specs.declared.identity.TenantId.{TenantId}
use Rattle.proxy_hub.specs.declared.command.HubCommand.TheVariants.{Update}
use Rattle.proxy_hub.specs.declared.reply.HubReply.{HubReply}
use Rattle.proxy_hub.specs.declared.reply.HubReply.TheVariants.{Done, Stale, Admitted, No, Key, Picked, MoveTo, Stay, Moves, Found, NoKey, NoSession}
use Rattle.tenant_directory.specs.Rows.{TenantPods}
use Rattle.pod_drain.specs.Watching.{with_tenant, without_tenant, watch_with, is_done}

added_removed : (t : TenantId) (w : List TenantId) → list_any (is_at (tenants t)) w ≡ false → without_tenant t (with_tenant t w) ≡ w
added_removed t [] h = rw (tied_itself tenants_total t) refl
added_removed t (x ∷ xs) h = by (added_removed t xs) (tenants t x) refl
  where
    by : (list_any (is_at (tenants t)) xs ≡ false → without_tenant t (with_tenant t xs) ≡ xs) → (o : Ordering) → tenants t x ≡ o → without_tenant t (with_tenant t (x ∷ xs)) ≡ x ∷ xs
    by rest Less e = rw (e, tied_itself tenants_total t) refl
    by rest Equal e = absurd (true≢false (rw e at h))
    by rest Greater e = rw (e, e) (ap (λ (ks : List TenantId). x ∷ ks) (rest (rw e at h)))

none_of : (b : Bool) → true ≡ not b → b ≡ false
none_of false e = refl
none_of true e = absurd (true≢false e)

pub undone : (w v u : List TenantId) (t : TenantId) (added : Bool) → v ≡ with_tenant t w → added ≡ not (list_any (is_at (tenants t)) w) → (added ≡ false → v ≡ w)
    → u ≡ (if added then without_tenant t v else v) → u ≡ w
undone w v u t true e a k d = d ∙ ap (without_tenant t) e ∙ added_removed t w (none_of _ a)
undone w v u t false e a k d = d ∙ k refl

pub taken_in : (w : List TenantId) (row : TenantPods) (r : HubReply) → is_done r ≡ true → with_tenant row.tenant w ≡ watch_with w (Update row) r
taken_in w row Done h = refl
taken_in w row (Stale version) h = absurd (true≢false (sym h))
taken_in w row (Admitted n) h = absurd (true≢false (sym h))
taken_in w row (No why) h = absurd (true≢false (sym h))
taken_in w row (Key key) h = absurd (true≢false (sym h))
taken_in w row (Picked place) h = absurd (true≢false (sym h))
taken_in w row (MoveTo place) h = absurd (true≢false (sym h))
taken_in w row Stay h = absurd (true≢false (sym h))
taken_in w row (Moves moves) h = absurd (true≢false (sym h))
taken_in w row (Found place key) h = absurd (true≢false (sym h))
taken_in w row NoKey h = absurd (true≢false (sym h))
taken_in w row NoSession h = absurd (true≢false (sym h))

pub left_out : (w : List TenantId) (row : TenantPods) (r : HubReply) → is_done r ≡ false → w ≡ watch_with w (Update row) r
left_out w row Done h = absurd (true≢false h)
left_out w row (Stale version) h = refl
left_out w row (Admitted n) h = refl
left_out w row (No why) h = refl
left_out w row (Key key) h = refl
left_out w row (Picked place) h = refl
left_out w row (MoveTo place) h = refl
left_out w row Stay h = refl
left_out w row (Moves moves) h = refl
left_out w row (Found place key) h = refl
left_out w row NoKey h = refl
left_out w row NoSession h = refl
