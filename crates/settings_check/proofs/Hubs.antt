-- A new hub that is set up.
use Rattle.std.proofs.Common.{◌≡◌, ℕ, ◌+◌, ◌<◌, Bool, true, false, List, [], ◌∷◌, length, drop, get_or, Option, Some, None, refl, sym, ap, ◌∙◌, subst, ◌≤◌}
use Rattle.std.proofs.lemmas.List.{drop_all, drop_more}
use Rattle.access_lists.specs.declared.verdict.Verdict.{Verdict}
use Rattle.access_lists.specs.declared.verdict.Verdict.TheVariants as verdict
use Rattle.access_lists.specs.Verdicts.{Entries, verdict as verdict_of}
use Rattle.login_throttle.specs.Reports.{allowed}
use Rattle.proxy_outside.specs.declared.addr.Addr.{Addr}
use Rattle.proxy_outside.specs.declared.identity.TenantId.{TenantId}
use Rattle.tenant_directory.specs.Rows.{TenantPods}
use Rattle.tenant_directory.specs.Newest.{pods_of}
use Rattle.tenant_directory.specs.declared.pod.Pod.{Pod}
use Rattle.proxy_hub.specs.Hubs.{StandsFor}
use Rattle.proxy_hub.specs.declared.hub.Hub.{Hub}
use Rattle.proxy_hub.specs.States.{State, opening}
use Rattle.proxy_hub.specs.Steps.{hub_rules, admission, refusal_of, by_verdict, by_number, runs}
use Rattle.proxy_hub.specs.declared.command.HubCommand.TheVariants.{SetLists, Update}
use Rattle.proxy_hub.specs.declared.reply.Refusal.{Refusal}
use Rattle.settings_check.specs.Trials.{updated, told, CanBeFirst}

pub told_admission : (s : State) (why : Option Refusal) → told (admission s why) ≡ why
told_admission s (Some why) = refl
told_admission s None = refl

-- one update more, by a copy of the row
pub update_more : (s total : State) (rows : List TenantPods) (i : ℕ) (row copy : TenantPods) → i < length rows → row ≡ get_or rows i row → copy ≡ row → updated s (drop i rows) ≡ total
    → updated (hub_rules.next s (Update copy)) (drop (i + 1) rows) ≡ total
unfolding updated
update_more s total rows i row copy lt here same so_far =
    let split : drop i rows ≡ row ∷ drop (i + 1) rows = drop_more rows i row lt ∙ ap (λ (r : TenantPods). r ∷ drop (i + 1) rows) (sym here) in
    ap (λ (r : TenantPods). updated s (r ∷ drop (i + 1) rows)) same ∙ ap (updated s) (sym split) ∙ so_far

pub update_end : (s total : State) (rows : List TenantPods) (i : ℕ) → length rows ≤ i → updated s (drop i rows) ≡ total → s ≡ total
unfolding updated
update_end s total rows i le so_far = ap (updated s) (sym (drop_all i rows le)) ∙ so_far

-- with lists and rows that are those of the settings
pub with_settings : (h : Hub) (l e : Entries) (rows tenants : List TenantPods) → l ≡ e → rows ≡ tenants → StandsFor h (updated (hub_rules.next opening (SetLists l)) rows)
    → StandsFor h (updated (hub_rules.next opening (SetLists e)) tenants)
with_settings h l e rows tenants p q stands = subst (λ (t : State). StandsFor h t) (λ i. updated (hub_rules.next opening (SetLists (p i))) (q i)) stands

-- ---- nothing was reported, and no number given

record IsNew (s : State) : Type 0 where
  reports : s.reports ≡ []
  last : s.last ≡ 0

stays_new : (s : State) (rows : List TenantPods) → IsNew s → IsNew (updated s rows)
unfolding updated
stays_new s [] h = h
stays_new s (row ∷ rows) h = stays_new (hub_rules.next s (Update row)) rows (record { reports = h.reports; last = h.last })

by_pods_first : (pods : Option (List Pod)) (v : Verdict) (addr : Addr) (tenant : TenantId) (now : ℕ) → CanBeFirst (by_verdict v (allowed [] addr tenant now) pods (by_number 0))
by_pods_first pods (verdict.Denied place) addr tenant now = tt
by_pods_first pods verdict.NotAllowed addr tenant now = tt
by_pods_first None verdict.Pass addr tenant now = tt
by_pods_first (Some pods) verdict.Pass addr tenant now = by (runs pods) refl
  where
    by : (b : Bool) → runs pods ≡ b → CanBeFirst (by_verdict verdict.Pass (allowed [] addr tenant now) (Some pods) (by_number 0))
    by true e = rw e tt
    by false e = rw e tt

new_first : (s : State) (addr : Addr) (tenant : TenantId) (now : ℕ) → IsNew s → CanBeFirst (refusal_of s addr tenant now)
new_first s addr tenant now h = rw (h.reports, h.last) (by_pods_first (pods_of s.rows tenant) (verdict_of s.lists addr tenant now) addr tenant now)

pub can_be_first : (s : State) (rows : List TenantPods) (addr : Addr) (tenant : TenantId) (now : ℕ) → s.reports ≡ [] → s.last ≡ 0 → CanBeFirst (refusal_of (updated s rows) addr tenant now)
can_be_first s rows addr tenant now none zero = new_first (updated s rows) addr tenant now (stays_new s rows (record { reports = none; last = zero }))
