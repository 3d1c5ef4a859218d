use Rattle.std.proofs.Common.{◌≡◌, List, Option, refl, sym, ap, ◌∙◌}
use Rattle.std.specs.Map.{lookup}
use Rattle.std.specs.Option.{option_flatten}
use Rattle.std.specs.BTreeMap.{is_at}
use Rattle.proxy_outside.specs.declared.identity.SessionNo.{SessionNo}
use Rattle.proxy_outside.specs.declared.identity.TenantId.{TenantId}
use Rattle.session_roster.specs.Rosters.{Roll, without}
use Rattle.session_roster.specs.Rows.{Parts, StandsFor, sessions}
use Rattle.session_roster.proofs.OneRoll.{stands_now, is_whole, is_roll_of}
use Rattle.session_roster.proofs.Standing.{leaves_unknown, leaves_nowhere, leaves}
use Rattle.session_roster.proofs.roster.Roster.remove.Goals as goal

pub returns-in_default : goal.returns-in_default
returns-in_default c =
    let old : Parts = record { tenants = c.self.inside.tenants; members = c.self.inside.members; counts = c.self.inside.counts; last = c.self.inside.last } in
    let new : Parts = record { tenants = c.remove.new.self; members = c.self.inside.members; counts = c.self.inside.counts; last = c.self.inside.last } in
    let h = stands_now old c.args.self.now c.self.view_is c.self.invariant in
    let same : (λ (k : SessionNo). lookup (is_at (sessions k)) c.remove.new.self.entries) ≡ (λ (k : SessionNo). lookup (is_at (sessions k)) c.self.inside.tenants.entries) = ap {B = SessionNo → Option TenantId} (λ (es : List (SessionNo × TenantId)) (k : SessionNo). lookup (is_at (sessions k)) es) c.in_default.ensures.unchanged in
    is_roll_of new c.args.self.now (without c.args.session c.args.self.now.live) (ap (λ (k : Roll). k.last) c.self.view_is) c.remove.ensures.ordered
    (leaves_unknown c.args.session old new c.args.self.now.live (sym c.in_default.is ∙ c.remove.ensures.value) same refl refl refl h)

some_stands : (c : goal.After-take) → StandsFor (record { tenants = c.remove.new.self; members = c.remove-2.new.self; counts = c.take.new.self; last = c.self.inside.last }) (without c.args.session c.args.self.now.live)
some_stands c =
    let old : Parts = record { tenants = c.self.inside.tenants; members = c.self.inside.members; counts = c.self.inside.counts; last = c.self.inside.last } in
    let new : Parts = record { tenants = c.remove.new.self; members = c.remove-2.new.self; counts = c.take.new.self; last = c.self.inside.last } in
    leaves c.args.session c.in-Some.tenant c.in-Some-pod.pod old new c.args.self.now.live (sym c.in-Some.is ∙ c.remove.ensures.value)
    (sym c.in-Some-pod.is ∙ c.flatten-pod.ensures ∙ ap option_flatten c.remove-2.ensures.value) (λ q. c.remove.ensures.updates.0 q, λ q. c.remove-2.ensures.updates.0 q) c.take.ensures refl
    (stands_now old c.args.self.now c.self.view_is c.self.invariant)

none_stands : (c : goal.In_default-pod) → StandsFor (record { tenants = c.remove.new.self; members = c.remove-2.new.self; counts = c.self.inside.counts; last = c.self.inside.last }) (without c.args.session c.args.self.now.live)
none_stands c =
    let old : Parts = record { tenants = c.self.inside.tenants; members = c.self.inside.members; counts = c.self.inside.counts; last = c.self.inside.last } in
    let new : Parts = record { tenants = c.remove.new.self; members = c.remove-2.new.self; counts = c.self.inside.counts; last = c.self.inside.last } in
    leaves_nowhere c.args.session c.in-Some.tenant old new c.args.self.now.live (sym c.in-Some.is ∙ c.remove.ensures.value)
    (sym c.in_default-pod.is ∙ c.flatten-pod.ensures ∙ ap option_flatten c.remove-2.ensures.value) (λ q. c.remove.ensures.updates.0 q, λ q. c.remove-2.ensures.updates.0 q) refl refl
    (stands_now old c.args.self.now c.self.view_is c.self.invariant)

pub invariant_of-self-in-Some-pod : goal.invariant_of-self-in-Some-pod
invariant_of-self-in-Some-pod c = is_whole _ (without c.args.session c.args.self.now.live) c.remove.ensures.ordered c.self.invariant.small (some_stands c)

pub invariant_of-self-in_default-pod : goal.invariant_of-self-in_default-pod
invariant_of-self-in_default-pod c = is_whole _ (without c.args.session c.args.self.now.live) c.remove.ensures.ordered c.self.invariant.small (none_stands c)

pub returns-in-Some-pod : goal.returns-in-Some-pod
returns-in-Some-pod c = is_roll_of _ c.args.self.now (without c.args.session c.args.self.now.live) (ap (λ (k : Roll). k.last) c.self.view_is) c.remove.ensures.ordered (some_stands c)

pub returns-in_default-pod : goal.returns-in_default-pod
returns-in_default-pod c = is_roll_of _ c.args.self.now (without c.args.session c.args.self.now.live) (ap (λ (k : Roll). k.last) c.self.view_is) c.remove.ensures.ordered (none_stands c)
