use Rattle.std.proofs.Common.{refl, sym, ap, ◌∙◌, arith}
use Rattle.std.specs.Option.{option_flatten}
use Rattle.session_roster.specs.Rosters.{Roll, settled}
use Rattle.session_roster.specs.Rows.{Parts, StandsFor}
use Rattle.session_roster.proofs.OneRoll.{stands_now, is_whole, is_roll_of}
use Rattle.session_roster.proofs.Standing.{settles_first, settles_anew, the_settled, none_live}
use Rattle.session_roster.proofs.roster.Roster.settle.Goals as goal

pub returns-in_default-clause-ok : goal.returns-in_default-clause-ok
returns-in_default-clause-ok c = ap (λ ls. record c.args.self.now { live = ls }) (sym (none_live c.args.session c.args.pod c.args.self.now.live (sym c.in_default.is ∙ c.tenant.ensures)))

pub returns-then-eq-clause-ok : goal.returns-then-eq-clause-ok
returns-then-eq-clause-ok c =
    let old : Parts = record { tenants = c.self.inside.tenants; members = c.self.inside.members; counts = c.self.inside.counts; last = c.self.inside.last } in
    let before = c.flatten-before.ensures ∙ ap option_flatten (c.copied.ensures ∙ c.get.ensures.value) in
    ap (λ ls. record c.args.self.now { live = ls })
    (sym (the_settled c.args.session c.in-Some.tenant c.args.pod old c.args.self.now.live (sym c.in-Some.is ∙ c.tenant.ensures) (grind (arith, c.if-eq.true, c.eq.ensures) ∙ before) (stands_now old c.args.self.now c.self.view_is c.self.invariant)))

first_stands : (c : goal.In_default-before) → StandsFor (record { tenants = c.self.inside.tenants; members = c.set_pod.new.members; counts = c.add.new.self; last = c.self.inside.last }) (settled c.args.session c.args.pod c.args.self.now.live)
first_stands c =
    let old : Parts = record { tenants = c.self.inside.tenants; members = c.self.inside.members; counts = c.self.inside.counts; last = c.self.inside.last } in
    let new : Parts = record { tenants = c.self.inside.tenants; members = c.set_pod.new.members; counts = c.add.new.self; last = c.self.inside.last } in
    let before = c.flatten-before.ensures ∙ ap option_flatten (c.copied.ensures ∙ c.get.ensures.value) in
    settles_first c.args.session c.in-Some.tenant c.args.pod old new c.args.self.now.live (sym c.in-Some.is ∙ c.tenant.ensures) (sym c.in_default-before.is ∙ before)
    c.in_ok-add.ensures.ok c.set_pod.ensures refl refl c.self.invariant.small (stands_now old c.args.self.now c.self.view_is c.self.invariant)

anew_stands : (c : goal.After-take) → StandsFor (record { tenants = c.self.inside.tenants; members = c.set_pod.new.members; counts = c.take.new.self; last = c.self.inside.last }) (settled c.args.session c.args.pod c.args.self.now.live)
anew_stands c =
    let old : Parts = record { tenants = c.self.inside.tenants; members = c.self.inside.members; counts = c.self.inside.counts; last = c.self.inside.last } in
    let new : Parts = record { tenants = c.self.inside.tenants; members = c.set_pod.new.members; counts = c.take.new.self; last = c.self.inside.last } in
    let before = c.flatten-before.ensures ∙ ap option_flatten (c.copied.ensures ∙ c.get.ensures.value) in
    settles_anew c.args.session c.in-Some.tenant c.in-Some-before.pod c.args.pod old new c.add.new.self c.args.self.now.live (sym c.in-Some.is ∙ c.tenant.ensures) (sym c.in-Some-before.is ∙ before)
    (grind (arith, c.if-eq.false, c.eq.ensures, c.in-Some-before.is)) c.in_ok-add.ensures.ok c.take.ensures c.set_pod.ensures refl refl c.self.invariant.small (stands_now old c.args.self.now c.self.view_is c.self.invariant)

pub invariant_of-self-in-Some-before : goal.invariant_of-self-in-Some-before
invariant_of-self-in-Some-before c = is_whole _ (settled c.args.session c.args.pod c.args.self.now.live) c.self.invariant.ordered c.self.invariant.small (anew_stands c)

pub invariant_of-self-in_default-before : goal.invariant_of-self-in_default-before
invariant_of-self-in_default-before c = is_whole _ (settled c.args.session c.args.pod c.args.self.now.live) c.self.invariant.ordered c.self.invariant.small (first_stands c)

pub returns-in-Some-before-clause-ok : goal.returns-in-Some-before-clause-ok
returns-in-Some-before-clause-ok c = is_roll_of _ c.args.self.now (settled c.args.session c.args.pod c.args.self.now.live) (ap (λ (k : Roll). k.last) c.self.view_is) c.self.invariant.ordered (anew_stands c)

pub returns-in_default-before-clause-ok : goal.returns-in_default-before-clause-ok
returns-in_default-before-clause-ok c = is_roll_of _ c.args.self.now (settled c.args.session c.args.pod c.args.self.now.live) (ap (λ (k : Roll). k.last) c.self.view_is) c.self.invariant.ordered (first_stands c)
