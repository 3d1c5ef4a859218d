use Rattle.std.proofs.Common.{sym, subst, ◌∙◌}
use Rattle.forwarder_core.specs.Stands.{ForwarderStands}
use Rattle.forwarder_core.proofs.Moving.{fails_so, closes_so}
use Rattle.forwarder_core.proofs.forwarder.Forwarder.end_old.Goals as goal

pub returns-in-Some-clause-stands : goal.returns-in-Some-clause-stands
returns-in-Some-clause-stands g c old key p d none h can =
    let new = record c.args.self.now { phase = c.enter.new.phase } in
    subst (λ v. ForwarderStands g.S.Session.state g.S.Store.Machine.stands_for key p new v) (sym (closes_so d c.args.outcome c.in-Some.why (sym c.close_of.ensures ∙ c.in-Some.is)))
    (record { counts = h.counts; received = h.received }, c.enter.ensures)

pub returns-in-None-clause-stands : goal.returns-in-None-clause-stands
returns-in-None-clause-stands g c old key p d none h can =
    subst (λ v. ForwarderStands g.S.Session.state g.S.Store.Machine.stands_for key p c.fail.new.self v) (sym (fails_so d c.args.outcome old (sym c.close_of.ensures ∙ c.in-None.is)))
    (c.fail.ensures.stands key p d none h tt)
