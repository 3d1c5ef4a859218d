use Rattle.std.proofs.Common.{take, sym, ap, subst, ◌∙◌, arith}
use Rattle.std.specs.Prelude.{Result, Ok, Err, OnErr}
use Rattle.std.proofs.lemmas.List.{take_all}
use Rattle.forwarder_world.specs.World.{run}
use Rattle.forwarder_core.specs.Stands.{WorldStands, is_given_up, received_of}
use Rattle.forwarder_core.proofs.Schedules.{run_more, turns_of}
use Rattle.forwarder_core.proofs.Standing.{tells_in}
use Rattle.forwarder_core.proofs.world.World.run.Goals as goal

pub loop-e-preserved : goal.loop-e-preserved
loop-e-preserved g c = (
  (λ key p d h.
      let k = g.S.Session.kind in
      let rules = g.S.Store.Machine.rules in
      let before = c.loop-e.invariant.0 key p d h in
      let after = c.in_ok-step.ensures.stands key p (run k rules key p d (take c.loop-e.e-index c.args.es.now)) before in
      subst (λ v. WorldStands g.S.Session.state g.S.Store.Machine.stands_for key p c.step.new.self v) (sym (run_more k rules key p d c.args.es.now c.loop-e.e-index c.e-item.result (omega arith) c.e-item.is)) after),
  (λ up. absurd (let refused = c.in_ok-step.ensures.given_up (ap is_given_up (c.loop-e.invariant.1 up).1 ∙ up) in cc)),
)

pub returns-clause-stands : goal.returns-clause-stands
returns-clause-stands g c key p d h =
    let k = g.S.Session.kind in
    let rules = g.S.Store.Machine.rules in
    subst (λ es. WorldStands g.S.Session.state g.S.Store.Machine.stands_for key p c.loop-e.self (run k rules key p d es)) (take_all c.loop-e.e-index c.args.es.now (omega arith)) (c.loop-e.invariant.0 key p d h)

pub returns-in_err-step-clause-kept : goal.returns-in_err-step-clause-kept
returns-in_err-step-clause-kept g c =
    on_err c.from_residual.result (λ key p d h.
    let v = run g.S.Session.kind g.S.Store.Machine.rules key p d (take c.loop-e.e-index c.args.es.now) in
    (c.loop-e.e-index, c.in_err-step.ensures.kept ∙ (tells_in g.S.Session.state g.S.Store.Machine.stands_for key p c.loop-e.self.forwarder v v.mode (c.loop-e.invariant.0 key p d h).forwarder).received))
  where
    on_err : {A E P : Type 0} (r : Result A E) → P → OnErr r P
    on_err (Ok x) h = tt
    on_err (Err e) h = h

pub returns-clause-turns : goal.returns-clause-turns
returns-clause-turns g c key p d n e = turns_of g.S.Session.kind g.S.Store.Machine.rules key p (run g.S.Session.kind g.S.Store.Machine.rules key p d (take n c.args.es.now)) e

pub returns-in_err-step-clause-turns : goal.returns-in_err-step-clause-turns
returns-in_err-step-clause-turns g c key p d n e = turns_of g.S.Session.kind g.S.Store.Machine.rules key p (run g.S.Session.kind g.S.Store.Machine.rules key p d (take n c.args.es.now)) e

pub returns-clause-given_up : goal.returns-clause-given_up
returns-clause-given_up g c up some = let none = (c.loop-e.invariant.1 up).0 in absurd (omega (arith, none, some))

pub returns-clause-kept_given_up : goal.returns-clause-kept_given_up
returns-clause-kept_given_up g c up = let still = (c.loop-e.invariant.1 up).1 in record { given_up = ap is_given_up still ∙ up; received = ap received_of still }

pub returns-in_err-step-clause-kept_given_up : goal.returns-in_err-step-clause-kept_given_up
returns-in_err-step-clause-kept_given_up g c up = record { given_up = c.in_err-step.ensures.err; received = c.in_err-step.ensures.kept ∙ ap received_of (c.loop-e.invariant.1 up).1 }
