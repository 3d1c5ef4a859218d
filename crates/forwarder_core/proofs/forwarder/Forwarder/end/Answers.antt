use Rattle.std.proofs.Common.{◌≡◌, Some, true, false, sym, subst, ◌∙◌}
use Rattle.forwarder_core.specs.Stands.{ForwarderStands}
use Rattle.forwarder_core.specs.Transfers.{is_old_end}
use Rattle.forwarder_core.proofs.Moving.{moves_so, not_true, not_false}
use Rattle.forwarder_core.proofs.forwarder.Forwarder.end.Goals as goal

pub returns-then-is_moved-clause-stands : goal.returns-then-is_moved-clause-stands
returns-then-is_moved-clause-stands g c key p d none h can =
    let moves : is_old_end (Some c.args.outcome) ≡ false = not_true _ (sym c.is_moved.ensures ∙ c.if-is_moved.true) in
    subst (λ v. ForwarderStands g.S.Session.state g.S.Store.Machine.stands_for key p c.adopt.new.self v) (sym (moves_so d c.args.outcome moves)) (c.adopt.ensures.stands key p d none h (can moves))

pub returns-clause-stands : goal.returns-clause-stands
returns-clause-stands g c key p d none h can =
    let old : is_old_end (Some c.args.outcome) ≡ true = not_false _ (sym c.is_moved.ensures ∙ c.if-is_moved.false) in
    c.end_old.ensures.stands old key p d none h tt
