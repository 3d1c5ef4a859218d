use Rattle.std.proofs.Common.{◌<◌, ◌^◌, List, map, sym, subst, arith}
use Rattle.std.proofs.lemmas.Result.{err_from_is_err_and}
use Rattle.proxy_links.specs.Told.{Grows}
use Rattle.pod_balancer.specs.declared.moves.Move.{Move}
use Rattle.proxy_hub.specs.declared.command.HubCommand.TheVariants.{Plan}
use Rattle.pod_drain.proofs.Asking.{refused}
use Rattle.pod_drain.proofs.Plans.{still, moving}
use Rattle.pod_drain.proofs.round.plan.Goals as goal

pub returns-in_err-ask : goal.returns-in_err-ask
returns-in_err-ask g c =
    let e = err_from_is_err_and c.from_residual.result c.from_residual.ensures.1 in
    rw (e.1, e.2) (refused _ (Plan c.args.tenant) c.args.watch.now (g.H.HubPort.port c.args.hub.now) (g.H.HubPort.port c.ask.new.self) (g.B.Ringer.rings c.args.bells.now) c.in_err-ask.field-0.0 c.in_err-ask.ensures)

pub returns-then-is_empty : goal.returns-then-is_empty
returns-then-is_empty g c =
    still c.args.watch.now c.remove.new.self (g.H.HubPort.port c.args.hub.now) (g.H.HubPort.port c.ask.new.self) (g.B.Ringer.rings c.args.bells.now) c.args.tenant c.in_ok-ask.field-0 c.moves_of-moves.result c.moves_of-moves.ensures c.in_ok-ask.ensures (sym c.if-is_empty.ensures) c.remove.ensures

pub returns : goal.returns
returns g c =
    let small : c.len.result < 2 ^ 64 = omega arith in
    moving c.args.watch.now (g.H.HubPort.port c.args.hub.now) (g.H.HubPort.port c.ask.new.self) (g.B.Ringer.rings c.args.bells.now) (g.B.Ringer.rings c.ring_all.new.bells) c.args.tenant c.in_ok-ask.field-0 c.moves_of-moves.result c.len.result c.moves_of-moves.ensures c.in_ok-ask.ensures (sym c.if-is_empty.ensures) c.len.ensures small
    (subst (λ (ms : List Move). Grows (g.B.Ringer.rings c.args.bells.now) (g.B.Ringer.rings c.ring_all.new.bells) (map (λ (m : Move). m.session) ms)) c.as_slice.ensures c.ring_all.ensures)
