use Rattle.std.proofs.Common.{◌∷◌, [], sym}
use Rattle.std.proofs.lemmas.Result.{err_from_is_err_and}
use Rattle.proxy_hub.specs.declared.command.HubCommand.TheVariants.{Update}
use Rattle.pod_drain.proofs.Asking.{no_room}
use Rattle.pod_drain.proofs.Undo.{undone}
use Rattle.pod_drain.proofs.Rows.{no_room_same, refused_same, row_taken, row_left}
use Rattle.pod_drain.proofs.round.tell_row.Goals as goal

pub returns-in_err-copy : goal.returns-in_err-copy
returns-in_err-copy g c rings =
    let e = err_from_is_err_and c.from_residual.result c.from_residual.ensures.1 in
    rw (e.1, e.2) (no_room _ _)

pub returns-in_err-added : goal.returns-in_err-added
returns-in_err-added g c rings =
    let e = err_from_is_err_and c.from_residual-in_err-added.result c.from_residual-in_err-added.ensures.1 in
    rw (e.1, e.2) (no_room_same _ _ _ _ _ c.in_err-added.ensures.err)

pub returns-then-is_done : goal.returns-then-is_done
returns-then-is_done g c rings =
    row_taken c.args.watch.now c.add.new.self (g.H.HubPort.port c.args.hub.now) (g.H.HubPort.port c.ask.new.self) rings c.args.row.now c.in_ok-copy.copy c.tenant-tenant.result c.in-Ok.reply c.in_ok-copy.ensures c.tenant-tenant.ensures c.in-Ok.ensures (sym c.if-is_done.ensures) c.in_ok-added.ensures.ok

pub returns-in-Err : goal.returns-in-Err
returns-in-Err g c rings =
    let same = undone c.args.watch.now c.add.new.self c.undo.new.self c.tenant-tenant.result c.in_ok-added.added c.in_ok-added.ensures.ok c.in_ok-added.ensures.added c.in_ok-added.ensures.kept c.undo.ensures in
    refused_same (Update c.args.row.now ∷ []) (Update c.in_ok-copy.copy) c.args.watch.now c.undo.new.self (g.H.HubPort.port c.args.hub.now) (g.H.HubPort.port c.ask.new.self) rings c.in-Err.fault same c.in-Err.ensures

pub returns-else-is_done : goal.returns-else-is_done
returns-else-is_done g c rings =
    let same = undone c.args.watch.now c.add.new.self c.undo-in-Ok.new.self c.tenant-tenant.result c.in_ok-added.added c.in_ok-added.ensures.ok c.in_ok-added.ensures.added c.in_ok-added.ensures.kept c.undo-in-Ok.ensures in
    row_left c.args.watch.now c.undo-in-Ok.new.self (g.H.HubPort.port c.args.hub.now) (g.H.HubPort.port c.ask.new.self) rings c.args.row.now c.in_ok-copy.copy c.in-Ok.reply c.in_ok-copy.ensures c.in-Ok.ensures (sym c.if-is_done.ensures) same
