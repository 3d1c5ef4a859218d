use Rattle.std.proofs.Common.{subst}
use Rattle.transfer_exchange.specs.Course.{IsWithin, HoldsState}
use Rattle.transfer_exchange.proofs.Lengths.{transfer_short, restore_short}
use Rattle.transfer_exchange.proofs.Sending.{asked, restored}
use Rattle.transfer_exchange.proofs.exchange.Exchange.text.Goals as goal

pub query-requires : goal.query-requires
query-requires c = rw c.in_ok-transfer_text-in-AskOld.ensures (transfer_short c.self.inside.key)

pub query-requires-in-Restore : goal.query-requires-in-Restore
query-requires-in-Restore c =
    let within : HoldsState c.in-Restore.state = subst (IsWithin c.self.inside.params) c.in-Restore.is c.self.invariant.0 in
    rw c.in_ok-restore_text-in-Restore.ensures (restore_short c.as_slice.result.now (rw c.as_slice.ensures within))

pub returns-in_ok-transfer_text-in-AskOld : goal.returns-in_ok-transfer_text-in-AskOld
returns-in_ok-transfer_text-in-AskOld c = asked _ c.args.self.now c.in_ok-transfer_text-in-AskOld.field-0 c.query.result c.self.view_is c.in-AskOld.is c.in_ok-transfer_text-in-AskOld.ensures c.query.ensures

pub returns-in_ok-restore_text-in-Restore : goal.returns-in_ok-restore_text-in-Restore
returns-in_ok-restore_text-in-Restore c =
    restored _ c.args.self.now c.as_slice.result.now c.in-Restore.field-1 c.in_ok-restore_text-in-Restore.field-0 c.query-in-Restore.result c.self.view_is (rw c.as_slice.ensures c.in-Restore.is) c.in_ok-restore_text-in-Restore.ensures c.query-in-Restore.ensures
