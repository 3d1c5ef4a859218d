use Rattle.std.proofs.Common.{sym, subst}
use Rattle.forwarder_core.specs.Starting.{CanStart}
use Rattle.proxy_replay.specs.Generating.{HasBegun}
use Rattle.proxy_replay.proofs.Common.{if_ok_given}
use Rattle.proxy_replay.proofs.Starting.{client_can_start}
use Rattle.proxy_replay.proofs.top.answer_to.Goals as goal

pub start-requires : goal.start-requires
start-requires c = subst CanStart (sym c.in_ok-params.ensures) client_can_start

pub returns : goal.returns
returns c = if_ok_given c.answer_by-answer.result (HasBegun c.in_ok-world.world) _ (rw (c.in_ok-params.ensures, c.key.ensures) at c.in_ok-world.ensures) c.answer_by-answer.ensures
