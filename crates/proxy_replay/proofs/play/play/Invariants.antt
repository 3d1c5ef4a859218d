use Rattle.std.proofs.Common.{◌≡◌, List, length}
use Rattle.proxy_outside.specs.declared.identity.ClientKey.{ClientKey}
use Rattle.pgw_messages.specs.declared.params.Pair.{Pair}
use Rattle.forwarder_world.specs.declared.event.Event.{Event}
use Rattle.forwarder_world.specs.World.{World as model, run}
use Rattle.forwarder_core.specs.Stands.{WorldStands}
use Rattle.proxy_replay.specs.Schedule.{IsReadTo}
use Rattle.proxy_replay.proofs.play.play.Given as goal

abbrev pub invariant-loop-line : goal.invariant-loop-line
invariant-loop-line g l =
    (es : List (Event g.row.S-Store-Command.Denot)) × IsReadTo g.T.Commands.says l.text es l.lines × (l.number ≡ length es)
    × ((key : ClientKey) (p : List Pair) (d : model g.S.Session.State g.S.Store.Machine.State g.row.S-Store-Command.Denot) → WorldStands g.S.Session.state g.S.Store.Machine.stands_for key p l.fn.world d
    → WorldStands g.S.Session.state g.S.Store.Machine.stands_for key p l.world (run g.S.Session.kind g.S.Store.Machine.rules key p d es))

abbrev pub decreases-loop-line : goal.decreases-loop-line
decreases-loop-line g l = length l.lines
