-- Events that stand several times in a row.
use Rattle.tally_session.specs.declared.store.Nothing.{Nothing}
use Rattle.forwarder_world.specs.declared.event.Event.{Event}
use Rattle.forwarder_world.specs.declared.event.Event.TheVariants as event
use Rattle.generated_run.specs.declared.repeated.Repeated.{Repeated}
use Rattle.generated_run.specs.declared.repeated.Repeated.TheVariants as repeated

abbrev pub event_of : Repeated → Event Nothing
event_of (repeated.Read n) = event.Read n
event_of repeated.Forward = event.Forward
event_of repeated.Pod = event.Pod
event_of repeated.Pass = event.Pass
event_of repeated.Move = event.Move
