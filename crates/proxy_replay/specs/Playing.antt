-- What comes of a schedule.
use Rattle.std.specs.Prelude.{ℕ, Bool, true, false, List, Option, Some, None}
use Rattle.proxy_outside.specs.Rules.{Rules}
use Rattle.proxy_outside.specs.declared.identity.ClientKey.{ClientKey}
use Rattle.pgw_messages.specs.declared.params.Pair.{Pair}
use Rattle.session_model.specs.Kind.{Kind}
use Rattle.forwarder_world.specs.declared.event.Event.{Event}
use Rattle.forwarder_world.specs.World.{World as model, happens, run}
use Rattle.forwarder_core.specs.Stands.{WorldStands}
use Rattle.forwarder_core.specs.declared.world.World.{World}
use Rattle.proxy_replay.specs.Lines.{Spells, SpellsNothing}
use Rattle.proxy_replay.specs.Schedule.{IsSchedule, IsFirstBad}

-- the event that the line spells was played, or the line spells none
abbrev pub PlaysLine : {X Y C R S T : Type 0} → (X → S) → (Y → T → Type 0) → Kind S C R → Rules T C R → (List ℕ → C → Type 0) → World X Y C R → World X Y C R → List ℕ → Bool → Type 0
PlaysLine {C = C} {S = S} {T = T} state stands_for k rules says old new line true =
    (e : Event C) × Spells says line e × ((key : ClientKey) (p : List Pair) (d : model S T C) → WorldStands state stands_for key p old d → WorldStands state stands_for key p new (happens k rules key p d e))
PlaysLine state stands_for k rules says old new line false = SpellsNothing says line

-- the events that the text spells were played, or the number of its first line that spells none is told
abbrev pub Plays : {X Y C R S T : Type 0} → (X → S) → (Y → T → Type 0) → Kind S C R → Rules T C R → (List ℕ → C → Type 0) → World X Y C R → World X Y C R → List ℕ → Option ℕ → Type 0
Plays {C = C} {S = S} {T = T} state stands_for k rules says old new text None =
    (es : List (Event C)) × IsSchedule says text es × ((key : ClientKey) (p : List Pair) (d : model S T C) → WorldStands state stands_for key p old d → WorldStands state stands_for key p new (run k rules key p d es))
Plays state stands_for k rules says old new text (Some n) = IsFirstBad says text n
