-- How a replay may end.
use Rattle.std.specs.Prelude.{◌≡◌, ◌≤◌, ◌<◌, ◌⊎◌, ℕ, false, List, [], ◌∷◌, length, IsTrue, codes}
use Rattle.proxy_outside.specs.Reading.{Origin, Takes, Rose}
use Rattle.proxy_outside.specs.Writing.{Target, Appends}
use Rattle.forwarder_world.specs.World.{World, phase_of, counts_of}
use Rattle.forwarder_world.specs.declared.event.Event.{Event}
use Rattle.generated_run.specs.Generated.{generated}
use Rattle.tally_session.specs.declared.store.Nothing.{Nothing}
use Rattle.proxy_replay.specs.Generating.{world_of, summary_after, IsKnown}
use Rattle.proxy_replay.specs.Generations.{IsGen, IsNoGen}
use Rattle.proxy_replay.specs.TallyCommands.{says_nothing}
use Rattle.proxy_replay.specs.Inputs.{most_bytes, RoseBy}
use Rattle.proxy_replay.specs.Outputs.{Writing}
use Rattle.proxy_replay.specs.Report.{report_text}
use Rattle.proxy_replay.specs.Schedule.{IsSchedule, IsFirstBad}
use Rattle.proxy_replay.specs.declared.top.Answer.{Answer}
use Rattle.proxy_replay.specs.declared.top.Answer.TheVariants as answer
use Rattle.proxy_replay.specs.declared.status.Status.{Status}
use Rattle.proxy_replay.specs.declared.status.Status.TheVariants.{Done, Usage, BadLine, ReadFault, WriteFault, NoMemory, TooLong, Late}

-- the words that ask for a run
abbrev pub IsRun : List (List ℕ) → Type 0
IsRun words = (words ≡ codes "run" ∷ []) ⊎ (words ≡ codes "run" ∷ codes "tally" ∷ [])

-- the report of a world, and of the world of these events
unfoldable pub report_by : {S T C : Type 0} → World S T C → List ℕ
report_by w = report_text (phase_of w.mode) (counts_of w) w.received

abbrev pub report_after : List (Event Nothing) → List ℕ
report_after es = report_by (world_of es)

-- what a text is answered by
abbrev pub IsAnsweredBy : List ℕ → Answer → Type 0
IsAnsweredBy text (answer.Report bytes) = (es : List (Event Nothing)) × IsSchedule says_nothing text es × (bytes ≡ report_after es) × IsKnown es
IsAnsweredBy text (answer.BadLine n) = IsFirstBad says_nothing text n

-- how answering a text to a sink may end, and what is known of the world that is reported
abbrev pub RunCase : List ℕ → Target → Target → Status → Type 0
RunCase text old new Done = (es : List (Event Nothing)) × IsSchedule says_nothing text es × Appends old new (report_after es) × IsKnown es
RunCase text old new WriteFault = (es : List (Event Nothing)) × IsSchedule says_nothing text es × Writing false old new (report_after es) × IsKnown es
RunCase text old new (BadLine n) = IsFirstBad says_nothing text n × (new ≡ old)
RunCase text old new NoMemory = new ≡ old
RunCase text old new Usage = ⊥
RunCase text old new ReadFault = ⊥
RunCase text old new TooLong = ⊥
RunCase text old new (Late n) = ⊥

-- how a schedule made from a number may end
abbrev pub GenCase : ℕ → ℕ → Target → Target → Status → Type 0
GenCase number messages old new Done = Appends old new (summary_after number messages) × IsKnown (generated number messages)
GenCase number messages old new WriteFault = Writing false old new (summary_after number messages) × IsKnown (generated number messages)
GenCase number messages old new NoMemory = new ≡ old
GenCase number messages old new Usage = ⊥
GenCase number messages old new (BadLine n) = ⊥
GenCase number messages old new ReadFault = ⊥
GenCase number messages old new TooLong = ⊥
GenCase number messages old new (Late n) = ⊥

-- the text was read to the source's end, and is within its limit
abbrev pub IsRead : Origin → List ℕ → Type 0
IsRead source text = IsTrue source.ended × (length text ≤ most_bytes)

-- by the answer, where this text was taken from the source
abbrev pub ReplayCase : Origin → Origin → Target → Target → List ℕ → Status → Type 0
ReplayCase old new sink_old sink_new text Usage = ⊥
ReplayCase old new sink_old sink_new text Done = IsRead new text × RunCase text sink_old sink_new Done
ReplayCase old new sink_old sink_new text WriteFault = IsRead new text × RunCase text sink_old sink_new WriteFault
ReplayCase old new sink_old sink_new text (BadLine n) = IsRead new text × RunCase text sink_old sink_new (BadLine n)
ReplayCase old new sink_old sink_new text NoMemory = (length text ≤ most_bytes) × (sink_new ≡ sink_old)
ReplayCase old new sink_old sink_new text ReadFault = Rose old.faults new.faults × (length text ≤ most_bytes) × (¬ IsTrue new.ended) × (sink_new ≡ sink_old)
ReplayCase old new sink_old sink_new text TooLong = (most_bytes < length text) × (sink_new ≡ sink_old)
ReplayCase old new sink_old sink_new text (Late n) = (n ≡ 1000) × RoseBy n old.waits new.waits × (length text ≤ most_bytes) × (¬ IsTrue new.ended) × (sink_new ≡ sink_old)

-- this text was taken from the source, and that is why the replay ended
abbrev pub ReplaysText : Origin → Origin → Target → Target → Status → Type 0
ReplaysText old new sink_old sink_new status = (text : List ℕ) × Takes old new text × ReplayCase old new sink_old sink_new text status

-- the schedule was made from a number, and nothing was read
abbrev pub ReplaysNumber : List (List ℕ) → Origin → Origin → Target → Target → Status → Type 0
ReplaysNumber words old new sink_old sink_new status = (number messages : ℕ) × IsGen words number messages × (new ≡ old) × GenCase number messages sink_old sink_new status

-- the words ask for nothing
abbrev pub ReplaysNothing : List (List ℕ) → Origin → Origin → Target → Target → Status → Type 0
ReplaysNothing words old new sink_old sink_new status = (¬ IsRun words) × IsNoGen words × (status ≡ Usage) × (new ≡ old) × (sink_new ≡ sink_old)

abbrev pub Replays : List (List ℕ) → Origin → Origin → Target → Target → Status → Type 0
Replays words old new sink_old sink_new status =
    (IsRun words × ReplaysText old new sink_old sink_new status)
    ⊎ ReplaysNumber words old new sink_old sink_new status
    ⊎ ReplaysNothing words old new sink_old sink_new status

-- No fault, few idle reads, and a text within the limit whose lines are all events: then the report is written whole,
-- unless memory ran out.
abbrev pub CompletesText : Origin → Origin → Target → Target → Status → Type 0
CompletesText old new sink_old sink_new status =
    (Rose old.faults new.faults → ⊥) → (Rose sink_old.faults sink_new.faults → ⊥) → (RoseBy 1000 old.waits new.waits → ⊥)
    → ((text : List ℕ) → Takes old new text → (length text ≤ most_bytes) × ((es : List (Event Nothing)) × IsSchedule says_nothing text es))
    → (status ≡ Done) ⊎ (status ≡ NoMemory)

abbrev pub Completes : List (List ℕ) → Origin → Origin → Target → Target → Status → Type 0
Completes words old new sink_old sink_new status = IsRun words → CompletesText old new sink_old sink_new status

-- the same of a schedule made from a number
abbrev pub CompletesGenerated : List (List ℕ) → Target → Target → Status → Type 0
CompletesGenerated words sink_old sink_new status =
    (number messages : ℕ) → IsGen words number messages → (Rose sink_old.faults sink_new.faults → ⊥) → (status ≡ Done) ⊎ (status ≡ NoMemory)
