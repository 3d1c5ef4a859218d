-- A schedule that was made from a number, and played.
use Rattle.std.specs.Prelude.{◌≡◌, ◌≤◌, ℕ, ◌+◌, ◌*◌, length, take, List}
use Rattle.forwarder_world.specs.World.{World, start, run, phase_of, counts_of}
use Rattle.forwarder_world.specs.declared.event.Event.{Event}
use Rattle.forwarder_world.specs.Headline.{Headline}
use Rattle.forwarder_core.specs.Hears.{Turns}
use Rattle.forwarder_core.specs.Stands.{WorldStands}
use Rattle.generated_run.specs.Generated.{generated, turns, words_of}
use Rattle.tally_session.specs.Tally.{State, tally_kind, tally_rules}
use Rattle.tally_session.specs.declared.store.Nothing.{Nothing}
use Rattle.proxy_replay.specs.Client.{client_params, client_key}
use Rattle.proxy_replay.specs.Summary.{summary_text}
use Rattle.forwarder_core.specs.declared.world.World.{World as Real}
use Rattle.proxy_replay.specs.declared.generated.Made.{Made}

-- the world of these events, over a tally session
abbrev pub world_of : List (Event Nothing) → World State (Unit {0}) Nothing
world_of es = run tally_kind tally_rules client_key client_params (start tally_kind tally_rules client_params) es

-- What is known of the world of these events: the headline holds of it, and on the way to it each transfer began and
-- ended as it may.
pub record IsKnown (es : List (Event Nothing)) : Type 0 where
  pub headline : Headline tally_kind tally_rules client_key client_params (world_of es)
  pub turns : (n : ℕ) (e : Event Nothing) → Turns tally_kind tally_rules client_key client_params (world_of (take n es)) e

-- what a World over a tally session stands for
abbrev pub IsAt : {M : Type 0} → Real State M Nothing Nothing → World State (Unit {0}) Nothing → Type 0
IsAt real w = WorldStands (λ (s : State). s) (λ m t. Unit {0}) client_key client_params real w

-- nothing has happened to it
abbrev pub HasBegun : {M : Type 0} → Real State M Nothing Nothing → Type 0
HasBegun real = IsAt real (start tally_kind tally_rules client_params)

-- the first turns of this number were played
pub record IsPlayedTo {M : Type 0} (number n : ℕ) (made : Made) (real : Real State M Nothing Nothing) : Type 0 where
  pub words : made.words ≡ (turns n (words_of number)).1
  pub events : made.events ≡ length (generated number n)
  pub few : made.events ≤ 64 * n + 4
  pub world : IsAt real (world_of (generated number n))

-- the whole schedule was played, so many events
pub record IsPlayed {M : Type 0} (number messages n : ℕ) (real : Real State M Nothing Nothing) : Type 0 where
  pub events : n ≡ length (generated number messages)
  pub world : IsAt real (world_of (generated number messages))

-- the summary of a world after so many events, and of the schedule of a number
unfoldable pub summary_by : {S T C : Type 0} → ℕ → ℕ → ℕ → World S T C → List ℕ
summary_by number messages events w = summary_text number messages events (phase_of w.mode) (counts_of w) w.received

abbrev pub summary_after : ℕ → ℕ → List ℕ
summary_after number messages = summary_by number messages (length (generated number messages)) (world_of (generated number messages))

-- these bytes are that summary, and that is known of the world that it is of
abbrev pub IsSummary : ℕ → ℕ → List ℕ → Type 0
IsSummary number messages bytes = (bytes ≡ summary_after number messages) × IsKnown (generated number messages)
