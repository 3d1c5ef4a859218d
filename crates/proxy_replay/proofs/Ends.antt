-- How a replay ends, and its headline.
use Rattle.std.proofs.Common.{◌≡◌, ◌≢◌, ℕ, List, take, inl, inr, ◌⊎◌, refl}
use Rattle.proxy_outside.specs.Reading.{Rose}
use Rattle.proxy_outside.specs.Writing.{Target}
use Rattle.forwarder_world.specs.declared.event.Event.{Event}
use Rattle.forwarder_world.proofs.Runs.{headline_holds}
use Rattle.forwarder_core.proofs.Schedules.{turns_of}
use Rattle.tally_session.specs.Keeps.{keeps_laws}
use Rattle.tally_session.specs.Tally.{tally_kind, tally_rules, StateKept}
use Rattle.tally_session.specs.declared.store.Nothing.{Nothing}
use Rattle.tally_session.specs.declared.store.Nothing.TheVariants as nothing
use Rattle.proxy_replay.specs.Client.{client_params, client_key}
use Rattle.proxy_replay.specs.Generating.{world_of, IsKnown}
use Rattle.proxy_replay.specs.Replaying.{RunCase}
use Rattle.proxy_replay.specs.TallyCommands.{says_nothing}
use Rattle.proxy_replay.specs.Schedule.{IsSchedule}
use Rattle.proxy_replay.specs.declared.status.Status.{Status}
use Rattle.proxy_replay.specs.declared.status.Status.TheVariants.{Done, Usage, BadLine, ReadFault, WriteFault, NoMemory, TooLong, Late}
use Rattle.proxy_replay.proofs.OneReading.{SaysOne, never_both}
use Rattle.proxy_replay.proofs.Starting.{client_fits}

pub known : (es : List (Event Nothing)) → IsKnown es
known es = record {
  headline = headline_holds tally_kind tally_rules StateKept keeps_laws client_key client_params client_fits es;
  turns = λ n e. turns_of tally_kind tally_rules client_key client_params (world_of (take n es)) e;
}

-- the store has one command
pub one_command : SaysOne says_nothing
one_command text nothing.Nothing nothing.Nothing p q = refl

-- a schedule whose report finds no fault is answered whole
pub run_completes : (status : Status) (text : List ℕ) (old new : Target) (es : List (Event Nothing)) → RunCase text old new status → (Rose old.faults new.faults → ⊥) → IsSchedule says_nothing text es → (status ≡ Done) ⊎ (status ≡ NoMemory)
run_completes Done text old new es h sound s = inl refl
run_completes NoMemory text old new es h sound s = inr refl
run_completes WriteFault text old new es h sound s = absurd (sound h.2.0)
run_completes (BadLine n) text old new es h sound s = absurd (never_both says_nothing text es n s h.0)
run_completes Usage text old new es h sound s = absurd h
run_completes ReadFault text old new es h sound s = absurd h
run_completes TooLong text old new es h sound s = absurd h
run_completes (Late n) text old new es h sound s = absurd h

pub no_usage : (status : Status) (text : List ℕ) (old new : Target) → RunCase text old new status → status ≢ Usage
no_usage Usage text old new h is = h
no_usage Done text old new h is = absurd cc
no_usage NoMemory text old new h is = absurd cc
no_usage WriteFault text old new h is = absurd cc
no_usage (BadLine n) text old new h is = absurd cc
no_usage ReadFault text old new h is = absurd cc
no_usage TooLong text old new h is = absurd cc
no_usage (Late n) text old new h is = absurd cc
