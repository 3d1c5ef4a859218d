-- A schedule that is made from a number, turn by turn.
use Rattle.std.proofs.Common.{◌≡◌, ◌≤◌, ℕ, suc, ◌+◌, List, ◌++◌, length, refl, sym, ap, subst, ◌∙◌, arith}
use Rattle.std.proofs.lemmas.List.{length-append}
use Rattle.rand_pcg.specs.Lcg.{Lcg}
use Rattle.forwarder_world.specs.World.{World, run, start, phase_of, counts_of}
use Rattle.forwarder_world.specs.declared.event.Event.{Event}
use Rattle.forwarder_core.specs.declared.world.World.{World as Real}
use Rattle.forwarder_core.proofs.Schedules.{run-append}
use Rattle.generated_run.specs.Generated.{generated, first_events, turn, turns, words_of}
use Rattle.tally_session.specs.Tally.{State, tally_kind, tally_rules}
use Rattle.tally_session.specs.declared.store.Nothing.{Nothing}
use Rattle.proxy_replay.specs.Client.{client_params, client_key}
use Rattle.forwarder_world.specs.declared.counts.Counts.{Counts}
use Rattle.forwarder_world.specs.declared.event.Phase.{Phase}
use Rattle.proxy_replay.specs.Generating.{world_of, summary_by, IsAt, IsPlayedTo}
use Rattle.proxy_replay.specs.Summary.{summary_text}
use Rattle.proxy_replay.specs.declared.generated.Made.{Made}

pub played_none : {M : Type 0} (number : ℕ) (made : Made) (real : Real State M Nothing Nothing) → made.words ≡ words_of number → made.events ≡ 4 → IsAt real (world_of first_events) → IsPlayedTo number 0 made real
unfolding turns
played_none number made real words events world = record { words = words; events = events; few = omega arith; world = world }

-- the parts of a turn
parts : (n : ℕ) (g h : Lcg) (es : List (Event Nothing)) → (es, h) ≡ turn n g → (es ≡ (turn n g).0) × (h ≡ (turn n g).1)
parts n g h es is = (ap (λ (t : List (Event Nothing) × Lcg). t.0) is, ap (λ (t : List (Event Nothing) × Lcg). t.1) is)

pub played_more : {M : Type 0} (number n : ℕ) (made more : Made) (real further : Real State M Nothing Nothing) (es : List (Event Nothing)) → IsPlayedTo number n made real → (es, more.words) ≡ turn n made.words → length es ≤ 64
    → more.events ≡ made.events + length es → IsAt further (run tally_kind tally_rules client_key client_params (world_of (generated number n)) es) → IsPlayedTo number (n + 1) more further
unfolding turns
played_more number n made more real further es before is short events world =
    let one : suc n ≡ n + 1 = omega arith in
    let so_far = turns n (words_of number) in
    let t = parts n made.words more.words es is in
    let same : es ≡ (turn n so_far.1).0 = t.0 ∙ ap (λ (w : Lcg). (turn n w).0) before.words in
    let all : generated number (suc n) ≡ generated number n ++ es = ap (λ (x : List (Event Nothing)). generated number n ++ x) (sym same) in
    subst (λ (k : ℕ). IsPlayedTo number k more further) one (record {
      words = t.1 ∙ ap (λ (w : Lcg). (turn n w).1) before.words;
      events = events ∙ ap (λ (k : ℕ). k + length es) before.events ∙ sym (length-append (generated number n) es) ∙ ap length (sym all);
      few = omega (arith, before.few);
      world = subst (IsAt further) (sym (run-append tally_kind tally_rules client_key client_params (start tally_kind tally_rules client_params) (generated number n) es) ∙ ap world_of (sym all)) world;
    })

-- what is told of a world
pub told : (number messages n : ℕ) (phase : Phase) (counts : Counts) (received : List ℕ) (m : ℕ) (w : World State (Unit {0}) Nothing) → n ≡ m → phase ≡ phase_of w.mode → counts ≡ counts_of w → received ≡ w.received
    → summary_text number messages n phase counts received ≡ summary_by number messages m w
unfolding summary_by
told number messages n phase counts received m w same_n same_phase same_counts same_received = rw (same_n, same_phase, same_counts, same_received) refl
