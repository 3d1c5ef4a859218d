use Rattle.std.proofs.Common.{List, length, ap, subst, arith}
use Rattle.forwarder_world.specs.World.{run}
use Rattle.forwarder_world.specs.declared.event.Event.{Event}
use Rattle.generated_run.specs.Generated.{generated}
use Rattle.tally_session.specs.Tally.{tally_kind, tally_rules}
use Rattle.tally_session.specs.declared.store.Nothing.{Nothing}
use Rattle.proxy_replay.specs.Client.{client_key, client_params}
use Rattle.proxy_replay.specs.Generating.{world_of, IsAt}
use Rattle.proxy_replay.proofs.Turns.{played_more}
use Rattle.proxy_replay.proofs.generated.play_turn.Goals as goal

pub returns-clause-played : goal.returns-clause-played
returns-clause-played c = λ number before.
    let w = world_of (generated number c.args.turn_number) in
    let ran = c.in_ok-run.ensures.stands client_key client_params w before.world in
    played_more number c.args.turn_number c.args.made.now _ c.args.world.now c.run.new.self c.in_ok-events.events.items before c.in_ok-events.ensures.events c.in_ok-events.ensures.short (omega (arith, c.len.ensures, c.as_slice.ensures.len, ap length c.as_slice.ensures.value))
    (subst (λ (e : List (Event Nothing)). IsAt c.run.new.self (run tally_kind tally_rules client_key client_params w e)) c.as_slice.ensures.value ran)
