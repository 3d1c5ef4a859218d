use Rattle.std.proofs.Common.{◌≡◌, List, length, ap, subst, ◌∙◌, arith}
use Rattle.forwarder_world.specs.World.{run, start}
use Rattle.forwarder_world.specs.declared.event.Event.{Event}
use Rattle.generated_run.specs.Generated.{first_events}
use Rattle.tally_session.specs.Tally.{tally_kind, tally_rules}
use Rattle.tally_session.specs.declared.store.Nothing.{Nothing}
use Rattle.proxy_replay.specs.Client.{client_key, client_params}
use Rattle.proxy_replay.specs.Generating.{IsAt}
use Rattle.proxy_replay.proofs.Turns.{played_none}
use Rattle.proxy_replay.proofs.generated.open.Goals as goal

pub returns-clause-few : goal.returns-clause-few
returns-clause-few c =
    let es : c.as_slice.result.now ≡ first_events = c.as_slice.ensures.value ∙ c.in_ok-events.ensures in
    omega (arith, c.len.ensures, c.as_slice.ensures.len, ap length es)

pub returns-clause-played : goal.returns-clause-played
returns-clause-played c = λ begun.
    let ran = c.in_ok-run.ensures.stands client_key client_params (start tally_kind tally_rules client_params) begun in
    let es : c.as_slice.result.now ≡ first_events = c.as_slice.ensures.value ∙ c.in_ok-events.ensures in
    played_none c.args.number _ c.run.new.self c.of.ensures (omega (arith, c.len.ensures, c.as_slice.ensures.len, ap length es))
    (subst (λ (e : List (Event Nothing)). IsAt c.run.new.self (run tally_kind tally_rules client_key client_params (start tally_kind tally_rules client_params) e)) es ran)
