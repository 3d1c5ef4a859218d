use Rattle.std.proofs.Common.{◌≡◌, List, ℕ, length, subst}
use Rattle.std.specs.Prelude.{IfOk}
use Rattle.generated_run.specs.Generated.{generated}
use Rattle.proxy_replay.specs.Client.{client_key, client_params}
use Rattle.proxy_replay.specs.Generating.{world_of, summary_after, HasBegun, IsKnown}
use Rattle.proxy_replay.proofs.Common.{if_ok_under, if_ok_with}
use Rattle.proxy_replay.proofs.Ends.{known}
use Rattle.proxy_replay.proofs.Turns.{told}
use Rattle.proxy_replay.proofs.generated.summary_of.Goals as goal

pub returns : goal.returns
returns c =
    let number = c.args.g.now.number in
    let messages = c.args.g.now.messages in
    let w = world_of (generated number messages) in
    if_ok_under c.text.result (HasBegun c.args.world.now) _ (λ begun.
    let played = c.in_ok-events.ensures begun in
    let same = told number messages c.in_ok-events.events c.phase.result.now c.counts.result c.received.result.now (length (generated number messages)) w played.events
    (c.phase.ensures client_key client_params w played.world) (c.counts.ensures client_key client_params w played.world) (c.received.ensures.stands client_key client_params w played.world) in
    if_ok_with c.text.result (λ b. b ≡ summary_after number messages) (IsKnown (generated number messages)) (known (generated number messages)) (subst (λ (t : List ℕ). IfOk c.text.result (λ b. b ≡ t)) same c.text.ensures))
