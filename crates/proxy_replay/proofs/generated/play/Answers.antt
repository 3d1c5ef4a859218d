use Rattle.std.proofs.Common.{◌≡◌, ℕ, subst, arith}
use Rattle.proxy_replay.specs.Generating.{IsPlayed}
use Rattle.proxy_replay.proofs.generated.play.Goals as goal

pub loop-i-init : goal.loop-i-init
loop-i-init c = (c.in_ok-made.ensures.few, c.in_ok-made.ensures.played)

pub play_turn-requires : goal.play_turn-requires
play_turn-requires c = c.loop-i.invariant.0

pub loop-i-preserved : goal.loop-i-preserved
loop-i-preserved c = (c.in_ok-play_turn.ensures.few, λ begun. c.in_ok-play_turn.ensures.played c.args.g.now.number (c.loop-i.invariant.1 begun))

pub returns : goal.returns
returns c = λ begun.
    let last : c.loop-i.i ≡ c.args.g.now.messages = omega (arith, c.loop-i-test.false, c.loop-i.auto.i-end) in
    let p = c.loop-i.invariant.1 begun in
    subst (λ (k : ℕ). IsPlayed c.args.g.now.number k c.loop-i.made.events c.loop-i.world) last (record { events = p.events; world = p.world })
