use Rattle.std.proofs.Common.{◌≤◌, ◌+◌, ◌*◌}
use Rattle.proxy_replay.specs.Generating.{HasBegun, IsPlayedTo}
use Rattle.proxy_replay.proofs.generated.play.Given as goal

abbrev pub invariant-loop-i : goal.invariant-loop-i
invariant-loop-i l = (l.made.events ≤ 64 * l.i + 4) × (HasBegun l.fn.world → IsPlayedTo l.fn.g.number l.i l.made l.world)
