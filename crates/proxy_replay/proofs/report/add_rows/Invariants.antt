use Rattle.std.proofs.Common.{◌≡◌, ◌++◌, length}
use Rattle.proxy_replay.specs.Report.{hex_lines}
use Rattle.proxy_replay.proofs.report.add_rows.Given as goal

abbrev pub invariant-loop-rest : goal.invariant-loop-rest
invariant-loop-rest l = l.out ++ hex_lines l.rest ≡ l.fn.out ++ hex_lines l.bytes

abbrev pub decreases-loop-rest : goal.decreases-loop-rest
decreases-loop-rest l = length l.rest
