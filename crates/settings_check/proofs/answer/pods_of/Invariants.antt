use Rattle.std.proofs.Common.{◌≡◌, ◌≤◌, ◌+◌, ◌*◌, drop}
use Rattle.settings_check.specs.Answers.{pods_of}
use Rattle.settings_check.proofs.answer.pods_of.Given as goal

abbrev pub invariant-loop-row : goal.invariant-loop-row
invariant-loop-row l = record {
  total : l.pods + pods_of (drop l.row-index l.rows) ≡ pods_of l.rows;
  most : l.pods ≤ l.row-index * 1000;
}
