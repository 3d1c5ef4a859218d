use Rattle.std.proofs.Common.{◌≡◌, take}
use Rattle.session_blob.specs.Prepared.{without_prepared}
use Rattle.mini_parts.proofs.named.without.Given as goal

abbrev pub invariant-loop-place : goal.invariant-loop-place
invariant-loop-place l = l.rest ≡ without_prepared l.name (take l.place l.statements)
