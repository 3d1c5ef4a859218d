use Rattle.std.proofs.Common.{◌≡◌, take}
use Rattle.mini_store.specs.Values.{picked}
use Rattle.mini_store.proofs.row.StoredRow.picked.Given as goal

abbrev pub invariant-loop-place : goal.invariant-loop-place
invariant-loop-place l = l.row ≡ picked (take l.place-index l.places) l.self
