use Rattle.std.proofs.Common.{◌≡◌, take, map}
use Rattle.std.specs.Prelude.{filter}
use Rattle.mini_store.specs.Pages.{joined}
use Rattle.mini_store.specs.Values.{hits, picked}
use Rattle.mini_store.proofs.rows.Rows.picked.Given as goal

abbrev pub invariant-loop-page : goal.invariant-loop-page
invariant-loop-page l = l.picked ≡ map (picked l.places) (filter (hits l.hit) (joined (take l.page-index l.page-items)))
