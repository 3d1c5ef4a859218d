use Rattle.std.proofs.Common.{◌≡◌, take, length}
use Rattle.std.specs.Prelude.{filter}
use Rattle.mini_store.specs.Pages.{joined}
use Rattle.mini_store.specs.Values.{hits}
use Rattle.mini_store.proofs.rows.Rows.count.Given as goal

abbrev pub invariant-loop-page : goal.invariant-loop-page
invariant-loop-page l = l.count ≡ length (filter (hits l.hit) (joined (take l.page-index l.page-items)))
