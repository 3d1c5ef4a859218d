use Rattle.std.proofs.Common.{◌≡◌, take}
use Rattle.std.specs.Prelude.{filter}
use Rattle.mini_store.specs.Pages.{joined}
use Rattle.mini_store.specs.Values.{misses}
use Rattle.mini_store.proofs.rows.Rows.without.Given as goal

abbrev pub invariant-loop-page : goal.invariant-loop-page
invariant-loop-page l = joined l.pages.items ≡ filter (misses l.hit) (joined (take l.page-index l.page-items))
