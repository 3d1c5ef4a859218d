use Rattle.std.proofs.Common.{◌≡◌, take, map}
use Rattle.mini_store.specs.Pages.{joined}
use Rattle.mini_store.specs.Values.{changed}
use Rattle.mini_store.proofs.rows.Rows.with_values.Given as goal

abbrev pub invariant-loop-page : goal.invariant-loop-page
invariant-loop-page l = joined l.pages.items ≡ map (changed l.place l.value l.hit) (joined (take l.page-index l.page-items))
