use Rattle.std.proofs.Common.{◌≡◌, ◌≤◌, ◌+◌, drop, length}
use Rattle.std.specs.Prelude.{min}
use Rattle.mini_store.specs.Pages.{joined}
use Rattle.mini_store.proofs.rows.Rows.len.Given as goal

abbrev pub invariant-loop-page : goal.invariant-loop-page
invariant-loop-page l = record {
  bound : l.count ≤ 18446744073709551615;
  is : min (l.count + length (joined (drop l.page-index l.page-items))) 18446744073709551615 ≡ min (length l.self) 18446744073709551615;
}
