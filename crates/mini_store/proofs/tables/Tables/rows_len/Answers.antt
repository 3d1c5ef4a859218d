use Rattle.std.proofs.Common.{◌≤◌, drop, length, ap, arith}
use Rattle.std.proofs.lemmas.List.{drop_all}
use Rattle.mini_store.proofs.Places.{counted}
use Rattle.mini_store.proofs.tables.Tables.rows_len.Goals as goal

pub returns : goal.returns
returns c =
    let all : length c.args.self.now ≤ c.loop-table.table-index = omega (arith, c.loop-table-test.false, c.deref-table-items.ensures.len, ap length c.self.view_is, ap length c.deref-table-items.ensures.value) in
    counted c.loop-table.count 18446744073709551615 (drop c.loop-table.table-index c.args.self.now) c.args.self.now (drop_all c.loop-table.table-index c.args.self.now all) c.loop-table.invariant.bound c.loop-table.invariant.is
