use Rattle.std.proofs.Common.{◌++◌, codes}
use Rattle.sql_text.specs.Printing.{listed, value_text}
use Rattle.sql_text.proofs.Pieces.{both, closed}
use Rattle.sql_text.proofs.printer.Printer.insert.Goals as goal

pub returns : goal.returns
returns c =
    let s = c.args.self.now in
    let t = c.args.table.now in
    closed s (codes "INSERT INTO " ++ t) (codes " VALUES (") (listed value_text c.args.values.now) (codes ")") c.table.new.self c.put.new.self c.values.new.self c.put-2.new.self
    (both s (codes "INSERT INTO ") t c.table.new.self c.in_ok-table.ensures) c.in_ok-put.ensures c.in_ok-values.ensures c.in_ok-put-2.ensures
