use Rattle.std.proofs.Common.{◌++◌, codes}
use Rattle.sql_text.specs.Printing.{column_text, listed}
use Rattle.sql_text.proofs.Pieces.{both, closed}
use Rattle.sql_text.proofs.printer.Printer.create.Goals as goal

pub returns : goal.returns
returns c =
    let s = c.args.self.now in
    let t = c.args.table.now in
    closed s (codes "CREATE TABLE " ++ t) (codes " (") (listed column_text c.args.columns.now) (codes ")") c.table.new.self c.put.new.self c.columns.new.self c.put-2.new.self
    (both s (codes "CREATE TABLE ") t c.table.new.self c.in_ok-table.ensures) c.in_ok-put.ensures c.in_ok-columns.ensures c.in_ok-put-2.ensures
