use Rattle.std.proofs.Common.{◌++◌, codes}
use Rattle.sql_text.specs.Printing.{filter_text}
use Rattle.sql_text.proofs.Pieces.{both, then_more}
use Rattle.sql_text.proofs.printer.Printer.delete.Goals as goal

pub returns : goal.returns
returns c =
    let s = c.args.self.now in
    let t = c.args.table.now in
    then_more s (codes "DELETE FROM " ++ t) (filter_text c.args.filter.now) c.table.new.self c.filter.new.self (both s (codes "DELETE FROM ") t c.table.new.self c.in_ok-table.ensures) c.in_ok-filter.ensures
