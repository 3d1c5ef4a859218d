use Rattle.std.proofs.Common.{◌++◌, codes}
use Rattle.sql_text.proofs.Pieces.{both, then_more}
use Rattle.sql_text.proofs.printer.Printer.copy.Goals as goal

pub returns : goal.returns
returns c =
    let s = c.args.self.now in
    let t = c.args.table.now in
    then_more s (codes "COPY " ++ t) (codes " FROM STDIN") c.table.new.self c.put.new.self (both s (codes "COPY ") t c.table.new.self c.in_ok-table.ensures) c.in_ok-put.ensures
