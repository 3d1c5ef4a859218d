use Rattle.std.proofs.Common.{◌++◌, codes, ap, ◌∙◌}
use Rattle.sql_text.specs.Printing.{quoted_text}
use Rattle.sql_text.proofs.Pieces.{then_more}
use Rattle.sql_text.proofs.printer.Printer.restore.Goals as goal

pub returns : goal.returns
returns c =
    let s = c.args.self.now in
    let before = codes "SELECT crdb_internal.deserialize_session(decode(" in
    let text = quoted_text c.args.state.now in
    then_more s (before ++ text) (codes ",'base64'))") c.quoted.new.self c.put-2.new.self
    (then_more s before text c.put.new.self c.quoted.new.self c.in_ok-put.ensures (c.in_ok-quoted.ensures ∙ ap (λ t. c.put.new.self ++ quoted_text t) c.as_str.ensures)) c.in_ok-put-2.ensures
