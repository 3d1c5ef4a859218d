use Rattle.session_blob.proofs.Added.{statement_added}
use Rattle.session_blob.proofs.decoding.statement.Goals as goal

pub returns : goal.returns
returns c =
    statement_added c.args.statements.now c.args.r.now c.in_ok-name.name.now c.text.new.self c.in_ok-text.field-0.now c.text-2.new.self c.in_ok-types.types c.types.new.r c.in_ok-query.query c.put_owned.new.self c.has.result c.in_ok-name.ensures c.has.ensures c.if-has.false c.in_ok-text.ensures c.in_ok-query.ensures c.in_ok-types.ensures c.in_ok-put_owned.ensures.ok
