use Rattle.session_blob.proofs.Added.{variable_added}
use Rattle.session_blob.proofs.decoding.variable.Goals as goal

pub returns : goal.returns
returns c =
    variable_added c.args.variables.now c.args.r.now c.in_ok-name.name.now c.text.new.self c.in_ok-value.value.now c.text-2.new.self c.put.new.self c.has.result c.in_ok-name.ensures c.has.ensures c.if-has.false c.in_ok-value.ensures c.in_ok-put.ensures.ok
