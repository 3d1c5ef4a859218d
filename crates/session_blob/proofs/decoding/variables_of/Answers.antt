use Rattle.std.proofs.Common.{[]}
use Rattle.std.proofs.lemmas.Result.{err_from_is_err_and}
use Rattle.pgw_messages.specs.declared.params.Pair.{Pair}
use Rattle.session_blob.specs.Reading.{named_at, variable_at}
use Rattle.session_blob.proofs.Loops.{goes_on, stops}
use Rattle.session_blob.proofs.decoding.variables_of.Goals as goal

pub returns-in_err-variable : goal.returns-in_err-variable
returns-in_err-variable c =
    let p = err_from_is_err_and c.from_residual.result c.from_residual.ensures.1 in
    rw (p.1, p.2) (stops (λ (q : Pair). q.name) variable_at c.in_err-variable.field-0.0 c.loop.variables c.args.count c.loop.counter c.loop.r (named_at (λ (q : Pair). q.name) variable_at c.args.count [] c.args.r.now) c.loop-test.true c.in_err-variable.ensures c.loop.invariant)

pub loop-preserved : goal.loop-preserved
loop-preserved c =
    goes_on (λ (q : Pair). q.name) variable_at c.loop.variables c.args.count c.loop.counter c.loop.r c.variable.new.variables c.variable.new.r (named_at (λ (q : Pair). q.name) variable_at c.args.count [] c.args.r.now) c.loop-test.true c.in_ok-variable.ensures c.loop.invariant
