use Rattle.std.proofs.Common.{[]}
use Rattle.std.proofs.lemmas.Result.{err_from_is_err_and}
use Rattle.session_blob.specs.Prepared.{Prepared}
use Rattle.session_blob.specs.Reading.{named_at, prepared_at}
use Rattle.session_blob.proofs.Loops.{goes_on, stops}
use Rattle.session_blob.proofs.decoding.statements_of.Goals as goal

pub returns-in_err-statement : goal.returns-in_err-statement
returns-in_err-statement c =
    let p = err_from_is_err_and c.from_residual.result c.from_residual.ensures.1 in
    rw (p.1, p.2) (stops (λ (x : Prepared). x.name) prepared_at c.in_err-statement.field-0.0 c.loop.statements c.args.count c.loop.counter c.loop.r (named_at (λ (x : Prepared). x.name) prepared_at c.args.count [] c.args.r.now) c.loop-test.true c.in_err-statement.ensures c.loop.invariant)

pub loop-preserved : goal.loop-preserved
loop-preserved c =
    goes_on (λ (x : Prepared). x.name) prepared_at c.loop.statements c.args.count c.loop.counter c.loop.r c.statement.new.statements c.statement.new.r (named_at (λ (x : Prepared). x.name) prepared_at c.args.count [] c.args.r.now) c.loop-test.true c.in_ok-statement.ensures c.loop.invariant
