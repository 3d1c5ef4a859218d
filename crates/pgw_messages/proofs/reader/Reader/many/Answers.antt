use Rattle.std.proofs.lemmas.Result.{err_from_is_err_and}
use Rattle.pgw_messages.specs.Reading.{many_at}
use Rattle.pgw_messages.proofs.Lists.{goes_on, stops}
use Rattle.pgw_messages.proofs.reader.Reader.many.Goals as goal

pub returns-in_err-read : goal.returns-in_err-read
returns-in_err-read g c =
    let p = err_from_is_err_and c.from_residual.result c.from_residual.ensures.1 in
    rw (p.1, p.2) (stops c.in_err-read.field-0.0 g.T.Item.at c.loop.items c.args.count c.loop.counter c.loop.self (many_at g.T.Item.at c.args.count c.args.self.now) c.loop-test.true c.in_err-read.ensures c.loop.invariant)

pub loop-preserved : goal.loop-preserved
loop-preserved g c =
    rw c.in_ok-push.ensures.ok (goes_on g.T.Item.at c.loop.items c.args.count c.loop.counter c.loop.self c.in_ok-read.field-0 c.read.new.r (many_at g.T.Item.at c.args.count c.args.self.now) c.loop-test.true c.in_ok-read.ensures c.loop.invariant)
