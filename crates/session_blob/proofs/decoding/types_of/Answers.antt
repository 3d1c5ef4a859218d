use Rattle.std.specs.Int.{w32}
use Rattle.std.proofs.lemmas.Result.{err_from_is_err_and}
use Rattle.pgw_messages.specs.Reading.{many_at, number_at}
use Rattle.pgw_messages.proofs.Lists.{goes_on, stops}
use Rattle.session_blob.proofs.decoding.types_of.Goals as goal

pub returns-in_err-u32 : goal.returns-in_err-u32
returns-in_err-u32 c =
    let p = err_from_is_err_and c.from_residual.result c.from_residual.ensures.1 in
    rw (p.1, p.2) (stops c.in_err-u32.field-0.0 (number_at w32) c.loop.types c.args.count c.loop.counter c.loop.r (many_at (number_at w32) c.args.count c.args.r.now) c.loop-test.true c.in_err-u32.ensures c.loop.invariant)

pub loop-preserved : goal.loop-preserved
loop-preserved c =
    rw c.in_ok-push.ensures (goes_on (number_at w32) c.loop.types c.args.count c.loop.counter c.loop.r c.in_ok-u32.field-0 c.u32.new.self (many_at (number_at w32) c.args.count c.args.r.now) c.loop-test.true c.in_ok-u32.ensures c.loop.invariant)
