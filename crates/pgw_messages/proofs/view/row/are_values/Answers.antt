use Rattle.pgw_messages.specs.Reading.{value_at}
use Rattle.pgw_messages.specs.Views.{is_whole}
use Rattle.pgw_messages.proofs.ViewLemmas.{goes_on, stops}
use Rattle.pgw_messages.proofs.view.row.are_values.Goals as goal

pub returns-in-None : goal.returns-in-None
returns-in-None c = stops value_at c.args.count c.loop.counter c.loop.rest.now (is_whole value_at c.args.count c.args.bytes.now) c.loop-test.true c.in-None.ensures c.loop.invariant

pub loop-preserved : goal.loop-preserved
loop-preserved c = goes_on value_at c.args.count c.loop.counter c.loop.rest.now _ c.in-Some.more.now (is_whole value_at c.args.count c.args.bytes.now) c.loop-test.true c.in-Some.ensures c.loop.invariant
