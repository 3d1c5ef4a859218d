use Rattle.pgw_messages.specs.Startup.{pairs_at}
use Rattle.pgw_messages.proofs.FieldLemmas.{pairs_begin, pair_smaller, pair_goes_on}
use Rattle.pgw_messages.proofs.startup.read_pairs.Goals as goal

pub loop-params-init : goal.loop-params-init
loop-params-init c = rw c.new-params.ensures (pairs_begin c.args.r.now)

pub loop-params-smaller : goal.loop-params-smaller
loop-params-smaller c =
    pair_smaller c.loop-params.r c.ends.new.self c.in_ok-name.name.now c.str.new.self c.in_ok-value.value.now c.str-in-loop-params.new.self c.in_ok-ends.field-0 c.in_ok-ends.ensures c.if-not-branch.true c.in_ok-name.ensures c.in_ok-value.ensures

pub loop-params-preserved : goal.loop-params-preserved
loop-params-preserved c =
    rw c.in_ok-params.ensures (pair_goes_on c.loop-params.params c.loop-params.r c.ends.new.self c.in_ok-name.name.now c.str.new.self c.in_ok-value.value.now c.str-in-loop-params.new.self c.in_ok-ends.field-0 (pairs_at c.args.r.now)
    c.loop-params.invariant c.in_ok-ends.ensures c.if-not-branch.true c.in_ok-name.ensures c.in_ok-value.ensures)
