use Rattle.mini_parts.proofs.Others.{one_more}
use Rattle.mini_parts.proofs.named.without.Goals as goal

pub loop-place-preserved : goal.loop-place-preserved
loop-place-preserved c =
    one_more c.args.name.now c.args.statements.now c.loop-place.rest c.put_other.new.rest c.loop-place.place _ c.len-place-end.ensures.distinct c.in_ok-put_other.ensures c.at.ensures c.loop-place.invariant
