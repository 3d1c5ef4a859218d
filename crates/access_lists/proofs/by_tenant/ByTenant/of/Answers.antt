use Rattle.std.proofs.Common.{◌<◌, length, take, rules}
use Rattle.access_lists.proofs.Listed.{lists_next}
use Rattle.access_lists.proofs.by_tenant.ByTenant.of.Goals as goal

pub loop-allow-preserved : goal.loop-allow-preserved
loop-allow-preserved c =
    let before : c.loop-allow.allow-index < length c.args.allows.now = search rules in
    record { made = lists_next c.add.new.self.lists c.args.allows.now c.loop-allow.allow-index _ before (c.in_ok-add.ensures.ok (take c.loop-allow.allow-index c.args.allows.now) c.loop-allow.invariant.made) }
