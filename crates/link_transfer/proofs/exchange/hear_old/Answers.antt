use Rattle.std.proofs.Common.{rules}
use Rattle.link_transfer.proofs.Messages.{so_none, so_over, broke_left, rest_of_dues}
use Rattle.link_transfer.proofs.Running.{on_goes, old_on, old_all}
use Rattle.link_transfer.proofs.Losing.{lost_end}
use Rattle.link_transfer.proofs.exchange.hear_old.Goals as goal

pub returns-then-ne : goal.returns-then-ne
returns-then-ne g c = (
  old_all c.args.x.now c.loop-at.x c.hear.new.x c.loop-at.waits c.in-On.w c.args.patience c.loop-at.at _ _ _ c.in-On.ensures.0 c.loop-at.invariant.same c.in-On.ensures.2 c.loop-at.invariant.so c.loop-at.invariant.awaits c.in-On.ensures.1 (search rules),
  on_goes c.args.x.now c.loop-at.x c.hear.new.x c.in-On.ensures.0 c.loop-at.invariant.same c.in-On.ensures.2,
)

pub returns-in-Lost : goal.returns-in-Lost
returns-in-Lost g c =
    lost_end c.drain_behind.result c.lost_or.result c.args.x.now c.hear.new.x c.loop-at.waits c.in-Lost.w c.args.patience c.in-Lost.tag c.loop-at.at _ _ _ _ c.loop-at.x.stage _ c.lost_or.ensures (rest_of_dues c.loop-at.at (search rules)) c.loop-at.invariant.so c.in-Lost.ensures.0 c.drain_behind.ensures

pub loop-at-preserved : goal.loop-at-preserved
loop-at-preserved g c = record {
  same = on_goes c.args.x.now c.loop-at.x c.hear.new.x c.in-On.ensures.0 c.loop-at.invariant.same c.in-On.ensures.2;
  so = old_on c.args.x.now c.loop-at.x c.hear.new.x c.loop-at.waits c.in-On.w c.args.patience c.loop-at.at _ _ _ c.in-On.ensures.0 c.loop-at.invariant.same c.in-On.ensures.2 c.loop-at.invariant.so c.loop-at.invariant.awaits c.in-On.ensures.1 (search rules);
  awaits = search rules;
  patient = c.in-On.ensures.1.patient;
}
