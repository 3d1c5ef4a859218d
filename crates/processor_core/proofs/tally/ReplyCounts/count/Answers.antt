use Rattle.std.proofs.Common.{◌∙◌, sym}
use Rattle.processor_core.proofs.Counting.{readies_counted, last_one}
use Rattle.processor_core.proofs.tally.ReplyCounts.count.Goals as goal

pub returns : goal.returns
returns c handed f e h = record {
  zs_is = rw (c.counted-self.ensures, h.zs_is, ← e) (readies_counted handed f);
  last_is = sym e ∙ sym (last_one 0 handed f);
}
