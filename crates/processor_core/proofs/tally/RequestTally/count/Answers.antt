use Rattle.std.proofs.Common.{refl}
use Rattle.processor_core.proofs.Counting.{asks_counted, last_one, last_plain_one}
use Rattle.processor_core.proofs.tally.RequestTally.count.Goals as goal

pub returns : goal.returns
returns c handed f e h =
    rw (c.counted-self.ensures, c.last_plain-self.ensures, c.is_ask.ensures, h, ← e, ← asks_counted handed f, last_one 0 handed f, last_plain_one handed f) refl
