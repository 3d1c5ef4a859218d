use Rattle.processor_core.proofs.Cutting.{cuts-append}
use Rattle.processor_core.proofs.stream.Stream.feed.Goals as goal

pub returns-clause-ok : goal.returns-clause-ok
returns-clause-ok c fed handed suspended h = record {
  cuts = rw c.in_ok-feed.ensures.ok (cuts-append handed c.args.self.now.cutter fed c.args.piece.now h.cuts);
  suspended_is = h.suspended_is;
}
