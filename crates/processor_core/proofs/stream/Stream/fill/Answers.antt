use Rattle.processor_core.proofs.Cutting.{cuts-append}
use Rattle.processor_core.proofs.stream.Stream.fill.Goals as goal

pub returns-clause-ok : goal.returns-clause-ok
returns-clause-ok g c =
    let r = c.in_ok-took.ensures.ok in (
      r.0,
      r.1,
      λ fed handed suspended h. record {
        cuts = rw r.2 (cuts-append handed c.args.self.now.cutter fed r.0 h.cuts);
        suspended_is = h.suspended_is;
      },
    )
