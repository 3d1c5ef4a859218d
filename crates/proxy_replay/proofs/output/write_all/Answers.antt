use Rattle.std.proofs.Common.{◌++◌, take, drop, ap, ◌∙◌, arith, append_assoc}
use Rattle.std.proofs.lemmas.List.{take-append-drop}
use Rattle.proxy_replay.proofs.Told.{appends_then}
use Rattle.proxy_replay.proofs.output.write_all.Goals as goal

pub returns-in-Failed : goal.returns-in-Failed
returns-in-Failed g c =
    let w = rw c.in-Failed.is at c.write.ensures.by_case in
    let i = c.loop-rest.invariant.written in
    record { writing = (omega (arith, w.1, c.loop-rest.invariant.faults), (i.0, c.loop-rest.rest.now, i.1, w.0 ∙ i.2)) }

pub loop-rest-preserved : goal.loop-rest-preserved
loop-rest-preserved g c =
    let w = rw c.in-Took.is at c.write.ensures.by_case in
    let i = c.loop-rest.invariant.written in
    record {
      written = (_, rw c.split_at.ensures.back (append_assoc i.0 (take c.in-Took.n c.loop-rest.rest.now) (drop c.in-Took.n c.loop-rest.rest.now) ∙ ap (λ t. i.0 ++ t) (take-append-drop c.in-Took.n c.loop-rest.rest.now) ∙ i.1), appends_then (g.K.Sink.target c.args.sink.now) (g.K.Sink.target c.loop-rest.sink) (g.K.Sink.target c.write.new.self) i.0 (take c.in-Took.n c.loop-rest.rest.now) i.2 w.2);
      faults = omega (arith, c.write.ensures.faults, c.loop-rest.invariant.faults);
    }
