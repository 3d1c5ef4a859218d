use Rattle.std.proofs.Common.{refl, sym, ◌∙◌}
use Rattle.forwarder_core.proofs.Passing.{whole_answer, no_answer}
use Rattle.forwarder_core.proofs.replies.Replies.greet.Goals as goal

pub returns-in-Some-clause-next : goal.returns-in-Some-clause-next
returns-in-Some-clause-next c passed greets h =
    let r = c.in_ok-next.field-0 in
    let e = whole_answer r c.in-Some.f c.args.cutter c.next.new.self (sym c.whole.ensures.value ∙ c.in-Some.is) c.in_ok-next.ensures.ok in
    (c.next.new.self, e, c.keep.ensures c.in-Some.f passed refl greets h)

pub returns-in-None-clause-next : goal.returns-in-None-clause-next
returns-in-None-clause-next c passed greets h =
    let r = c.in_ok-next.field-0 in
    let e = no_answer r c.args.cutter c.next.new.self (sym c.whole.ensures.value ∙ c.in-None.is) c.in_ok-next.ensures.ok in
    (e.0, (e.1, greets, h))
