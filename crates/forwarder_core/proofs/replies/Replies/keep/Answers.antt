use Rattle.std.proofs.Common.{◌≡◌, true, false, sym, ◌∙◌}
use Rattle.std.specs.Prelude.{◌==◌}
use Rattle.std.proofs.lemmas.Bool.{eq-eqb}
use Rattle.forwarder_core.proofs.Reading.{not_eq}
use Rattle.forwarder_core.proofs.Passing.{greeted_so, greeting_so}
use Rattle.forwarder_core.proofs.replies.Replies.keep.Goals as goal

pub returns-then-tag-eq-READY_FOR_QUERY : goal.returns-then-tag-eq-READY_FOR_QUERY
returns-then-tag-eq-READY_FOR_QUERY c f passed tag none h =
    let z : (f.tag == 90) ≡ true = eq-eqb f.tag 90 (tag ∙ c.if-tag-eq-READY_FOR_QUERY.true) in
    greeted_so c.args.self.now.greeting c.behind.result c.args.cutter passed f c.requires none z c.behind.ensures

pub returns-else-tag-eq-READY_FOR_QUERY : goal.returns-else-tag-eq-READY_FOR_QUERY
returns-else-tag-eq-READY_FOR_QUERY c f passed tag none h =
    let z : (f.tag == 90) ≡ false = not_eq f.tag 90 (λ e. c.if-tag-eq-READY_FOR_QUERY.false (sym tag ∙ e)) in
    greeting_so c.args.self.now.response c.args.cutter passed f none z h
