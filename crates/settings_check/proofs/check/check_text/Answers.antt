use Rattle.std.proofs.Common.{◌≡◌, ℕ, List, subst, ◌∙◌}
use Rattle.settings_check.specs.Checking.{AnswersBy}
use Rattle.settings_check.proofs.Ends.{text_case, completes}
use Rattle.settings_check.proofs.check.check_text.Goals as goal

pub returns-in-All-clause-causes : goal.returns-in-All-clause-causes
returns-in-All-clause-causes g c =
    let t = rw c.in-All.is at c.read_text.ensures.text in
    let text : c.as_slice.result.now ≡ t.0 = c.as_slice.ensures ∙ t.2.0 in (
      t.0,
      t.1,
      text_case c.answer.result (g.S.Source.origin c.args.settings.now) (g.S.Source.origin c.read_text.new.source) (g.K.Sink.target c.args.out.now) (g.K.Sink.target c.answer.new.out) t.0 c.args.question.now t.2.1
          (subst (λ (b : List ℕ). AnswersBy c.answer.result b c.args.question.now (g.K.Sink.target c.args.out.now) (g.K.Sink.target c.answer.new.out)) text c.answer.ensures),
    )

pub returns-in-All-clause-complete : goal.returns-in-All-clause-complete
returns-in-All-clause-complete g c no_read_fault no_write_fault few given =
    let t = rw c.in-All.is at c.read_text.ensures.text in
    let text : c.as_slice.result.now ≡ t.0 = c.as_slice.ensures ∙ t.2.0 in
    let good = given t.0 t.1 in
    completes c.answer.result (g.K.Sink.target c.args.out.now) (g.K.Sink.target c.answer.new.out) t.0 c.args.question.now good.1.0
    (subst (λ (b : List ℕ). AnswersBy c.answer.result b c.args.question.now (g.K.Sink.target c.args.out.now) (g.K.Sink.target c.answer.new.out)) text c.answer.ensures) no_write_fault good.1.1
