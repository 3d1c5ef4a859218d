use Rattle.std.proofs.Common.{◌≡◌, sym, ap, ◌∙◌, subst}
use Rattle.transfer_stages.specs.Exchange.{takes}
use Rattle.transfer_stages.specs.declared.stage.Stage.{Stage}
use Rattle.transfer_exchange.specs.Course.{Course, stage_of, goes, IsWithin}
use Rattle.transfer_exchange.proofs.Sending.{on_err}
use Rattle.transfer_exchange.proofs.Within.{takes_within}
use Rattle.transfer_exchange.proofs.exchange.Exchange.take.Goals as goal

pub returns-in_err-said-clause-no_memory : goal.returns-in_err-said-clause-no_memory
returns-in_err-said-clause-no_memory c = on_err c.from_residual.result _ (sym (ap stage_of c.self.view_is) ∙ c.in_err-said.ensures.no_memory)

-- the stage that is put is the one that the frame leads to
went : (c : goal.After-put) → c.put.new.place ≡ takes c.self.inside.key c.self.inside.params c.self.inside.stage c.args.f
went c =
    let key = c.self.inside.key in
    let params = c.self.inside.params in
    c.put.ensures
    ∙ c.after_frame.ensures key params (λ e. c.in_ok-said.ensures.ok (sym c.replace-stage.ensures.value ∙ e))
    ∙ ap (λ (x : Stage). takes key params x c.args.f) c.replace-stage.ensures.value

pub invariant_of-self : goal.invariant_of-self
invariant_of-self c = (subst (IsWithin c.self.inside.params) (sym (went c)) (takes_within c.self.inside.key c.self.inside.params c.self.inside.stage c.args.f c.self.invariant.0), c.self.invariant.1)

pub returns-clause-ok : goal.returns-clause-ok
returns-clause-ok c =
    ap (λ (x : Stage). record { key = c.self.inside.key; params = c.self.inside.params; stage = x }) (went c)
    ∙ ap (λ (e : Course). goes e (takes e.key e.params e.stage c.args.f)) c.self.view_is
