use Rattle.std.proofs.Common.{Option, None, Some, ap, ◌∙◌}
use Rattle.cancel_keys.specs.declared.given.Given.{Given}
use Rattle.cancel_keys.specs.Tables.{target_by}
use Rattle.cancel_keys.proofs.Changes.{key_found, opened, shut}
use Rattle.cancel_keys.proofs.keys.Keys.find.Goals as goal

pub returns-in_err-given : goal.returns-in_err-given
returns-in_err-given c =
    c.from_residual.ensures
    ∙ ap (λ (o : Option Given). target_by o c.args.key.secret c.args.addr.now)
    (key_found c.args.self.now c.self.inside.given (record { 0 = c.args.key.process }) c.get.result None c.self.view_is c.in_err-given.was c.get.ensures.value)

pub returns-then-opens : goal.returns-then-opens
returns-then-opens c =
    opened c.in_ok-given.given.now c.args.key.secret c.args.addr.now c.opens.result c.opens.ensures c.if-opens.true
    ∙ ap (λ (o : Option Given). target_by o c.args.key.secret c.args.addr.now)
    (key_found c.args.self.now c.self.inside.given (record { 0 = c.args.key.process }) c.get.result (Some c.in_ok-given.given) c.self.view_is c.in_ok-given.was c.get.ensures.value)

pub returns : goal.returns
returns c =
    shut c.in_ok-given.given.now c.args.key.secret c.args.addr.now c.opens.result c.opens.ensures c.if-opens.false
    ∙ ap (λ (o : Option Given). target_by o c.args.key.secret c.args.addr.now)
    (key_found c.args.self.now c.self.inside.given (record { 0 = c.args.key.process }) c.get.result (Some c.in_ok-given.given) c.self.view_is c.in_ok-given.was c.get.ensures.value)
