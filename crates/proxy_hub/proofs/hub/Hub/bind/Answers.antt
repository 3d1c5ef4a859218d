use Rattle.std.proofs.Common.{sym, ◌∙◌}
use Rattle.proxy_hub.proofs.Behind.{binds, bound_stands}
use Rattle.proxy_hub.proofs.hub.Hub.bind.Goals as goal

pub returns-then-bind-clause-state : goal.returns-then-bind-clause-state
returns-then-bind-clause-state c = λ s st. bound_stands c.args.self.now s c.bind.new.self c.args.session c.args.key c.in-Some.place st (binds c.args.self.now s c.args.session c.in-Some.place st (sym c.home.ensures ∙ c.in-Some.is) (sym c.bind.ensures.value ∙ c.if-bind.true)) c.bind.ensures.bound
