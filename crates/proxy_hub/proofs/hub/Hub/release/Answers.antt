use Rattle.std.proofs.Common.{refl, sym, subst, arith}
use Rattle.proxy_hub.specs.Hubs.{StandsFor}
use Rattle.proxy_hub.specs.declared.reply.HubReply.TheVariants.{Done}
use Rattle.proxy_hub.proofs.Behind.{not_live, is_live, says_none, says, released_none, released_stands}
use Rattle.proxy_hub.proofs.hub.Hub.release.Goals as goal

pub returns-then-is_none-clause-reply : goal.returns-then-is_none-clause-reply
returns-then-is_none-clause-reply c = λ s st. says_none s c.args.session Done (not_live c.args.self.now s c.args.session c.tenant.result c.tenant.ensures (grind (arith, c.is_none.ensures, c.if-is_none.true)) st)

pub returns-then-is_none-clause-state : goal.returns-then-is_none-clause-state
returns-then-is_none-clause-state c = λ s st. subst (StandsFor c.args.self.now) (sym (released_none s c.args.session (not_live c.args.self.now s c.args.session c.tenant.result c.tenant.ensures (grind (arith, c.is_none.ensures, c.if-is_none.true)) st))) st

pub returns-clause-reply : goal.returns-clause-reply
returns-clause-reply c = λ s st. says s c.args.session Done Done (is_live c.args.self.now s c.args.session c.tenant.result c.tenant.ensures (grind (arith, c.is_none.ensures, c.if-is_none.false)) st) refl

pub returns-clause-state : goal.returns-clause-state
returns-clause-state c = λ s st. released_stands c.args.self.now s c.leave.new.self c.remove.new.self c.drop_key.new.self c.args.session st (is_live c.args.self.now s c.args.session c.tenant.result c.tenant.ensures (grind (arith, c.is_none.ensures, c.if-is_none.false)) st) c.leave.ensures c.remove.ensures c.drop_key.ensures
