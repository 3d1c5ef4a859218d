use Rattle.std.proofs.Common.{sym, ap, subst, arith}
use Rattle.cancel_keys.specs.Given.{key_of}
use Rattle.proxy_outside.specs.declared.identity.ClientKey.{ClientKey}
use Rattle.proxy_hub.specs.Hubs.{StandsFor}
use Rattle.proxy_hub.specs.declared.reply.HubReply.TheVariants.{Key}
use Rattle.proxy_hub.proofs.Behind.{not_live, is_live, says_none, says, given_none, given_stands}
use Rattle.proxy_hub.proofs.hub.Hub.give_key.Goals as goal

pub returns-then-is_none-clause-reply : goal.returns-then-is_none-clause-reply
returns-then-is_none-clause-reply c = λ s st. says_none s c.args.session (Key (key_of c.args.session c.args.word)) (not_live c.args.self.now s c.args.session c.tenant.result c.tenant.ensures (grind (arith, c.is_none.ensures, c.if-is_none.true)) st)

pub returns-then-is_none-clause-state : goal.returns-then-is_none-clause-state
returns-then-is_none-clause-state c = λ s st. subst (StandsFor c.args.self.now) (sym (given_none s c.args.session c.args.addr c.args.word (not_live c.args.self.now s c.args.session c.tenant.result c.tenant.ensures (grind (arith, c.is_none.ensures, c.if-is_none.true)) st))) st

pub returns-clause-reply : goal.returns-clause-reply
returns-clause-reply c = λ s st. says s c.args.session (Key (key_of c.args.session c.args.word)) (Key c.in_ok-key.key) (is_live c.args.self.now s c.args.session c.tenant.result c.tenant.ensures (grind (arith, c.is_none.ensures, c.if-is_none.false)) st) (ap (λ (k : ClientKey). Key k) c.in_ok-key.ensures.value)

pub returns-clause-state : goal.returns-clause-state
returns-clause-state c = λ s st. given_stands c.args.self.now s c.give.new.self c.args.session c.args.addr c.args.word st (is_live c.args.self.now s c.args.session c.tenant.result c.tenant.ensures (grind (arith, c.is_none.ensures, c.if-is_none.false)) st) c.in_ok-key.ensures.ok
