use Rattle.proxy_hub.proofs.Admitting.{admitted_stands, refused_stands}
use Rattle.proxy_hub.proofs.hub.Hub.admit.Goals as goal

pub returns-in-Some-2-clause-state : goal.returns-in-Some-2-clause-state
returns-in-Some-2-clause-state c = λ s st. admitted_stands c.args.self.now s c.enrol.new.self c.args.addr.now c.args.tenant c.args.now c.refusal.result c.in_ok-session.field-0 c.in-Some-2.session st (c.refusal.ensures s st) c.in_default.is c.in_ok-session.ensures.number c.in-Some-2.is c.in_ok-session.ensures.ok

pub returns-in-None-clause-state : goal.returns-in-None-clause-state
returns-in-None-clause-state c = λ s st. refused_stands c.args.self.now s c.enrol.new.self c.args.addr.now c.args.tenant c.args.now c.refusal.result c.in_ok-session.field-0 st (c.refusal.ensures s st) c.in_default.is c.in_ok-session.ensures.number c.in-None.is c.in_ok-session.ensures.ok
