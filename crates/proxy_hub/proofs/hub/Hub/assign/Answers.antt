use Rattle.std.proofs.Common.{refl, sym, subst}
use Rattle.proxy_hub.specs.Hubs.{StandsFor}
use Rattle.proxy_hub.specs.declared.reply.HubReply.TheVariants.{Done}
use Rattle.proxy_hub.proofs.Behind.{live_as, none_live, some_live, says_none, says}
use Rattle.proxy_hub.proofs.Assigning.{home_at, has_home, back_stands, assigned_none, assigned_stands}
use Rattle.proxy_hub.proofs.hub.Hub.assign.Goals as goal

pub returns-in_default-clause-reply : goal.returns-in_default-clause-reply
returns-in_default-clause-reply c = λ s st. says_none s c.args.session Done (none_live c.args.self.now s c.args.session c.tenant.result c.tenant.ensures c.in_default.is st)

pub returns-in_default-clause-state : goal.returns-in_default-clause-state
returns-in_default-clause-state c = λ s st. subst (StandsFor c.args.self.now) (sym (assigned_none s c.args.session c.args.place (none_live c.args.self.now s c.args.session c.tenant.result c.tenant.ensures c.in_default.is st))) st

pub put_back-requires : goal.put_back-requires
put_back-requires c = has_home c.args.self.now.directory c.settle.new.self c.args.session (home_at c.in-Some.tenant c.args.place) c.in_ok-settle.ensures.ok

pub returns-in-Err-clause-err : goal.returns-in-Err-clause-err
returns-in-Err-clause-err c = λ s st.
    back_stands c.args.self.now c.put_back.new.self s c.settle.new.self c.put_back.new.self.directory c.settle-2.new.self c.args.session c.in-Some.tenant c.args.place c.home-before.result st
    (live_as c.args.self.now s c.args.session c.in-Some.tenant c.tenant.result c.tenant.ensures c.in-Some.is st) c.home-before.ensures c.in_ok-settle.ensures.ok c.in-Err.ensures.err c.put_back.ensures.rows c.put_back.ensures.homes c.put_back.ensures.kept

pub returns-clause-reply : goal.returns-clause-reply
returns-clause-reply c = λ s st. says s c.args.session Done Done (some_live c.args.self.now s c.args.session c.in-Some.tenant c.tenant.result c.tenant.ensures c.in-Some.is st) refl

pub returns-clause-state : goal.returns-clause-state
returns-clause-state c = λ s st.
    assigned_stands c.args.self.now s c.settle.new.self c.settle-2.new.self c.args.session c.in-Some.tenant c.args.place st
    (live_as c.args.self.now s c.args.session c.in-Some.tenant c.tenant.result c.tenant.ensures c.in-Some.is st) c.in_ok-settle.ensures.ok c.in_default-settle.ensures.ok
