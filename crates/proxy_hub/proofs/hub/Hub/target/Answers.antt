use Rattle.std.proofs.Common.{◌∙◌}
use Rattle.proxy_hub.specs.Steps.{heading}
use Rattle.std.proofs.Common.{ap}
use Rattle.proxy_hub.proofs.Behind.{none_live, live_as}
use Rattle.proxy_hub.proofs.Planning.{no_target, stays, goes}
use Rattle.proxy_hub.proofs.hub.Hub.target.Goals as goal

pub returns-in_default : goal.returns-in_default
returns-in_default c = λ s st. no_target s c.args.session (none_live c.args.self.now s c.args.session c.tenant.result c.tenant.ensures c.in_default.is st)

pub returns-in_default-destination : goal.returns-in_default-destination
returns-in_default-destination c = λ s st. stays s c.args.session c.in-Some.tenant c.in_ok-moves.moves c.destination.result (live_as c.args.self.now s c.args.session c.in-Some.tenant c.tenant.result c.tenant.ensures c.in-Some.is st) (c.in_ok-moves.ensures s st) c.destination.ensures c.in_default-destination.is

pub returns : goal.returns
returns c = λ s st. c.heading.ensures ∙ ap heading c.place_of.ensures
    ∙ goes s c.args.session c.in-Some.tenant c.in_ok-moves.moves c.in-Some-destination.to c.destination.result c.pods.result c.in-Some-pods.pods (live_as c.args.self.now s c.args.session c.in-Some.tenant c.tenant.result c.tenant.ensures c.in-Some.is st) (c.in_ok-moves.ensures s st) c.destination.ensures c.in-Some-destination.is (c.pods.ensures.history s.rows st.rows) c.in-Some-pods.is
