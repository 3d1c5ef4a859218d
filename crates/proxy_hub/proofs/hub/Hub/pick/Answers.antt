use Rattle.std.proofs.Common.{◌∙◌}
use Rattle.proxy_hub.proofs.Planning.{picks}
use Rattle.proxy_hub.proofs.hub.Hub.pick.Goals as goal

pub returns : goal.returns
returns c = λ s st. c.picked.ensures ∙ picks c.args.self.now s c.args.tenant c.args.first c.args.second c.pods.result c.in-Some.pods c.as_slice.result.now c.pick-number.result c.placed.result st
    (c.pods.ensures.history s.rows st.rows) c.in-Some.is (c.as_slice.ensures.value ∙ c.in_ok-loads.ensures) c.pick-number.ensures.value c.placed.ensures
