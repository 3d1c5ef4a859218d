use Rattle.forwarder_core.specs.Flow.{flow_of}
use Rattle.std.proofs.Common.{◌≡◌, ◌++◌, List, ℕ, subst, ap, take, ◌∙◌, arith}
use Rattle.processor_core.specs.Stands.{RequestStands}
use Rattle.forwarder_core.proofs.Connecting.{read_on}
use Rattle.forwarder_core.proofs.connection.Connection.read.Goals as goal

pub returns-clause-stands : goal.returns-clause-stands
returns-clause-stands g c key p d parked held h =
    let come = c.min-come.result in
    let piece : c.split_at.result.0.now ≡ take come c.args.self.now.script = c.split_at.ensures.front ∙ ap (λ (b : List ℕ). take come b) c.as_slice.ensures in
    let fed = c.in_ok-feed.ensures.ok (take d.read d.script) d.forwarded parked h.request in
    let request = subst (λ (b : List ℕ). RequestStands c.feed.new.self (take d.read d.script ++ b) d.forwarded parked) piece fed in
    rw c.drop_front.ensures (read_on g.S.Session.state g.S.Store.Machine.stands_for key p c.args.self.now (flow_of d) parked held c.feed.new.self c.args.count come c.saturating_add-self.result (omega arith) request (omega arith) h)
