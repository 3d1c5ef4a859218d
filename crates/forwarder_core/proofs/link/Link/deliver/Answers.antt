use Rattle.std.proofs.Common.{◌≡◌, ◌-◌, ◌+◌, min, ℕ, length, subst, sym, ◌∙◌, arith}
use Rattle.forwarder_world.specs.Link.{delivers}
use Rattle.forwarder_core.specs.Carries.{Carries}
use Rattle.forwarder_core.proofs.Linking.{goes_uncut}
use Rattle.forwarder_core.proofs.link.Link.deliver.Goals as goal

pub returns : goal.returns
returns g c m held h =
    let first : c.min-first.result ≡ min c.args.count c.args.self.now.unopened = omega arith in
    let un : c.args.self.now.unopened ≡ length m.startup - m.delivered = h.unopened in
    let at : ℕ = m.delivered - length m.startup in
    let come = c.in_ok-_come.ensures.come m.sent at h.pod.0 h.pod.2 in
    let count = c.in_ok-_come.ensures.count m.sent at h.pod.0 h.pod.2 in
    let bound = h.pod.2.bound in
    let to : at + c.in_ok-_come._come ≡ min (length m.startup + length m.sent) (m.delivered + c.args.count) - length m.startup = omega arith in
    rw (goes_uncut (λ x. delivers x c.args.count) m (sym h.cut ∙ c.if-self.false)) (record {
      startup = h.startup;
      unopened = omega arith;
      pod = (h.pod.0, h.pod.1, subst (λ (n : ℕ). Carries c.advance.new.self m.sent n h.pod.0) to come);
      bound = h.bound;
      replies = h.replies;
      reads = h.reads;
      session = h.session;
      cut = h.cut;
    })
