use Rattle.std.proofs.Common.{List, ℕ, subst, ◌∙◌}
use Rattle.pgw_frames.specs.Cutting.{Answers}
use Rattle.forwarder_core.specs.Carries.{whole_of}
use Rattle.forwarder_core.proofs.Reading.{next_got, taken_so}
use Rattle.forwarder_core.proofs.Linking.{taken_link}
use Rattle.forwarder_core.proofs.link.Link.take_frame.Goals as goal

pub returns-clause-next : goal.returns-clause-next
returns-clause-next g c m h =
    let a = subst (λ (b : List ℕ). Answers c.in_ok-next.next b c.next_frame.new.self) h.replies c.in_ok-next.ensures.ok in
    c.whole.ensures.value ∙ next_got m c.in_ok-next.next c.next_frame.new.self a h.reads

pub returns-clause-link : goal.returns-clause-link
returns-clause-link g c m h =
    let a = subst (λ (b : List ℕ). Answers c.in_ok-next.next b c.next_frame.new.self) h.replies c.in_ok-next.ensures.ok in
    let t = taken_so m c.in_ok-next.next c.next_frame.new.self h.bound a h.reads in
    rw c.whole.ensures.value (taken_link g.S.Session.state c.args.self.now m (whole_of c.in_ok-next.next) c.next_frame.new.self t h)
