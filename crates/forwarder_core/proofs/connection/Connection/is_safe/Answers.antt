use Rattle.std.proofs.Common.{true, refl, ◌∙◌, take}
use Rattle.session_model.specs.SafePoint.{safe, behind_greeting}
use Rattle.forwarder_core.proofs.Connecting.{and_true}
use Rattle.forwarder_core.proofs.connection.Connection.is_safe.Goals as goal

pub returns : goal.returns
returns g c key p d parked h =
    let t = c.tally-2.ensures h.side.held d.passed true h.side.replies in
    let all = t.2 (h.side.still refl) in
    let is = c.is_safe.ensures.messages d.forwarded (behind_greeting d.passed) t.0 (c.tally.ensures (take d.read d.script) d.forwarded parked h.request) t.1 in
    is ∙ and_true (safe d.forwarded (behind_greeting d.passed)) _ all
