use Rattle.std.proofs.Common.{sym, ◌∙◌}
use Rattle.forwarder_core.proofs.Reading.{nothing_held}
use Rattle.forwarder_core.proofs.connection.Connection.holds_nothing.Goals as goal

pub returns : goal.returns
returns g c key p d parked held h = c.is_empty.ensures h.side.held d.passed held h.side.replies ∙ sym (nothing_held d.link h.side.held h.side.link.bound h.side.link.reads)
