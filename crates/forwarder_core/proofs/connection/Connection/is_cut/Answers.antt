use Rattle.forwarder_core.proofs.connection.Connection.is_cut.Goals as goal

pub returns : goal.returns
returns g c key p d parked held h = c.is_cut.ensures d.link h.side.held h.side.link
