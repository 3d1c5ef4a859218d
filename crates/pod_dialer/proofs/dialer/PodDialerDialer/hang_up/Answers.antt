use Rattle.std.proofs.Common.{refl}
use Rattle.memory_links.proofs.Hanging.{hangs_up}
use Rattle.pod_dialer.proofs.dialer.PodDialerDialer.hang_up.Goals as goal

pub returns : goal.returns
returns g c =
    rw c.close.ensures (hangs_up _ c.args.self.now.ledger (record { place = c.place_of-place.result; tx = c.args.tx; rx = c.args.rx }) _ _ c.place_of-place.result c.args.tx.sent c.args.rx.got c.place_of-place.ensures refl refl refl)
