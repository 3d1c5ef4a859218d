use Rattle.std.proofs.Common.{ap, sym, refl}
use Rattle.proxy_links.specs.Links.{Links}
use Rattle.tcp_links.proofs.Hanging.{hangs_up}
use Rattle.tcp_links.proofs.dialer.TcpDialerDialer.hang_up.Goals as goal

pub returns : goal.returns
returns g c =
    hangs_up c.args.self.now c.close.new.self c.args.tx c.args.rx _ (ap (λ (l : Links). l.dials) (sym c.self.view_is)) (ap (λ (l : Links). l.records) (sym c.self.view_is))
    c.close.ensures.faults c.close.ensures.others (rw (← c.tx.view_is, ← c.rx.view_is) refl)
