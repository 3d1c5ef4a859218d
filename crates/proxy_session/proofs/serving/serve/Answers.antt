use Rattle.proxy_session.proofs.Served.{served_ready}
use Rattle.proxy_session.proofs.serving.serve.Goals as goal

pub returns-in-Ready-clause-serves : goal.returns-in-Ready-clause-serves
returns-in-Ready-clause-serves g c =
    served_ready g.D.Tx.Sink.target g.D.Rx.Source.origin c.open.result c.in-Ready.session _ _ _ _ _ _ _ _ _ c.in-Ready.is c.open.ensures (c.run.ensures.runs (g.C.Clock.given c.open.new.clock))
