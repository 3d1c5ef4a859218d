use Rattle.pod_conn.specs.Sessions.{served}
use Rattle.pod_conn.specs.Serving.{Leads, sight}
use Rattle.pod_conn.proofs.serving.serve.Given as goal

-- the messages so far
abbrev pub invariant-loop : goal.invariant-loop
invariant-loop g l = Leads (served g.T.Session.kind (g.T.Session.state l.fn.guest)) (served g.T.Session.kind (g.T.Session.state l.guest)) l.fn.wire.held l.wire.held
    (sight (g.S.Source.origin l.fn.wire.client_in) (g.K.Sink.target l.fn.wire.client_out) (g.P.StorePort.port l.fn.port))
    (sight (g.S.Source.origin l.wire.client_in) (g.K.Sink.target l.wire.client_out) (g.P.StorePort.port l.port))
