use Rattle.link_io.proofs.Parts.{wrote_none}
use Rattle.pod_conn.proofs.Telling.{wrote_next, wrote_less, wrote_all}
use Rattle.pod_conn.proofs.serving.write_messages.Goals as goal

pub loop-f-init : goal.loop-f-init
loop-f-init g c = wrote_none _

pub loop-f-preserved : goal.loop-f-preserved
loop-f-preserved g c = wrote_next _ _ _ _ _ _ c.as_slice-f-items.ensures c.f-item.result c.loop-f-test.true c.f-item.is c.loop-f.invariant c.if-not-write_message.ensures

pub returns-then-not-write_message : goal.returns-then-not-write_message
returns-then-not-write_message g c = wrote_less _ _ _ _ _ _ c.as_slice-f-items.ensures c.f-item.result c.loop-f-test.true c.f-item.is c.loop-f.invariant c.if-not-write_message.ensures

pub returns : goal.returns
returns g c = wrote_all _ _ _ _ _ (g.K.Sink.target c.loop-f.client_out) c.as_slice-f-items.ensures c.loop-f-test.false c.loop-f.invariant
