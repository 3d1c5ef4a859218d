use Rattle.std.proofs.Common.{arith, []}
use Rattle.session_admission.proofs.Picked.{link_came, pick_refused, found_at}
use Rattle.session_admission.proofs.dialing.find_pod.Goals as goal

pub returns-in-Link : goal.returns-in-Link
returns-in-Link g c = link_came _ [] _ _ _ _ _ _ _ (omega arith) c.in-Link.ensures.0 c.in-Link.ensures.1

pub returns-in-Failed : goal.returns-in-Failed
returns-in-Failed g c =
    found_at g.D.Tx.Sink.target g.D.Rx.Source.origin c.args.tenant [] _ _ _ _ _ _ c.in-Failed.first c.second_pod.result c.in-Failed.ensures c.second_pod.ensures

pub returns-in-Fault : goal.returns-in-Fault
returns-in-Fault g c = pick_refused _ [] _ _ _ _ _ (omega arith) c.in-Fault.ensures.0 c.in-Fault.ensures.1 c.in-Fault.ensures.2
