use Rattle.std.proofs.Common.{arith, [], ◌∷◌}
use Rattle.session_admission.proofs.Picked.{link_came, none_left, pick_refused, found_at}
use Rattle.session_admission.proofs.dialing.second_pod.Goals as goal

pub returns-in-Link : goal.returns-in-Link
returns-in-Link g c = link_came _ _ _ _ _ _ _ _ _ (omega arith) c.in-Link.ensures.0 c.in-Link.ensures.1

pub returns-in-Failed : goal.returns-in-Failed
returns-in-Failed g c =
    found_at g.D.Tx.Sink.target g.D.Rx.Source.origin c.args.tenant (c.args.first ∷ []) _ _ _ _ _ _ c.in-Failed.second c.third_pod.result c.in-Failed.ensures c.third_pod.ensures

pub returns-in-Refused : goal.returns-in-Refused
returns-in-Refused g c = none_left _ _ _ _ _ _ c.in-Refused.field-0 (omega arith) (omega arith) c.in-Refused.ensures.0 c.in-Refused.ensures.1

pub returns-in-Fault : goal.returns-in-Fault
returns-in-Fault g c = pick_refused _ _ _ _ _ _ _ (omega arith) c.in-Fault.ensures.0 c.in-Fault.ensures.1 c.in-Fault.ensures.2
