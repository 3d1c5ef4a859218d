use Rattle.std.proofs.Common.{inr, refl}
use Rattle.session_opening.proofs.link.find_link.Goals as goal

pub returns-in-Fault : goal.returns-in-Fault
returns-in-Fault g c = inr (record { why = c.fault_ending.result; is = refl; unplaced = inr (inr (c.in-Fault.fault, c.fault_ending.ensures, c.in-Fault.ensures)); others = refl })
