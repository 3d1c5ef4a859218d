use Rattle.counted_desk.proofs.Places.{all_answered}
use Rattle.counted_desk.proofs.desk.Seat.has_seen_a_legal_history.Goals as goal

pub returns-clause-answered : goal.returns-clause-answered
returns-clause-answered g c =
    let i = c.self.invariant in
    rw (← c.self.view_is) (all_answered g.M.Machine.rules _ _ i.legal.1.replies i.own)
