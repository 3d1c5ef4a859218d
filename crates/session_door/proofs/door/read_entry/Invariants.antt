use Rattle.session_door.proofs.Turns.{So}
use Rattle.session_door.proofs.door.read_entry.Given as goal

-- the packets so far
abbrev pub invariant-loop : goal.invariant-loop
invariant-loop g l = So l.patience (g.S.Source.origin l.fn.client_in) (g.S.Source.origin l.client_in) (g.K.Sink.target l.fn.client_out) (g.K.Sink.target l.client_out) l.door l.waits
