use Rattle.session_greeting.specs.Greeting.{halves, SoFar}
use Rattle.session_greeting.proofs.greeting.greet.Given as goal

-- the greeting so far
abbrev pub invariant-loop : goal.invariant-loop
invariant-loop g l =
    SoFar l.key l.limits l.waited (halves (g.S.Source.origin l.fn.client_in) (g.K.Sink.target l.fn.client_out) (g.T.Sink.target l.fn.tx) (g.R.Source.origin l.fn.rx))
    (halves (g.S.Source.origin l.client_in) (g.K.Sink.target l.client_out) (g.T.Sink.target l.tx) (g.R.Source.origin l.rx)) l.course
