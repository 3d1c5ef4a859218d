use Rattle.session_round.specs.Halves.{now_of, board_of}
use Rattle.session_rounds.specs.Scenes.{scene}
use Rattle.session_rounds.specs.Running.{RunsOn}
use Rattle.session_rounds.proofs.rounds.run_rounds.Given as goal

-- the rounds so far, behind each of which another follows
abbrev pub invariant-loop : goal.invariant-loop
invariant-loop g l = record {
  home : g.M.Marks.home l.marks;
  runs : RunsOn l.session
      (scene (now_of g.S.Source.origin g.K.Sink.target g.T.Sink.target g.R.Source.origin l.fn.live) (board_of g.M.Marks.front g.M.Marks.back l.fn.marks) (g.H.HubPort.port l.fn.hub) l.fn.unbooked)
      (scene (now_of g.S.Source.origin g.K.Sink.target g.T.Sink.target g.R.Source.origin l.live) (board_of g.M.Marks.front g.M.Marks.back l.marks) (g.H.HubPort.port l.hub) l.unbooked);
}
