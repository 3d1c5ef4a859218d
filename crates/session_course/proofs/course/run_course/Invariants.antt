use Rattle.session_round.specs.Halves.{now_of, board_of}
use Rattle.session_rounds.specs.Scenes.{scene}
use Rattle.session_course.specs.Standing.{course}
use Rattle.session_course.specs.Course.{CoursesOn}
use Rattle.session_course.proofs.course.run_course.Given as goal

-- the stays so far, behind each of which another follows
abbrev pub invariant-loop : goal.invariant-loop
invariant-loop g l = record {
  home : g.M.Marks.home l.marks;
  courses : CoursesOn l.session l.params l.patience
      (course (scene (now_of g.S.Source.origin g.K.Sink.target g.D.Tx.Sink.target g.D.Rx.Source.origin l.fn.live) (board_of g.M.Marks.front g.M.Marks.back l.fn.marks) (g.H.HubPort.port l.fn.hub) l.fn.counts.unbooked) (g.D.Dialer.links l.fn.dialer) (g.X.Words.given l.fn.words) l.fn.counts.moves l.fn.counts.starved)
      (course (scene (now_of g.S.Source.origin g.K.Sink.target g.D.Tx.Sink.target g.D.Rx.Source.origin l.live) (board_of g.M.Marks.front g.M.Marks.back l.marks) (g.H.HubPort.port l.hub) l.counts.unbooked) (g.D.Dialer.links l.dialer) (g.X.Words.given l.words) l.counts.moves l.counts.starved);
}
