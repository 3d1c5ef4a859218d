use Rattle.std.proofs.Common.{rules, arith}
use Rattle.session_round.specs.Halves.{board_of}
use Rattle.session_course.proofs.Chain.{ended_so, named_so}
use Rattle.session_course.proofs.course.stay.Goals as goal

pub returns-in-Ended-clause-stays : goal.returns-in-Ended-clause-stays
returns-in-Ended-clause-stays g c = ended_so _ _ _ _ _ _ _ _ _ c.in-Ended.is (record { alike = c.requires.alike; is_open = c.requires.open }) c.run_rounds-stopped.ensures.runs

pub returns-in-MoveTo-clause-stays : goal.returns-in-MoveTo-clause-stays
returns-in-MoveTo-clause-stays g c =
    named_so _ _ _ (search rules) _ _ _ _ _ _ _ _ _ _ c.in-MoveTo.is (record { alike = c.requires.alike; is_open = c.requires.open }) c.run_rounds-stopped.ensures.runs
    (c.follow.ensures (board_of g.M.Marks.front g.M.Marks.back c.run_rounds-stopped.new.marks))
