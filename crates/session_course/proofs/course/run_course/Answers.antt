use Rattle.session_course.proofs.Chain.{none_yet, goes_on, stops}
use Rattle.session_course.proofs.course.run_course.Goals as goal

pub loop-init : goal.loop-init
loop-init g c = record { home = c.requires.home; courses = none_yet _ _ _ _ (record { alike = c.requires.alike; is_open = c.requires.open }) }

pub loop-preserved : goal.loop-preserved
loop-preserved g c = record { home = c.stay-after.ensures.home; courses = goes_on _ _ _ _ _ _ _ c.in_default.is c.loop.invariant.courses c.stay-after.ensures.stays }

pub returns-in-Some-finish-clause-courses : goal.returns-in-Some-finish-clause-courses
returns-in-Some-finish-clause-courses g c = stops _ _ _ _ _ _ _ _ c.in-Some-finish.is c.loop.invariant.courses c.stay-after.ensures.stays
