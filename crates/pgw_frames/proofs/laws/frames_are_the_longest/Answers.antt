use Rattle.std.proofs.Common.{refl}
use Rattle.pgw_frames.specs.Frames.{bad}
use Rattle.pgw_frames.proofs.Longest.{whole, frames_good, longest}
use Rattle.pgw_frames.proofs.laws.frames_are_the_longest.Goals as goal

pub returns-clause-whole : goal.returns-clause-whole
returns-clause-whole c = whole

pub returns-clause-good : goal.returns-clause-good
returns-clause-good c = frames_good

pub returns-clause-longest : goal.returns-clause-longest
returns-clause-longest c = longest

pub returns-clause-bad : goal.returns-clause-bad
unfolding bad
returns-clause-bad c b = refl
