use Rattle.pgw_frames.proofs.Fronts.{bad-append}
use Rattle.pgw_frames.proofs.laws.bad_length_stays.Goals as goal

pub returns : goal.returns
returns c = bad-append
