use Rattle.session_moves.proofs.Before.{attempts_tell}
use Rattle.session_moves.proofs.Every.{attempts_go_on}
use Rattle.session_moves.proofs.laws.attempts_go_on.Goals as goal

pub returns : goal.returns
returns c = record { trace = attempts_go_on; tells = attempts_tell }
