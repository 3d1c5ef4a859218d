use Rattle.session_trace.proofs.Growth.{one_more, boards_more, exchange_goes_on, move_goes_on}
use Rattle.session_trace.proofs.laws.a_trace_goes_on.Goals as goal

pub returns : goal.returns
returns g = record { round = one_more; boards = boards_more; exchange = exchange_goes_on; moves = move_goes_on }
