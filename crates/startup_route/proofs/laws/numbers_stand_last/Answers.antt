use Rattle.startup_route.proofs.Spelled.{ends, read_back}
use Rattle.startup_route.proofs.laws.numbers_stand_last.Goals as goal

pub returns : goal.returns
returns c = λ name n. (ends name n, read_back name n)
