use Rattle.std.proofs.Common.{rules}
use Rattle.session_round.proofs.More.{keeps, told_before}
use Rattle.session_round.proofs.live.round.Goals as goal

pub returns-clause-runs : goal.returns-clause-runs
returns-clause-runs g c = search rules

pub returns-clause-tells : goal.returns-clause-tells
returns-clause-tells g c = told_before _ _ _ _ _ _ (returns-clause-runs g c)

pub returns-clause-keeps : goal.returns-clause-keeps
returns-clause-keeps g c = keeps _ _ _ _ _ _ (returns-clause-runs g c)
