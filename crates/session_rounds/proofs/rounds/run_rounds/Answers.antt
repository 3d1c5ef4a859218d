use Rattle.session_rounds.proofs.Chain.{runs_none, goes_on, stops}
use Rattle.session_rounds.proofs.rounds.run_rounds.Goals as goal

pub loop-init : goal.loop-init
loop-init g c = record { home = c.requires; runs = runs_none _ _ }

pub loop-preserved : goal.loop-preserved
loop-preserved g c = record { home = c.one_turn-done.ensures.home; runs = goes_on _ _ _ _ _ c.in_default.is c.loop.invariant.runs c.one_turn-done.ensures.turns }

pub returns-in-Some-stop-clause-runs : goal.returns-in-Some-stop-clause-runs
returns-in-Some-stop-clause-runs g c = stops _ _ _ _ _ _ c.in-Some-stop.is c.loop.invariant.runs c.one_turn-done.ensures.turns
