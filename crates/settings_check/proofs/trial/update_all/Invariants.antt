use Rattle.std.proofs.Common.{◌≡◌, drop}
use Rattle.proxy_hub.specs.Hubs.{StandsFor}
use Rattle.proxy_hub.specs.States.{State}
use Rattle.settings_check.specs.Trials.{updated}
use Rattle.settings_check.proofs.trial.update_all.Given as goal

abbrev pub invariant-loop-row : goal.invariant-loop-row
invariant-loop-row l = (s : State) → StandsFor l.fn.hub s → (t : State) × StandsFor l.hub t × (updated t (drop l.row-index l.rows) ≡ updated s l.rows)
