use Rattle.std.proofs.Common.{refl, sym, subst}
use Rattle.settings_check.specs.Trials.{CanBeFirst}
use Rattle.settings_check.proofs.Hubs.{can_be_first}
use Rattle.settings_check.proofs.trial.first_trial.Goals as goal

pub trial_of-requires : goal.trial_of-requires
trial_of-requires c = subst CanBeFirst (sym (c.in_ok-refusal.ensures _ (c.in_ok-set_up.ensures c.requires))) (can_be_first _ c.args.settings.now.tenants c.args.client.now.addr c.args.client.now.tenant c.args.client.now.moment refl refl)
