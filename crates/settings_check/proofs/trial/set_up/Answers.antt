use Rattle.proxy_hub.specs.States.{opening}
use Rattle.settings_check.proofs.Hubs.{with_settings}
use Rattle.settings_check.proofs.trial.set_up.Goals as goal

pub returns : goal.returns
returns c begun = with_settings _ _ _ _ _ c.in_ok-lists.ensures c.as_slice.ensures (c.in_ok-update_all.ensures _ (c.in_ok-tell.ensures opening begun))
