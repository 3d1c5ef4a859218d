use Rattle.std.proofs.Common.{◌≡◌, [], drop}
use Rattle.toml.specs.View.{items_view}
use Rattle.proxy_config.specs.Reading.{entries}
use Rattle.pod_config.specs.Settings.{user_at}
use Rattle.pod_config.proofs.user.users_in.Given as goal

abbrev pub invariant-loop-value : goal.invariant-loop-value
invariant-loop-value l = entries user_at l.key l.users (items_view (drop l.value-index l.value-items)) ≡ entries user_at l.key [] (items_view l.value-items)
