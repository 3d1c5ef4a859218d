use Rattle.std.proofs.Common.{◌≡◌, [], drop}
use Rattle.toml.specs.View.{items_view}
use Rattle.proxy_config.specs.Reading.{entries}
use Rattle.pod_config.specs.Settings.{place_at}
use Rattle.pod_config.proofs.place.spots.Given as goal

abbrev pub invariant-loop-value : goal.invariant-loop-value
invariant-loop-value l = entries place_at l.key l.spots (items_view (drop l.value-index l.value-items)) ≡ entries place_at l.key [] (items_view l.value-items)
