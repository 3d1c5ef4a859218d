use Rattle.std.proofs.Common.{◌≡◌, [], drop}
use Rattle.toml.specs.View.{items_view}
use Rattle.proxy_config.specs.Reading.{entries}
use Rattle.proxy_config.proofs.entry.entries.Given as goal

abbrev pub invariant-loop-value : goal.invariant-loop-value
invariant-loop-value g l = entries g.E.Entry.at l.key l.items (items_view (drop l.value-index l.value-items)) ≡ entries g.E.Entry.at l.key [] (items_view l.value-items)
