use Rattle.std.proofs.Common.{◌≡◌, ◌++◌, drop}
use Rattle.proxy_config.specs.Settings.{all_allowed}
use Rattle.proxy_config.proofs.settings.add_allows.Given as goal

abbrev pub invariant-loop-allow : goal.invariant-loop-allow
invariant-loop-allow l = record {
  denies : l.lists.denies ≡ l.fn.lists.denies;
  allows : l.lists.allows ++ all_allowed (drop l.allow-index l.allows) ≡ l.fn.lists.allows ++ all_allowed l.allows;
}
