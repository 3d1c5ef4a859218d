use Rattle.std.proofs.Common.{◌≡◌, ◌++◌, take}
use Rattle.proxy_config.specs.Settings.{allowed}
use Rattle.proxy_config.proofs.settings.add_networks.Given as goal

abbrev pub invariant-loop-net : goal.invariant-loop-net
invariant-loop-net l = l.lists ≡ record { denies = l.fn.lists.denies; allows = l.fn.lists.allows ++ allowed l.tenant (take l.net-index l.networks) }
