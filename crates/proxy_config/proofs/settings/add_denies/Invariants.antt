use Rattle.std.proofs.Common.{◌≡◌, ◌++◌, take}
use Rattle.proxy_config.proofs.settings.add_denies.Given as goal

abbrev pub invariant-loop-deny : goal.invariant-loop-deny
invariant-loop-deny l = l.lists ≡ record { denies = l.fn.lists.denies ++ take l.deny-index l.denies; allows = l.fn.lists.allows }
