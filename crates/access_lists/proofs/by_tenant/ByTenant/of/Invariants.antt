use Rattle.std.proofs.Common.{take}
use Rattle.access_lists.specs.Indexes.{Indexes}
use Rattle.access_lists.proofs.by_tenant.ByTenant.of.Given as goal

abbrev pub invariant-loop-allow : goal.invariant-loop-allow
invariant-loop-allow l = record {
  made : Indexes l.lists (take l.allow-index l.allows);
}
