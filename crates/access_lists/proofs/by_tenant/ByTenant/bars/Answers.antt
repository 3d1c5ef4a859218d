use Rattle.std.proofs.Common.{ap, ◌∙◌}
use Rattle.std.specs.Prelude.{filter, not}
use Rattle.access_lists.specs.Verdicts.{is_of}
use Rattle.access_lists.proofs.Listed.{barred_by, barred}
use Rattle.access_lists.proofs.by_tenant.ByTenant.bars.Goals as goal

pub returns-in-Some : goal.returns-in-Some
returns-in-Some c allows h =
    ap not c.has.ensures ∙ ap (barred_by c.args.addr.now) (c.in-Some.ensures.value ∙ h c.args.tenant) ∙ barred c.args.addr.now (filter (is_of c.args.tenant) allows)
