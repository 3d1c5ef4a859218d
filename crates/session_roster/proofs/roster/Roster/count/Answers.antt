use Rattle.std.proofs.Common.{◌∙◌}
use Rattle.session_roster.specs.Rows.{Parts}
use Rattle.session_roster.proofs.OneRoll.{stands_now}
use Rattle.session_roster.proofs.Rising.{counts_homes}
use Rattle.session_roster.proofs.roster.Roster.count.Goals as goal

pub returns-clause-homes : goal.returns-clause-homes
returns-clause-homes c =
    let r : Parts = record { tenants = c.self.inside.tenants; members = c.self.inside.members; counts = c.self.inside.counts; last = c.self.inside.last } in
    c.at.ensures ∙ (stands_now r c.args.self.now c.self.view_is c.self.invariant).counts c.args.tenant c.args.pod ∙ counts_homes c.args.tenant c.args.pod c.args.self.now.live
