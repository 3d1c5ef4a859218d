use Rattle.std.proofs.Common.{[], arith}
use Rattle.session_roster.specs.Rosters.{Rises}
use Rattle.session_roster.specs.Rows.{Parts}
use Rattle.session_roster.proofs.OneRoll.{is_whole}
use Rattle.session_roster.proofs.roster.Roster.new.Goals as goal

pub invariant_of-result : goal.invariant_of-result
unfolding Rises
invariant_of-result c =
    let new : Parts = record { tenants = c.new.result; members = c.new-2.result; counts = c.new-3.result; last = 0 } in
    is_whole new [] c.new.ensures.ordered (omega arith)
    (record { rises = omega arith; tenants = λ n. grind (arith, c.new.ensures.empty); members = λ t n. grind (arith, c.new-2.ensures.empty); counts = λ t p. c.new-3.ensures (record { tenant = t; pod = p }) })
