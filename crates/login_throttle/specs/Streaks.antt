-- What a throttle keeps of the logins that were reported.
use Rattle.std.specs.Prelude.{◌≡◌, ◌==◌, if◌then◌else◌, List, Option, Some, None}
use Rattle.std.specs.BTreeMap as tree
use Rattle.std.specs.declared.cmp.Ordering.{Ordering}
use Rattle.proxy_outside.specs.declared.addr.Addr.{Addr}
use Rattle.proxy_outside.specs.declared.identity.TenantId.{TenantId}
use Rattle.login_throttle.specs.declared.pair.Pair.{Pair}
use Rattle.login_throttle.specs.contracts.pair.PairOrd.TheImpl as pair_ord
use Rattle.login_throttle.specs.declared.streak.Streak.{Streak}
use Rattle.login_throttle.specs.declared.throttle.Throttle.{Throttle}
use Rattle.login_throttle.specs.Reports.{Report, reports_of, failures_in, last_moment, counted}

-- the order of the pairs
abbrev pub pairs : Pair → Pair → Ordering
pairs = (pair_ord.ghosts).cmp

-- the failures at the end of these reports, or none where there is none
abbrev pub streak_of : List Report → Option Streak
streak_of reports = if failures_in reports == 0 then None else Some (record { failures = counted (failures_in reports); last = last_moment reports })

-- of each address and tenant the throttle has what follows from these reports, which it does not keep
abbrev pub StandsFor : Throttle → List Report → Type 0
StandsFor t reports = (addr : Addr) (tenant : TenantId) → tree.get pairs t.streaks (record { tenant = tenant; addr = addr }) ≡ streak_of (reports_of addr tenant reports)

-- what old stood for, new stands for
abbrev pub Keeps : Throttle → Throttle → Type 0
Keeps old new = (reports : List Report) → StandsFor old reports → StandsFor new reports
