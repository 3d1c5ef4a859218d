-- What follows from all the logins that were reported.
use Rattle.std.specs.Prelude.{◌==◌, ℕ, ◌+◌, ◌-◌, ◌^◌, ◌&&◌, min, nat_lt, Bool, if◌then◌else◌, List, [], ◌∷◌, filter}
use Rattle.proxy_outside.specs.declared.addr.Addr.{Addr}
use Rattle.proxy_outside.specs.Addr.{is_same_addr}
use Rattle.proxy_outside.specs.declared.identity.TenantId.{TenantId}
use Rattle.login_throttle.specs.declared.allowance.Allowance.{Allowance}
use Rattle.login_throttle.specs.declared.allowance.Allowance.TheVariants.{Go, Until}

-- A login that was tried, at this moment. Lists of reports have the newest first.
pub record Report : Type 0 where
  pub addr : Addr
  pub tenant : TenantId
  pub ok : Bool
  pub moment : ℕ

-- ---- the reports of an address and a tenant

abbrev pub is_of : Addr → TenantId → Report → Bool
is_of addr tenant r = r.tenant.0 == tenant.0 && is_same_addr r.addr addr

abbrev pub reports_of : Addr → TenantId → List Report → List Report
reports_of addr tenant reports = filter (is_of addr tenant) reports

-- ---- failures in a row, and the wait

-- how many failures have come since the last success
abbrev pub failures_in : List Report → ℕ
failures_in [] = 0
failures_in (r ∷ rs) = if r.ok then 0 else failures_in rs + 1

abbrev pub last_moment : List Report → ℕ
last_moment [] = 0
last_moment (r ∷ rs) = r.moment

-- as they are counted
abbrev pub counted : ℕ → ℕ
counted n = min n (2 ^ 32 - 1)

-- in seconds: one after the first failure, twice as long after each further one, an hour at most
abbrev pub wait_after : ℕ → ℕ
wait_after failures = min (2 ^ (failures - 1)) 3600

-- the moment at which the wait ends, where the last failure was at this moment
abbrev pub end_of_wait : ℕ → ℕ → ℕ
end_of_wait failures last = min (last + wait_after failures) (2 ^ 64 - 1)

-- after at least one failure
abbrev pub answer : ℕ → ℕ → ℕ → Allowance
answer failures last now = if nat_lt now (end_of_wait failures last) then Until (end_of_wait failures last) else Go

abbrev pub answer_to : List Report → ℕ → Allowance
answer_to reports now = if failures_in reports == 0 then Go else answer (counted (failures_in reports)) (last_moment reports) now

-- whether this address and tenant may try to log in
abbrev pub allowed : List Report → Addr → TenantId → ℕ → Allowance
allowed reports addr tenant now = answer_to (reports_of addr tenant reports) now
