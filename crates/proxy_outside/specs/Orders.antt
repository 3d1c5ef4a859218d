-- The orders of pods, tenants and sessions, by their numbers.
use Rattle.std.specs.Ordering.{nat_cmp, on}
use Rattle.std.specs.Cmp.{IsTotalOrder, nat_cmp_total}
use Rattle.std.specs.FinMap.{IsAntisymmetric, nat_cmp-IsAntisymmetric}
use Rattle.std.specs.declared.cmp.Ordering.{Ordering}
use Rattle.std.proofs.lemmas.Cmp.{on_total}
use Rattle.proxy_outside.specs.declared.identity.PodNo.{PodNo}
use Rattle.proxy_outside.specs.declared.identity.TenantId.{TenantId}
use Rattle.proxy_outside.specs.declared.identity.SessionNo.{SessionNo}

abbrev pub pods : PodNo → PodNo → Ordering
pods = on (λ (p : PodNo). p.0) nat_cmp

abbrev pub tenants : TenantId → TenantId → Ordering
tenants = on (λ (t : TenantId). t.0) nat_cmp

abbrev pub sessions : SessionNo → SessionNo → Ordering
sessions = on (λ (s : SessionNo). s.0) nat_cmp

-- ---- their laws

pub pods_total : IsTotalOrder pods
pods_total = on_total (λ (p : PodNo). p.0) nat_cmp_total

pub tenants_total : IsTotalOrder tenants
tenants_total = on_total (λ (t : TenantId). t.0) nat_cmp_total

pub sessions_total : IsTotalOrder sessions
sessions_total = on_total (λ (s : SessionNo). s.0) nat_cmp_total

-- two that tie are one
pub pods_exact : IsAntisymmetric pods
pods_exact x y e = λ i. record { 0 = nat_cmp-IsAntisymmetric x.0 y.0 e i }

pub tenants_exact : IsAntisymmetric tenants
tenants_exact x y e = λ i. record { 0 = nat_cmp-IsAntisymmetric x.0 y.0 e i }

pub sessions_exact : IsAntisymmetric sessions
sessions_exact x y e = λ i. record { 0 = nat_cmp-IsAntisymmetric x.0 y.0 e i }
