-- What a row says.
use Rattle.std.specs.Prelude.{ℕ, List}
use Rattle.proxy_outside.specs.declared.identity.TenantId.{TenantId}
use Rattle.tenant_directory.specs.declared.pod.Pod.{Pod}

pub record TenantPods : Type 0 where
  pub tenant : TenantId
  pub version : ℕ
  pub pods : List Pod
