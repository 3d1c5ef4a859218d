-- Whose session begins, and whose ends; of whom one is asked for.
use Rattle.std.specs.Prelude.{Option, Some, None, Result, Ok, Err}
use Rattle.proxy_outside.specs.declared.identity.SessionNo.{SessionNo}
use Rattle.proxy_outside.specs.declared.identity.TenantId.{TenantId}
use Rattle.proxy_hub.specs.declared.command.HubCommand.{HubCommand}
use Rattle.proxy_hub.specs.declared.command.HubCommand.TheVariants.{Release, Admit}
use Rattle.proxy_hub.specs.declared.reply.HubReply.{HubReply}
use Rattle.proxy_hub.specs.declared.reply.HubReply.TheVariants.{Admitted}
use Rattle.proxy_hub.specs.declared.fault.HubFault.{HubFault}

-- a connection's port, and the tenant of whom it asked for a session last
pub record AtBells (H : Type 0) : Type 0 where
  pub hub : H
  pub tenant : Option TenantId

abbrev pub at_bells : {H : Type 0} → H → Option TenantId → AtBells H
at_bells hub tenant = record { hub = hub; tenant = tenant }

-- the session that the command ends
abbrev pub released_by : HubCommand → Option SessionNo
released_by (Release s) = Some s
released_by _ = None

-- the session that the answer admits
abbrev pub admitted_by : Result HubReply HubFault → Option SessionNo
admitted_by (Ok (Admitted s)) = Some s
admitted_by _ = None

-- the tenant, where the command asks for a session of one
abbrev pub tenant_after : Option TenantId → HubCommand → Option TenantId
tenant_after tenant (Admit addr asked now) = Some asked
tenant_after tenant _ = tenant
