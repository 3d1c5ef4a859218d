-- The first admission at a new hub with some settings.
use Rattle.std.specs.Prelude.{◌≡◌, List, [], ◌∷◌, Option, Some, None}
use Rattle.proxy_hub.specs.States.{State, opening}
use Rattle.proxy_hub.specs.Steps.{hub_rules, refusal_of}
use Rattle.proxy_hub.specs.declared.command.HubCommand.TheVariants.{SetLists, Update}
use Rattle.proxy_hub.specs.declared.reply.HubReply.{HubReply}
use Rattle.proxy_hub.specs.declared.reply.HubReply.TheVariants.{No}
use Rattle.proxy_hub.specs.declared.reply.Refusal.{Refusal}
use Rattle.proxy_hub.specs.declared.reply.Refusal.TheVariants as refusal
use Rattle.tenant_directory.specs.Rows.{TenantPods}
use Rattle.proxy_config.specs.declared.settings.Settings.{Settings}
use Rattle.proxy_config.specs.Settings.{entries_of}
use Rattle.settings_check.specs.declared.question.Client.{Client}
use Rattle.settings_check.specs.declared.trial.Trial.{Trial}
use Rattle.settings_check.specs.declared.trial.Trial.TheVariants.{Pass, Denied, NotAllowed, NoTenant, NoPod}

-- the hub behind the update of each tenant, in turn
unfoldable pub updated : State → List TenantPods → State
updated s [] = s
updated s (row ∷ rows) = updated (hub_rules.next s (Update row)) rows

-- a new hub with these settings
abbrev pub hub_with : Settings → State
hub_with s = updated (hub_rules.next opening (SetLists (entries_of s))) s.tenants

-- what a reply refuses
abbrev pub told : HubReply → Option Refusal
told (No why) = Some why
told _ = None

-- what stands against a session of such a client
abbrev pub refusal_in : Settings → Client → Option Refusal
refusal_in s c = refusal_of (hub_with s) c.addr c.tenant c.moment

abbrev pub as_refusal : Trial → Option Refusal
as_refusal Pass = None
as_refusal (Denied place) = Some (refusal.Denied place)
as_refusal NotAllowed = Some refusal.NotAllowed
as_refusal NoTenant = Some refusal.NoTenant
as_refusal NoPod = Some refusal.NoPod

-- what the hub says to it
abbrev pub IsTrialOf : Settings → Client → Trial → Type 0
IsTrialOf s c t = refusal_in s c ≡ as_refusal t

-- a hub that was asked nothing yet holds no login back, and has numbers left
abbrev pub CanBeFirst : Option Refusal → Type 0
CanBeFirst None = Unit {0}
CanBeFirst (Some (refusal.Denied place)) = Unit {0}
CanBeFirst (Some refusal.NotAllowed) = Unit {0}
CanBeFirst (Some refusal.NoTenant) = Unit {0}
CanBeFirst (Some refusal.NoPod) = Unit {0}
CanBeFirst (Some (refusal.Throttled moment)) = ⊥
CanBeFirst (Some refusal.NoNumbers) = ⊥
