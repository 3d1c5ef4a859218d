-- Why a client gets no session, and what it is told of it.
use Rattle.std.specs.Prelude.{◌≡◌, ◌⊎◌, Option, Some, None, Result, Ok, Err}
use Rattle.pgw_messages.specs.declared.pod_key.PodKey.{PodKey}
use Rattle.proxy_hub.specs.declared.fault.HubFault.{HubFault}
use Rattle.proxy_hub.specs.declared.fault.HubFault.TheVariants as fault
use Rattle.proxy_hub.specs.declared.reply.Refusal.{Refusal}
use Rattle.proxy_hub.specs.declared.reply.Refusal.TheVariants as refusal
use Rattle.proxy_outside.specs.Writing.{Target}
use Rattle.session_entry.specs.Telling.{IsTold}
use Rattle.session_greeting.specs.declared.login.Greeted.{Greeted}
use Rattle.session_greeting.specs.declared.login.Greeted.TheVariants as came
use Rattle.startup_route.specs.declared.rejection.Rejection.{Rejection}
use Rattle.startup_route.specs.declared.rejection.Rejection.TheVariants as because
use Rattle.session_opening.specs.declared.ending.Ending.{Ending}
use Rattle.session_opening.specs.declared.ending.Ending.TheVariants.{Refused, DialFault, JournalFull, AuthRefused, Left, PodCut, ClientCut, NoMemory}

-- the hub's port refused an ask that is wanted
abbrev pub fault_ending : HubFault → Ending
fault_ending fault.NoMemory = NoMemory
fault_ending (fault.JournalFull most) = JournalFull most

-- what a greeting comes to
abbrev pub outcome : Greeted → Result (Option PodKey) Ending
outcome (came.Ready key waits) = Ok key
outcome (came.Refused fields) = Err (AuthRefused fields)
outcome came.Left = Err Left
outcome (came.PodCut c) = Err (PodCut c)
outcome (came.ClientCut c) = Err (ClientCut c)
outcome came.NoMemory = Err NoMemory

abbrev pub refusal_rejection : Refusal → Rejection
refusal_rejection (refusal.Denied place) = because.Denied place
refusal_rejection refusal.NotAllowed = because.NotAllowed
refusal_rejection (refusal.Throttled until) = because.Throttled until
refusal_rejection refusal.NoTenant = because.NoTenant
refusal_rejection refusal.NoPod = because.NoPod
refusal_rejection refusal.NoNumbers = because.NoNumbers

-- what the client is told
abbrev pub rejection_of : Ending → Option Rejection
rejection_of (Refused why) = Some (refusal_rejection why)
rejection_of DialFault = Some because.DialFault
rejection_of (JournalFull most) = Some because.JournalFull
rejection_of (AuthRefused fields) = None
rejection_of Left = None
rejection_of (PodCut c) = None
rejection_of (ClientCut c) = None
rejection_of NoMemory = None

-- it was told, where there is something to tell and there was memory for it
abbrev pub TellsOf : Option Rejection → Ending → Target → Target → Ending → Type 0
TellsOf None why k l r = (r ≡ why) × (l ≡ k)
TellsOf (Some rejection) why k l r = ((r ≡ why) × IsTold rejection k l) ⊎ ((r ≡ NoMemory) × (l ≡ k))

abbrev pub Tells : Ending → Target → Target → Ending → Type 0
Tells why k l r = TellsOf (rejection_of why) why k l r
