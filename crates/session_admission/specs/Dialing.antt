-- What is picked and dialed for a session.
use Rattle.std.specs.Prelude.{◌≡◌, ◌⊎◌, ◌+◌, ◌≤◌, true, false, List, [], ◌∷◌, ◌++◌, length, Option, Some, None}
use Rattle.proxy_outside.specs.Reading.{Origin}
use Rattle.proxy_outside.specs.Writing.{Target}
use Rattle.proxy_outside.specs.declared.identity.PodNo.{PodNo}
use Rattle.proxy_outside.specs.declared.identity.TenantId.{TenantId}
use Rattle.proxy_outside.specs.declared.place.Place.{Place}
use Rattle.proxy_links.specs.Links.{Links, Came, Failing}
use Rattle.proxy_links.specs.declared.dialer.Dial.{Dial}
use Rattle.proxy_hub.specs.Ports.{Port, Tells}
use Rattle.proxy_hub.specs.declared.command.HubCommand.{HubCommand}
use Rattle.proxy_hub.specs.declared.command.HubCommand.TheVariants.{Pick}
use Rattle.proxy_hub.specs.declared.fault.HubFault.{HubFault}
use Rattle.proxy_hub.specs.declared.reply.HubReply.{HubReply}
use Rattle.proxy_hub.specs.declared.reply.HubReply.TheVariants.{Picked, No}
use Rattle.proxy_hub.specs.declared.reply.Refusal.{Refusal}
use Rattle.session_asks.specs.Asks.{Ask, ask}
use Rattle.session_asks.specs.Admission.{Picks}
use Rattle.session_admission.specs.Asking.{AsksOn}
use Rattle.session_admission.specs.declared.dialing.Tried.{Tried}
use Rattle.session_admission.specs.declared.dialing.Tried.TheVariants as tried
use Rattle.session_admission.specs.declared.dialing.Found.{Found}
use Rattle.session_admission.specs.declared.dialing.Found.TheVariants.{Link, DialFault, Refused, Fault}

-- ---- one pod

abbrev pub Tries : {T R : Type 0} → (T → Target) → (R → Origin) → TenantId → Option PodNo → Option PodNo → Port → Port → Links → Links → Tried T R → Type 0
Tries target origin t first second old new links links' (tried.Link place tx rx) = AsksOn old new (ask (Pick t first second) (Some (Picked place)) ∷ []) × Came links links' place (target tx) (origin rx)
Tries target origin t first second old new links links' (tried.Failed pod) =
    (place : Place) × (place.pod ≡ pod) × AsksOn old new (ask (Pick t first second) (Some (Picked place)) ∷ []) × Failing links links' place
Tries target origin t first second old new links links' (tried.Refused why) = AsksOn old new (ask (Pick t first second) (Some (No why)) ∷ []) × (links' ≡ links)
Tries target origin t first second old new links links' (tried.Fault f) = AsksOn old new (ask (Pick t first second) None ∷ []) × Tells f old.desk.most × (links' ≡ links)

-- ---- all of them

-- these dials failed, one after the other
abbrev pub FailedDials : Links → Links → List Dial → Type 0
FailedDials old new [] = new ≡ old
FailedDials old new (d ∷ ds) = (d.came ≡ false) × ((next : Links) × Failing old next d.place × FailedDials next new ds)

-- the pods that were picked were dialed, all in vain
pub record InVain (t : TenantId) (failed : List PodNo) (old new : Port) (links links' : Links) (dials : List Dial) (as_ : List Ask) : Type 0 where
  pub picks : Picks t failed dials as_
  pub asked : AsksOn old new as_
  pub dialed : FailedDials links links' dials

-- no more than three are dialed, those before among them
abbrev pub Few : List PodNo → List Dial → Type 0
Few failed dials = length failed + length dials ≤ 3

-- the last ask got this reply, or was refused
abbrev pub EndsWith : Option HubReply → List Ask → Type 0
EndsWith reply as_ = (front : List Ask) × (c : HubCommand) × (as_ ≡ front ++ ask c reply ∷ [])

-- the last pod that was picked was dialed, and a link came
pub record Reaches (t : TenantId) (failed : List PodNo) (old new : Port) (links links' : Links) (place : Place) (tx : Target) (rx : Origin) : Type 0 where
  pub dials : List Dial
  pub asks : List Ask
  pub between : Links
  pub picks : Picks t failed (dials ++ record { place = place; came = true } ∷ []) asks
  pub few : Few failed (dials ++ record { place = place; came = true } ∷ [])
  pub asked : AsksOn old new asks
  pub before : FailedDials links between dials
  pub came : Came between links' place tx rx

-- every dial failed, and three were made or there is no pod more
pub record Fails (t : TenantId) (failed : List PodNo) (old new : Port) (links links' : Links) : Type 0 where
  pub dials : List Dial
  pub asks : List Ask
  pub vain : InVain t failed old new links links' dials asks
  pub few : Few failed dials
  pub some : 1 ≤ length failed + length dials
  pub enough : (length failed + length dials ≡ 3) ⊎ ((why : Refusal) × EndsWith (Some (No why)) asks)

-- the port refused a pick
pub record Stops (t : TenantId) (failed : List PodNo) (old new : Port) (links links' : Links) (f : HubFault) : Type 0 where
  pub dials : List Dial
  pub asks : List Ask
  pub vain : InVain t failed old new links links' dials asks
  pub few : Few failed dials
  pub ends : EndsWith None asks
  pub tells : Tells f old.desk.most

-- without the pods whose dials failed before
abbrev pub Finds : {T R : Type 0} → (T → Target) → (R → Origin) → TenantId → List PodNo → Port → Port → Links → Links → Found T R → Type 0
Finds target origin t failed old new links links' (Link place tx rx) = Reaches t failed old new links links' place (target tx) (origin rx)
Finds target origin t failed old new links links' DialFault = Fails t failed old new links links'
Finds target origin t failed old new links links' (Refused why) = (failed ≡ []) × AsksOn old new (ask (Pick t None None) (Some (No why)) ∷ []) × (links' ≡ links)
Finds target origin t failed old new links links' (Fault f) = Stops t failed old new links links' f
