-- The link of a session, from its dial to the end of its greeting.
use Rattle.std.specs.Prelude.{◌≡◌, ◌⊎◌, ℕ, List, [], ◌∷◌, Option, Some, None, Result, Ok, Err}
use Rattle.pgw_messages.specs.declared.params.Pair.{Pair}
use Rattle.pgw_messages.specs.declared.pod_key.PodKey.{PodKey}
use Rattle.proxy_outside.specs.Reading.{Origin}
use Rattle.proxy_outside.specs.Writing.{Target}
use Rattle.proxy_outside.specs.declared.place.Place.{Place}
use Rattle.proxy_links.specs.Links.{Links, HangsUp}
use Rattle.proxy_hub.specs.Ports.{Port, Suits, Tells}
use Rattle.proxy_hub.specs.declared.command.HubCommand.TheVariants.{Assign, Pick}
use Rattle.proxy_hub.specs.declared.fault.HubFault.{HubFault}
use Rattle.proxy_hub.specs.declared.reply.HubReply.{HubReply}
use Rattle.proxy_hub.specs.declared.reply.HubReply.TheVariants.{No}
use Rattle.proxy_hub.specs.declared.reply.Refusal.{Refusal}
use Rattle.session_asks.specs.Asks.{ask}
use Rattle.session_admission.specs.Asking.{AsksOn}
use Rattle.session_admission.specs.Dialing.{Reaches, Fails, Stops}
use Rattle.session_greeting.specs.Greeting.{halves}
use Rattle.session_greeting.specs.declared.greeting.Limits.{Limits}
use Rattle.session_greeting.specs.declared.login.Greeted.{Greeted}
use Rattle.session_opening.specs.Beginning.{BeginsSession}
use Rattle.session_opening.specs.Booking.{Books}
use Rattle.session_opening.specs.Endings.{fault_ending, outcome}
use Rattle.session_opening.specs.declared.booking.Guest.{Guest}
use Rattle.session_opening.specs.declared.ending.Ending.{Ending}
use Rattle.session_opening.specs.declared.ending.Ending.TheVariants as why
use Rattle.session_opening.specs.declared.link.PodLink.{PodLink}

-- what is told of the objects that an opening works on
pub record Around : Type 0 where
  pub client_in : Origin
  pub client_out : Target
  pub hub : Port
  pub links : Links
  pub moments : Option (List ℕ)  -- those that the clock gave

abbrev pub around : Origin → Target → Port → Links → Option (List ℕ) → Around
around client_in client_out hub links moments = record { client_in = client_in; client_out = client_out; hub = hub; links = links; moments = moments }

-- what is told of a link whose session is ready
pub record Held : Type 0 where
  pub place : Place
  pub tx : Target
  pub rx : Origin
  pub key : Option PodKey

abbrev pub held : {T R : Type 0} → (T → Target) → (R → Origin) → Result (PodLink T R) Ending → Result Held Ending
held target origin (Ok l) = Ok (record { place = l.place; tx = target l.tx; rx = origin l.rx; key = l.key })
held target origin (Err e) = Err e

-- ---- on a link

-- the link is kept where the session is ready, and else hung up
abbrev pub Settles : Place → Target → Origin → Result (Option PodKey) Ending → Links → Links → Result Held Ending → Type 0
Settles place tx rx (Ok key) old new r = (r ≡ Ok (record { place = place; tx = tx; rx = rx; key = key })) × (new ≡ old)
Settles place tx rx (Err e) old new r = (r ≡ Err e) × HangsUp old new tx rx

-- a greeting came, the hub was told what it came to, and the link was kept or hung up
pub record ServesLink (g : Guest) (p : List Pair) (waited : ℕ) (limits : Limits) (place : Place) (tx : Target) (rx : Origin) (old new : Around) (r : Result Held Ending) : Type 0 where
  pub tx_then : Target
  pub rx_then : Origin
  pub greeted : Greeted
  pub begins : BeginsSession p g.key limits waited (halves old.client_in old.client_out tx rx) (halves new.client_in new.client_out tx_then rx_then) greeted
  pub books : Books g greeted old.hub new.hub old.moments new.moments
  pub tx_same : tx_then.link ≡ tx.link
  pub rx_same : rx_then.link ≡ rx.link
  pub settles : Settles place tx_then rx_then (outcome greeted) old.links new.links r

-- the place is kept, and the session begins
pub record Assigned (g : Guest) (p : List Pair) (waited : ℕ) (limits : Limits) (place : Place) (tx : Target) (rx : Origin) (old new : Around) (r : Result Held Ending) : Type 0 where
  pub reply : HubReply
  pub hub : Port
  pub suits : Suits (Assign g.session place) reply
  pub asked : AsksOn old.hub hub (ask (Assign g.session place) (Some reply) ∷ [])
  pub serves : ServesLink g p waited limits place tx rx (record old { hub = hub }) new r

-- the port refused to ask for the place, and the link was hung up
pub record Unassigned (g : Guest) (place : Place) (tx : Target) (rx : Origin) (old new : Around) (r : Result Held Ending) : Type 0 where
  pub fault : HubFault
  pub asked : AsksOn old.hub new.hub (ask (Assign g.session place) None ∷ [])
  pub tells : Tells fault old.hub.desk.most
  pub is : r ≡ Err (fault_ending fault)
  pub hung : HangsUp old.links new.links tx rx
  pub others : new ≡ record old { hub = new.hub; links = new.links }

abbrev pub TakesLink : Guest → List Pair → ℕ → Limits → Place → Target → Origin → Around → Around → Result Held Ending → Type 0
TakesLink g p waited limits place tx rx old new r = Assigned g p waited limits place tx rx old new r ⊎ Unassigned g place tx rx old new r

-- ---- from its dial

-- a link came
pub record Placed (g : Guest) (p : List Pair) (waited : ℕ) (limits : Limits) (old new : Around) (r : Result Held Ending) : Type 0 where
  pub hub : Port
  pub links : Links
  pub place : Place
  pub tx : Target
  pub rx : Origin
  pub reaches : Reaches g.tenant [] old.hub hub old.links links place tx rx
  pub takes : TakesLink g p waited limits place tx rx (record old { hub = hub; links = links }) new r

-- none came: every dial failed, the hub picked no pod, or its port refused a pick
abbrev pub Unplaced : Guest → Port → Port → Links → Links → Ending → Type 0
Unplaced g old new links links' e =
    ((e ≡ why.DialFault) × Fails g.tenant [] old new links links')
    ⊎ (((cause : Refusal) × (e ≡ why.Refused cause) × AsksOn old new (ask (Pick g.tenant None None) (Some (No cause)) ∷ []) × (links' ≡ links))
    ⊎ ((f : HubFault) × (e ≡ fault_ending f) × Stops g.tenant [] old new links links' f))

pub record Missing (g : Guest) (old new : Around) (r : Result Held Ending) : Type 0 where
  pub why : Ending
  pub is : r ≡ Err why
  pub unplaced : Unplaced g old.hub new.hub old.links new.links why
  pub others : new ≡ record old { hub = new.hub; links = new.links }

abbrev pub FindsLink : Guest → List Pair → ℕ → Limits → Around → Around → Result Held Ending → Type 0
FindsLink g p waited limits old new r = Placed g p waited limits old new r ⊎ Missing g old new r
