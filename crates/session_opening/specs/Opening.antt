-- The opening of a session, from the admission of its client (PostgreSQL manual, "Message Flow", Start-up).
use Rattle.std.specs.Prelude.{◌≡◌, ℕ, List, Option, Some, None, Result, Ok, Err}
use Rattle.proxy_outside.specs.Reading.{Origin}
use Rattle.proxy_outside.specs.Writing.{Target}
use Rattle.proxy_outside.specs.declared.addr.Addr.{Addr}
use Rattle.proxy_outside.specs.declared.identity.ClientKey.{ClientKey}
use Rattle.proxy_outside.specs.declared.identity.SessionNo.{SessionNo}
use Rattle.proxy_hub.specs.Ports.{Port}
use Rattle.proxy_hub.specs.declared.command.HubCommand.TheVariants.{Release}
use Rattle.proxy_hub.specs.declared.fault.HubFault.{HubFault}
use Rattle.session_asks.specs.Asks.{Alone}
use Rattle.session_admission.specs.Admitting.{Admits, GivesKey}
use Rattle.session_admission.specs.declared.admission.Admission.{Admission}
use Rattle.session_admission.specs.declared.admission.Admission.TheVariants as admission
use Rattle.session_greeting.specs.declared.greeting.Limits.{Limits}
use Rattle.startup_route.specs.declared.step.Route.{Route}
use Rattle.session_opening.specs.Booking.{Asks}
use Rattle.session_opening.specs.Endings.{fault_ending, Tells}
use Rattle.session_opening.specs.Linking.{Around, Held, FindsLink}
use Rattle.session_opening.specs.declared.ending.Ending.{Ending}
use Rattle.session_opening.specs.declared.ending.Ending.TheVariants as why
use Rattle.session_opening.specs.declared.opening.Ended.{Ended}
use Rattle.session_opening.specs.declared.opening.Opened.{Opened}
use Rattle.session_opening.specs.declared.opening.Opened.TheVariants as came

-- what is told of a session that is ready
pub record Ready : Type 0 where
  pub session : SessionNo
  pub key : ClientKey
  pub link : Held

-- a session, or why there is none
abbrev pub opened : {T R : Type 0} → (T → Target) → (R → Origin) → Opened T R → Result Ready Ended
opened target origin (came.Ready s) = Ok (record {
  session = s.number;
  key = s.key;
  link = record { place = s.place; tx = target s.tx; rx = origin s.rx; key = s.pod_key };
})
opened target origin (came.Ended e) = Err e

abbrev pub ended : Option SessionNo → Option ClientKey → Ending → Ended
ended session key why = record { session = session; key = key; why = why }

-- what a link comes to, with the session and the key that it is for
abbrev pub for_session : SessionNo → ClientKey → Result Held Ending → Result Ready Ended
for_session n key (Ok link) = Ok (record { session = n; key = key; link = link })
for_session n key (Err e) = Err (ended (Some n) (Some key) e)

-- behind the answer to GiveKey
abbrev pub AfterKey : Addr → SessionNo → Route → ℕ → Limits → Around → Around → Result ClientKey HubFault → Result Ready Ended → Type 0
AfterKey peer n route waited limits old new (Ok key) r =
    (link : Result Held Ending) × FindsLink (record { peer = peer; tenant = route.tenant; session = n; key = key }) route.params waited limits old new link × (r ≡ for_session n key link)
AfterKey peer n route waited limits old new (Err fault) r = (r ≡ Err (ended (Some n) None (fault_ending fault))) × (new ≡ old)

-- the session gets a key, and a link with it
pub record Serves (peer : Addr) (n : SessionNo) (route : Route) (waited : ℕ) (limits : Limits) (old new : Around) (words words' : Option (List ℕ)) (r : Result Ready Ended) : Type 0 where
  pub hub : Port
  pub answer : Result ClientKey HubFault
  pub gives : GivesKey n peer old.hub hub words words' answer
  pub behind : AfterKey peer n route waited limits (record old { hub = hub }) new answer r

-- a session that comes to nothing is released
abbrev pub Releases : SessionNo → Around → Around → Result Ready Ended → Type 0
Releases n old new (Ok ready) = new ≡ old
Releases n old new (Err e) = Asks (Alone (Release n)) old.hub new.hub × (new ≡ record old { hub = new.hub })

-- behind the answer to Admit
abbrev pub AfterAdmit : Addr → Route → ℕ → Limits → Around → Around → Option (List ℕ) → Option (List ℕ) → Admission → Result Ready Ended → Type 0
AfterAdmit peer route waited limits old new words words' (admission.Admitted n) r =
    (between : Around) × Serves peer n route waited limits old between words words' r × Releases n between new r
AfterAdmit peer route waited limits old new words words' (admission.Refused cause) r = (r ≡ Err (ended None None (why.Refused cause))) × (new ≡ old) × (words' ≡ words)
AfterAdmit peer route waited limits old new words words' (admission.Fault fault) r = (r ≡ Err (ended None None (fault_ending fault))) × (new ≡ old) × (words' ≡ words)

-- the client is let in or not
pub record LetsIn (peer : Addr) (route : Route) (waited : ℕ) (limits : Limits) (old new : Around) (words words' : Option (List ℕ)) (r : Result Ready Ended) : Type 0 where
  pub hub : Port
  pub moments : Option (List ℕ)
  pub admission : Admission
  pub admits : Admits peer route.tenant old.hub hub old.moments moments admission
  pub behind : AfterAdmit peer route waited limits (record old { hub = hub; moments = moments }) new words words' admission r

-- a client without a session is told why
abbrev pub Closes : Around → Around → Result Ready Ended → Result Ready Ended → Type 0
Closes old new (Ok ready) r = (r ≡ Ok ready) × (new ≡ old)
Closes old new (Err e) r = (w : Ending) × Tells e.why old.client_out new.client_out w × (r ≡ Err (ended e.session e.key w)) × (new ≡ record old { client_out = new.client_out })

pub record Opens (peer : Addr) (route : Route) (waited : ℕ) (limits : Limits) (old new : Around) (words words' : Option (List ℕ)) (r : Result Ready Ended) : Type 0 where
  pub between : Around
  pub came : Result Ready Ended
  pub lets_in : LetsIn peer route waited limits old between words words' came
  pub closes : Closes between new came r
