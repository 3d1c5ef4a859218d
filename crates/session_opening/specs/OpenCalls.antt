-- An opening whose session is ready, against a trace and the asks of a call that go on from there.
use Rattle.std.specs.Prelude.{◌≡◌, ◌≤◌, ℕ, false, List, [], ◌++◌, Option, Some, Ok}
use Rattle.processor_core.specs.declared.request.Request.{Request}
use Rattle.processor_core.specs.declared.response.Response.{Response}
use Rattle.proxy_outside.specs.declared.addr.Addr.{Addr}
use Rattle.proxy_links.specs.declared.dialer.Dial.{Dial}
use Rattle.proxy_hub.specs.declared.command.HubCommand.TheVariants.{Release}
use Rattle.startup_route.specs.declared.step.Route.{Route}
use Rattle.session_trace.specs.Trace.{Opening, Round}
use Rattle.session_trace.specs.Openings.{Opened}
use Rattle.session_trace.specs.Journey.{keyed}
use Rattle.session_trace.specs.Running.{Now}
use Rattle.session_trace.specs.SoFar.{Start, SoFar}
use Rattle.session_asks.specs.Asks.{Ask, Alone, moments_in, words_in}
use Rattle.session_asks.specs.Admission.{Client, AsksHub}
use Rattle.session_asks.specs.Between.{AsksInRounds}
use Rattle.session_asks.specs.Fits.{Outside, IsAsked}
use Rattle.session_greeting.specs.declared.greeting.Limits.{Limits}
use Rattle.session_opening.specs.Linking.{Around}
use Rattle.session_opening.specs.Opening.{Ready, Opens}
use Rattle.session_opening.specs.Shown.{Shows}

-- the client whose session goes on
abbrev pub client_with : Addr → Route → Ready → Client
client_with peer route r = record { peer = peer; tenant = route.tenant; session = Some r.session; key = Some r.key; auth_refused = false }

-- what the halves told as the greeting ended, behind which records of links follow that were hung up since the opening began
abbrev pub start_at : Around → Around → Start
start_at old new = record { client_taken = new.client_in.taken; client_given = new.client_out.contents; records = old.links.records }

abbrev pub now_at : Around → Ready → Request → Response → Now
now_at new r request response = record { client_in = new.client_in; client_out = new.client_out; tx = r.link.tx; rx = r.link.rx; request = request; response = response }

-- whatever rounds follow, these asks, those of the rounds and the release are what the call asks
abbrev pub AsksGoOn : Client → Ready → List Dial → Opening → List Ask → Type 0
AsksGoOn c r dials first asks =
    (rs : List Round) (later release : List Ask) → AsksInRounds r.session rs later → Alone (Release r.session) release → AsksHub c dials (Some first) rs (asks ++ (later ++ release))

pub record ReadyFits (peer : Addr) (route : Route) (old new : Around) (words words' : Option (List ℕ)) (r : Ready) : Type 0 where
  pub first : Opening
  pub opens : Opened route.params first
  pub there : first.place ≡ r.link.place
  pub outside : Outside
  pub shows : Shows old new words words' first.asked (keyed r.key first.got) [] outside
  pub asks : List Ask
  pub asked : IsAsked outside asks
  pub moments : outside.moments ≡ moments_in asks
  pub words_are : outside.words ≡ words_in asks
  pub asks_go_on : AsksGoOn (client_with peer route r) r outside.dials first asks
  pub alike : r.link.tx.link ≡ r.link.rx.link
  pub is_open : 1 ≤ new.links.live
  pub so_far : (request : Request) (response : Response) → SoFar (start_at old new) (now_at new r request response) new.links first [] [] []

abbrev pub ReadysFit : Type 0
ReadysFit =
    (peer : Addr) (route : Route) (waited : ℕ) (limits : Limits) (old new : Around) (words words' : Option (List ℕ)) (r : Ready)
    → Opens peer route waited limits old new words words' (Ok r) → ReadyFits peer route old new words words' r
