-- What a connection does, stage by stage (PostgreSQL manual, "Message Flow").
use Rattle.std.specs.Prelude.{◌≡◌, ℕ, List, [], false, Option, Some, None, Result, Ok, Err}
use Rattle.pgw_messages.specs.declared.params.Pair.{Pair}
use Rattle.processor_core.specs.Stands.{RequestStands, ResponseStands}
use Rattle.processor_core.specs.declared.request.Request.{Request}
use Rattle.processor_core.specs.declared.response.Response.{Response}
use Rattle.proxy_outside.specs.Reading.{Origin}
use Rattle.proxy_outside.specs.Writing.{Target}
use Rattle.proxy_outside.specs.declared.addr.Addr.{Addr}
use Rattle.proxy_outside.specs.declared.identity.ClientKey.{ClientKey}
use Rattle.proxy_outside.specs.declared.identity.SessionNo.{SessionNo}
use Rattle.proxy_hub.specs.Ports.{Port}
use Rattle.proxy_hub.specs.declared.command.HubCommand.TheVariants.{Release}
use Rattle.proxy_links.specs.Links.{Links, HangsUp}
use Rattle.session_trace.specs.Running.{Now, Board}
use Rattle.session_rounds.specs.Scenes.{scene}
use Rattle.session_course.specs.Booking.{AsksOne}
use Rattle.session_course.specs.Standing.{course}
use Rattle.session_course.specs.Course.{Courses}
use Rattle.session_course.specs.declared.course.Finish.{Finish}
use Rattle.session_entry.specs.Receiving.{Receives}
use Rattle.session_entry.specs.declared.entry.Received.{Received}
use Rattle.session_entry.specs.declared.entry.Received.TheVariants as came
use Rattle.session_greeting.specs.declared.greeting.Limits.{Limits}
use Rattle.session_opening.specs.Linking.{Around}
use Rattle.session_opening.specs.Opening.{Ready, Opens}
use Rattle.session_opening.specs.OpenCalls.{now_at}
use Rattle.session_opening.specs.declared.opening.Ended as opening
use Rattle.startup_route.specs.declared.step.Route.{Route}
use Rattle.proxy_session.specs.Why.{by_door, by_opening, by_finish}
use Rattle.proxy_session.specs.declared.session.Ended.{Ended}
use Rattle.proxy_session.specs.declared.why.Why.{Why}
use Rattle.proxy_session.specs.declared.why.Why.TheVariants.{CancelDone, BadStartup, JournalFull}

-- what is told of the objects that a connection works on
pub record Shown : Type 0 where
  pub around : Around
  pub words : Option (List ℕ)
  pub board : Board

abbrev pub shown : Around → Option (List ℕ) → Board → Shown
shown around words board = record { around = around; words = words; board = board }

-- what a connection came to
pub record Outcome : Type 0 where
  pub why : Why
  pub session : Option SessionNo
  pub key : Option ClientKey
  pub moves : ℕ
  pub unbooked : ℕ
  pub starved : ℕ

abbrev pub outcome : {S K : Type 0} → Ended S K → Outcome
outcome e = record { why = e.why; session = e.session; key = e.key; moves = e.moves; unbooked = e.unbooked; starved = e.starved }

-- no session ran
abbrev pub uncounted : Why → Option SessionNo → Option ClientKey → Outcome
uncounted why session key = record { why = why; session = session; key = key; moves = 0; unbooked = 0; starved = 0 }

abbrev pub unserved : Why → Outcome
unserved why = uncounted why None None

-- ---- a session that is ready

-- it ran its course, its link was hung up, and it was released
pub record Runs (p : List Pair) (patience : ℕ) (r : Ready) (old new : Shown) (e : Outcome) : Type 0 where
  pub request : Request
  pub response : Response
  pub request_new : RequestStands request [] [] false
  pub response_new : ResponseStands response [] [] false
  pub last : Now
  pub port : Port
  pub unbooked : ℕ
  pub links : Links
  pub finish : Finish
  pub courses : Courses r.session p patience
      (course (scene (now_at old.around r request response) old.board old.around.hub 0) old.around.links old.words 0 0)
      (course (scene last new.board port unbooked) links new.words e.moves e.starved)
      finish
  pub hung : HangsUp links new.around.links last.tx last.rx
  pub released : AsksOne (Release r.session) port new.around.hub unbooked e.unbooked
  pub client_in : new.around.client_in ≡ last.client_in
  pub client_out : new.around.client_out ≡ last.client_out
  pub moments : new.around.moments ≡ old.around.moments
  pub why : e.why ≡ by_finish finish
  pub session : e.session ≡ Some r.session
  pub key : e.key ≡ Some r.key

-- ---- a client that wants a session

abbrev pub Behind : List Pair → ℕ → Shown → Shown → Outcome → Result Ready opening.Ended → Type 0
Behind p patience between new e (Ok r) = Runs p patience r between new e
Behind p patience between new e (Err x) = (new ≡ between) × (e ≡ uncounted (by_opening x.why) x.session x.key)

pub record Serves (peer : Addr) (route : Route) (waited : ℕ) (limits : Limits) (old new : Shown) (e : Outcome) : Type 0 where
  pub around : Around
  pub words : Option (List ℕ)
  pub opened : Result Ready opening.Ended
  pub opens : Opens peer route waited limits old.around around old.words words opened
  pub behind : Behind route.params limits.patience (shown around words old.board) new e opened

-- ---- a client

-- by what it came for
abbrev pub Becomes : Addr → Limits → Shown → Shown → Outcome → Received → Type 0
Becomes peer limits between new e (came.Session route waited) = Serves peer route waited limits between new e
Becomes peer limits between new e came.Cancelled = (new ≡ between) × (e ≡ unserved CancelDone)
Becomes peer limits between new e (came.Refused fault) = (new ≡ between) × (e ≡ unserved (BadStartup fault))
Becomes peer limits between new e (came.JournalFull most) = (new ≡ between) × (e ≡ unserved (JournalFull most))
Becomes peer limits between new e (came.Cut c) = (new ≡ between) × (e ≡ unserved (by_door c))

-- behind its first packets
abbrev pub received_at : Shown → Origin → Target → Port → Links → Shown
received_at old client_in client_out hub links = shown (record { client_in = client_in; client_out = client_out; hub = hub; links = links; moments = old.around.moments }) old.words old.board

pub record Calls (peer : Addr) (limits : Limits) (old new : Shown) (e : Outcome) : Type 0 where
  pub client_in : Origin
  pub client_out : Target
  pub hub : Port
  pub links : Links
  pub received : Received
  pub receives : Receives peer limits.login_waits old.around.client_in client_in old.around.client_out client_out old.around.hub hub old.around.links links received
  pub becomes : Becomes peer limits (received_at old client_in client_out hub links) new e received
