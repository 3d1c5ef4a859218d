-- A session that ran to its end, against the trace that fits its call.
use Rattle.std.specs.Prelude.{◌≡◌, ◌+◌, ℕ, Bool, true, false, List, ◌++◌, Option, Some, None, replicate, Ok}
use Rattle.pgw_messages.specs.declared.params.Pair.{Pair}
use Rattle.proxy_outside.specs.Reading.{Rose}
use Rattle.proxy_outside.specs.declared.addr.Addr.{Addr}
use Rattle.proxy_outside.specs.declared.identity.ClientKey.{ClientKey}
use Rattle.proxy_outside.specs.declared.identity.SessionNo.{SessionNo}
use Rattle.proxy_outside.specs.declared.identity.TenantId.{TenantId}
use Rattle.proxy_hub.specs.declared.command.HubCommand.TheVariants.{Release}
use Rattle.proxy_links.specs.Links.{LinkRecord}
use Rattle.link_io.specs.Reading.{RoseBy}
use Rattle.startup_route.specs.declared.step.Route.{Route}
use Rattle.session_trace.specs.Trace.{Round, Trace}
use Rattle.session_trace.specs.Calls.{Call, counted}
use Rattle.session_trace.specs.Calls as call
use Rattle.session_trace.specs.Fits.{FitsCall, FitsBoard}
use Rattle.session_trace.specs.Running.{Board}
use Rattle.session_asks.specs.Admission.{Client}
use Rattle.session_asks.specs.Asks.{Ask, Alone}
use Rattle.session_asks.specs.Between.{AsksInRounds}
use Rattle.session_asks.specs.Fits.{Outside, IsAsked, FitsHub}
use Rattle.session_greeting.specs.declared.greeting.Limits.{Limits}
use Rattle.session_round.specs.Standing.{TellsBytes, waits_left}
use Rattle.session_rounds.specs.Asking.{missed_in}
use Rattle.session_moves.specs.Telling.{TellsLinks}
use Rattle.session_opening.specs.Linking.{Around}
use Rattle.session_opening.specs.Opening.{Ready, Opens}
use Rattle.session_opening.specs.Shown.{Shows, IsCounted}
use Rattle.proxy_session.specs.Calling.{Outcome, Shown, shown, Runs}
use Rattle.proxy_session.specs.declared.why.Why.{Why}
use Rattle.proxy_session.specs.declared.why.Why.TheVariants.{Bye, PodEnded, ExchangeCut, NoMemory}

-- ---- the end of a session

abbrev pub is_bye : Why → Bool
is_bye Bye = true
is_bye _ = false

abbrev pub is_pod_ended : Why → Bool
is_pod_ended PodEnded = true
is_pod_ended _ = false

abbrev pub is_exchange_cut : Why → Bool
is_exchange_cut (ExchangeCut c) = true
is_exchange_cut _ = false

abbrev pub is_no_memory : Why → Bool
is_no_memory NoMemory = true
is_no_memory _ = false

-- what it says of the call's trace; a client that was served is told no more
abbrev pub why_of : Why → call.Why
why_of w = record {
  rejection = None;
  exchange_cut = is_exchange_cut w;
  bye = is_bye w;
  pod_ended = is_pod_ended w;
  auth_refused = false;
  no_memory = is_no_memory w;
}

-- the call, so many refusals of encryption before it
abbrev pub call_of : List Pair → ClientKey → ℕ → ℕ → Bool → List ℕ → List ℕ → List LinkRecord → Outcome → Call
call_of p key patience says faulted taken given records e = record {
  route = p;
  key = key;
  says = says;
  taken = taken;
  given = replicate says 78 ++ given;
  records = records;
  moves = e.moves;
  starved = e.starved;
  patience = patience;
  client_faults = faulted;
  why = why_of e.why;
}

-- whose session it was
abbrev pub client_of : Addr → TenantId → Outcome → Client
client_of peer t e = record { peer = peer; tenant = t; session = e.session; key = e.key; auth_refused = false }

-- ---- premises

-- the dialer tells and counts its dials, and it and the client's source tell bytes
pub record TellsEnd (old new : Around) : Type 0 where
  pub counted : IsCounted old.links new.links
  pub client : TellsBytes new.client_in.taken
  pub dialer : TellsLinks new.links

-- ---- asks behind the greeting

-- those between the rounds and that of the release, and how many of them came to nothing
pub record Books (n : SessionNo) (rs : List Round) (o : Outside) (unbooked : ℕ) : Type 0 where
  pub before : List Ask
  pub between : List Ask
  pub release : List Ask
  pub made : IsAsked o (before ++ (between ++ release))
  pub in_rounds : AsksInRounds n rs between
  pub released : Alone (Release n) release
  pub counts : unbooked ≡ counted (missed_in (between ++ release))

-- ---- the law

-- What a session showed from its opening to its end is what a call shows, and its trace fits that call. The waits are those of the
-- client's source, and of all links to which the session was moved, since the opening ended.
pub record SessionFits (peer : Addr) (route : Route) (limits : Limits) (old between : Around) (words : Option (List ℕ)) (r : Ready) (board : Board) (new : Shown) (e : Outcome) : Type 0 where
  pub trace : Trace
  pub outside : Outside
  pub taken : List ℕ
  pub given : List ℕ
  pub records : List LinkRecord
  pub client_waits : ℕ
  pub pod_waits : ℕ
  pub shows : Shows old new.around words new.words taken given records outside
  pub asks : FitsHub route.params (client_of peer route.tenant e) outside (Some trace.first) trace.rounds
  pub books : Books r.session trace.rounds outside e.unbooked
  pub fits :
      (says : ℕ) (faulted : Bool) → (Rose old.client_out.faults new.around.client_out.faults → faulted ≡ true)
      → FitsCall (call_of route.params r.key limits.patience says faulted taken given records e) trace
  pub client_rose : RoseBy between.client_in.waits client_waits new.around.client_in.waits
  pub pod_rose : RoseBy r.link.rx.waits pod_waits (waits_left trace.rounds + trace.counts.waits)
  pub boards : FitsBoard board new.board client_waits pod_waits trace

abbrev pub SessionsFit : Type 0
SessionsFit =
    (peer : Addr) (route : Route) (waited : ℕ) (limits : Limits) (old between : Around) (words words' : Option (List ℕ)) (r : Ready) (board : Board) (new : Shown) (e : Outcome)
    → Opens peer route waited limits old between words words' (Ok r) → Runs route.params limits.patience r (shown between words' board) new e → TellsEnd old new.around
    → SessionFits peer route limits old between words r board new e
