-- What an opening shows at its return, against what a trace and the asks of a call are.
use Rattle.std.specs.Prelude.{◌≡◌, ◌<◌, ◌^◌, ℕ, Bool, true, false, List, [], ◌++◌, length, Option, Some, None, option_map, replicate}
use Rattle.pgw_frames.specs.Frames.{IsBytes}
use Rattle.pgw_messages.specs.declared.params.Pair.{Pair}
use Rattle.proxy_outside.specs.declared.addr.Addr.{Addr}
use Rattle.proxy_outside.specs.declared.identity.ClientKey.{ClientKey}
use Rattle.proxy_outside.specs.declared.identity.TenantId.{TenantId}
use Rattle.proxy_links.specs.Links.{Links, LinkCounts, LinkRecord}
use Rattle.proxy_links.specs.Told.{push, Grows}
use Rattle.proxy_links.specs.declared.dialer.Dial.{Dial}
use Rattle.startup_route.specs.Rejections.{frame_of}
use Rattle.session_trace.specs.Trace.{Opening}
use Rattle.session_trace.specs.Calls.{Call, Why}
use Rattle.session_trace.specs.Fits.{FitsCall, FitsUnopened}
use Rattle.session_asks.specs.Admission.{Client}
use Rattle.session_asks.specs.Fits.{Outside}
use Rattle.session_entry.specs.Showing as hub
use Rattle.session_opening.specs.Endings.{rejection_of}
use Rattle.session_opening.specs.Linking.{Around}
use Rattle.session_opening.specs.declared.ending.Ending.{Ending}
use Rattle.session_opening.specs.declared.ending.Ending.TheVariants.{Refused, DialFault, JournalFull, AuthRefused, Left, PodCut, ClientCut, NoMemory}
use Rattle.session_opening.specs.declared.opening.Ended.{Ended}

-- what was taken of the client and given to it, and what was asked, dialed, drawn and hung up, each where it is told
pub record Shows (old new : Around) (words words' : Option (List ℕ)) (taken given : List ℕ) (records : List LinkRecord) (o : Outside) : Type 0 where
  pub around_hub : hub.Shows old.hub new.hub old.links new.links records o
  pub moments : Grows old.moments new.moments o.moments
  pub words_are : Grows words words' o.words
  pub taken_is : new.client_in.taken ≡ push old.client_in.taken taken
  pub given_is : new.client_out.contents ≡ push old.client_out.contents given

-- ---- the end of a call

abbrev pub is_auth_refused : Ending → Bool
is_auth_refused (Refused cause) = false
is_auth_refused DialFault = false
is_auth_refused (JournalFull most) = false
is_auth_refused (AuthRefused fields) = true
is_auth_refused Left = false
is_auth_refused (PodCut c) = false
is_auth_refused (ClientCut c) = false
is_auth_refused NoMemory = false

abbrev pub is_left : Ending → Bool
is_left (Refused cause) = false
is_left DialFault = false
is_left (JournalFull most) = false
is_left (AuthRefused fields) = false
is_left Left = true
is_left (PodCut c) = false
is_left (ClientCut c) = false
is_left NoMemory = false

abbrev pub is_no_memory : Ending → Bool
is_no_memory (Refused cause) = false
is_no_memory DialFault = false
is_no_memory (JournalFull most) = false
is_no_memory (AuthRefused fields) = false
is_no_memory Left = false
is_no_memory (PodCut c) = false
is_no_memory (ClientCut c) = false
is_no_memory NoMemory = true

-- what it says of the call's trace
abbrev pub why_of : Ending → Why
why_of e = record {
  rejection = option_map frame_of (rejection_of e);
  exchange_cut = false;
  bye = is_left e;
  pod_ended = false;
  auth_refused = is_auth_refused e;
  no_memory = is_no_memory e;
}

-- the call, so many refusals of encryption before it
abbrev pub call_of : List Pair → ClientKey → ℕ → ℕ → Bool → List ℕ → List ℕ → List LinkRecord → Ending → Call
call_of p key patience says faulted taken given records e = record {
  route = p;
  key = key;
  says = says;
  taken = taken;
  given = replicate says 78 ++ given;
  records = records;
  moves = 0;
  starved = 0;
  patience = patience;
  client_faults = faulted;
  why = why_of e;
}

abbrev pub client_of : Addr → TenantId → Ended → Client
client_of peer t e = record { peer = peer; tenant = t; session = e.session; key = e.key; auth_refused = is_auth_refused e.why }

-- the trace of a call that ends in its opening
abbrev pub FitsEnd : Option Opening → LinkCounts → Call → Type 0
FitsEnd None counts c = FitsUnopened c
FitsEnd (Some o) counts c = FitsCall c (record { first = o; rounds = []; counts = counts })

-- ---- premises

-- the dialer tells its dials up to the return, and counts them
pub record IsCounted (old new : Links) : Type 0 where
  pub before : List Dial
  pub now : List Dial
  pub told_before : old.dials ≡ Some before
  pub told_now : new.dials ≡ Some now
  pub counted : old.dialed ≡ length before
  pub within : length now < 2 ^ 64

-- bytes were got
abbrev pub GotBytes : Option Opening → Type 0
GotBytes None = Unit {0}
GotBytes (Some o) = IsBytes o.got
