-- A connection to the tally: two Queries with a move between them, and a Terminate.
use Rattle.std.specs.Prelude.{◌≡◌, ℕ, true, false, List, [], ◌∷◌, ◌++◌, Some, None, codes, map}
use Rattle.std.specs.Int.{w64, to_be_bytes}
use Rattle.pgw_frames.specs.Frames.{render, frame_bytes}
use Rattle.pgw_frames.specs.declared.frame.Frame.{Frame}
use Rattle.pgw_messages.specs.Startup.{startup_packet}
use Rattle.pgw_messages.specs.declared.params.Pair.{Pair}
use Rattle.proxy_outside.specs.declared.addr.Addr.TheVariants.{V4}
use Rattle.proxy_outside.specs.declared.identity.ClientKey.{ClientKey}
use Rattle.proxy_outside.specs.declared.place.Place.{Place}
use Rattle.proxy_links.specs.Links.{LinkCounts, LinkRecord}
use Rattle.session_model.specs.Heard.{with_key}
use Rattle.session_model.specs.Texts.{query, ready, transfer_query, digits_reply, key_digits, restore_query, restore_reply}
use Rattle.session_model.specs.declared.transfer.TransferKey.{TransferKey}
use Rattle.session_legs.specs.declared.side.LegEnd.TheVariants.{Parked, Over, Terminated}
use Rattle.transfer_stages.specs.Exchange.{packet}
use Rattle.tally_session.specs.Replies.{idle_status, auth_ok, key_zero, complete_tally}
use Rattle.tally_session.specs.Tally.{blob_of, tally_kind, tally_rules}
use Rattle.tally_session.specs.declared.store.Nothing.{Nothing}
use Rattle.session_trace.specs.Trace.{Opening, Same, Moved, Round, Trace}
use Rattle.session_trace.specs.Records.{record_of}
use Rattle.session_trace.specs.Calls.{Call}
use Rattle.session_trace.specs.Fits.{FitsCall}
use Rattle.session_trace.specs.Journey.{Pod, spoken}
use Rattle.session_trace.specs.Honest.{IsHonest}

abbrev pub params : List Pair
params = record { name = codes "user"; value = codes "koala" } ∷ []

abbrev pub client_key : ClientKey
client_key = record { process = 1; secret = 2 }

abbrev pub transfer_key : TransferKey
transfer_key = record { high = 3; low = 4 }

abbrev pub place : ℕ → Place
place pod = record { pod = record { 0 = pod }; addr = V4 0; port = 26257 }

abbrev pub counts : LinkCounts
counts = record { tx_faults = 0; rx_faults = 0; waits = 0; ended = false }

-- ---- messages

abbrev pub greeted : List Frame
greeted = auth_ok ∷ key_zero ∷ ready idle_status ∷ []

abbrev pub asked : Frame
asked = query (codes "1")

abbrev pub terminate : Frame
terminate = record { tag = 88; body = [] }

abbrev pub tallied : ℕ → List Frame
tallied n = complete_tally n ∷ ready idle_status ∷ []

-- the state of a tally that counted one
abbrev pub state : List ℕ
state = to_be_bytes w64 1

abbrev pub transferred : List Frame
transferred = digits_reply (key_digits transfer_key) (blob_of 1) [] idle_status

-- ---- the trace

abbrev pub first_opening : Opening
first_opening = record { number = 0; place = place 1; packet = startup_packet params; asked = []; got = render greeted }

abbrev pub later_opening : Opening
later_opening = record { number = 1; place = place 2; packet = packet params []; asked = frame_bytes (restore_query state); got = render (greeted ++ restore_reply) }

abbrev pub first_round : Round
first_round = record {
  forwarded = render (asked ∷ []);
  relayed = render (tallied 1);
  held = [];
  attempt = Some (record { place = place 2; starved = false; dial = Some (record { place = place 2; came = true }) });
  ask = frame_bytes (transfer_query transfer_key);
  answer = render transferred;
  trials = [];
  request = Parked;
  response = Parked;
  next = Moved counts later_opening;
}

abbrev pub last_round : Round
last_round = record {
  forwarded = render (asked ∷ terminate ∷ []);
  relayed = render (tallied 2);
  held = [];
  attempt = None;
  ask = [];
  answer = [];
  trials = [];
  request = Terminated;
  response = Over;
  next = Same;
}

abbrev pub trace : Trace
trace = record { first = first_opening; rounds = last_round ∷ first_round ∷ []; counts = counts }

abbrev pub pod : Pod Nothing
pod = record { greeting = greeted; answers = [] }

-- ---- the call

abbrev pub first_record : LinkRecord
first_record = record_of first_opening counts
    (startup_packet params ++ render (asked ∷ []) ++ frame_bytes (transfer_query transfer_key))
    (render greeted ++ render (tallied 1) ++ render transferred)

abbrev pub last_record : LinkRecord
last_record = record_of later_opening counts
    (packet params [] ++ frame_bytes (restore_query state) ++ render (asked ∷ terminate ∷ []))
    (render (greeted ++ restore_reply) ++ render (tallied 2))

abbrev pub call : Call
call = record {
  route = params;
  key = client_key;
  says = 1;
  taken = render (asked ∷ asked ∷ terminate ∷ []);
  given = 78 ∷ render (map (with_key client_key) greeted ++ tallied 1 ++ tallied 2);
  records = first_record ∷ last_record ∷ [];
  moves = 1;
  starved = 0;
  patience = 1;
  client_faults = false;
  why = record { rejection = None; exchange_cut = false; bye = true; pod_ended = false; auth_refused = false; no_memory = false };
}

-- the trace fits the call and is honest, and the client was given all that the session says
pub record SampleStands : Type 0 where
  pub fits : FitsCall call trace
  pub honest : IsHonest tally_kind tally_rules params trace (pod ∷ pod ∷ [])
  pub all_said : call.given ≡ 78 ∷ render (spoken tally_kind client_key params trace (pod ∷ pod ∷ []))
