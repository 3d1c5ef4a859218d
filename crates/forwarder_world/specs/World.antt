-- The forwarder, by fixed lists and positions.
use Rattle.std.specs.Prelude.{ℕ, ◌+◌, ◌-◌, ◌^◌, ◌==◌, nat_lt, min, Bool, true, false, not, ◌&&◌, List, [], ◌∷◌, ◌++◌, length, take, Option, Some, None, slice_get, if◌then◌else◌}
use Rattle.pgw_frames.specs.declared.frame.Frame.{Frame}
use Rattle.pgw_frames.specs.Frames.{frames, frame_bytes, rest, bad}
use Rattle.proxy_outside.specs.Rules.{Rules}
use Rattle.pgw_messages.specs.Tags as tag
use Rattle.pgw_messages.specs.Startup.{startup_packet}
use Rattle.session_model.specs.Kind.{Kind}
use Rattle.session_model.specs.Texts.{transfer_query, restore_query}
use Rattle.pgw_messages.specs.declared.params.Pair.{Pair}
use Rattle.session_model.specs.declared.transfer.TransferKey.{TransferKey}
use Rattle.transfer_stages.specs.Exchange as exchange
use Rattle.transfer_stages.specs.declared.stage.Cut.TheVariants.{WriteFault, Ended}
use Rattle.transfer_stages.specs.declared.stage.Outcome.{Outcome}
use Rattle.transfer_stages.specs.declared.stage.Outcome.TheVariants as outcome
use Rattle.transfer_stages.specs.declared.stage.Stage.{Stage}
use Rattle.transfer_stages.specs.declared.stage.Stage.TheVariants as at
use Rattle.session_model.specs.Solo.{Deed, Take, Other, store_after}
use Rattle.session_model.specs.Heard.{with_key, has_ready}
use Rattle.session_model.specs.SafePoint.{safe, behind_greeting}
use Rattle.forwarder_world.specs.Link as link
use Rattle.forwarder_world.specs.Link.{Link}
use Rattle.forwarder_world.specs.declared.event.Event.{Event}
use Rattle.forwarder_world.specs.declared.event.Event.TheVariants as event
use Rattle.forwarder_world.specs.declared.counts.Counts.{Counts}
use Rattle.forwarder_world.specs.declared.event.Phase.{Phase}
use Rattle.forwarder_world.specs.declared.event.Phase.TheVariants as phase
use Rattle.forwarder_world.specs.declared.event.Close.{Close}
use Rattle.forwarder_world.specs.declared.event.Close.TheVariants.{Bye, ClientCut, BadClient, PodEnded, PodWrite, ExchangeCut}
use Rattle.proxy_outside.specs.declared.identity.ClientKey.{ClientKey}

pub data Mode : Type 0 where
  Running : Mode
  Stop : Bool → Bool → Mode  -- whether the request side is parked, and whether the response side is held
  Exchanging : TransferKey → Stage → Mode
  Closed : Close → Mode

pub record World (S T C : Type 0) : Type 0 where
  pub script : List ℕ  -- what the client gave
  pub whole : Bool  -- the client gives no more
  pub read : ℕ  -- how many bytes of it were read
  pub forwarded : List Frame  -- what the request processor handed out
  pub written : ℕ  -- how many of these were sent to a pod
  pub taken : ℕ  -- how many of these a pod took
  pub passed : List Frame  -- what the response processor handed out
  pub link : Link S
  pub fresh : Option (Link S)  -- the link to the new pod
  pub no_dial : Bool  -- the next dial fails
  pub store : T
  pub story : List (Deed C)
  pub mode : Mode
  pub received : List ℕ  -- what the client received
  pub moves : ℕ
  pub failed : ℕ

abbrev pub start : {S T C R : Type 0} → Kind S C R → Rules T C R → List Pair → World S T C
start k rules p = record {
  script = [];
  whole = false;
  read = 0;
  forwarded = [];
  written = 0;
  taken = 0;
  passed = [];
  link = link.opened k p (startup_packet p);
  fresh = None;
  no_dial = false;
  store = rules.first;
  story = [];
  mode = Running;
  received = [];
  moves = 0;
  failed = 0;
}

-- the word for where a world stands
abbrev pub phase_of : Mode → Phase
phase_of Running = phase.Running
phase_of (Stop false held) = phase.Stop
phase_of (Stop true held) = phase.Parked
phase_of (Exchanging t x) = phase.Exchange
phase_of (Closed c) = phase.Closed c

-- how many of the messages that were handed out were not sent: at a podwrite the last one
abbrev pub unwritten_by : Close → ℕ
unwritten_by PodWrite = 1
unwritten_by Bye = 0
unwritten_by ClientCut = 0
unwritten_by (BadClient n) = 0
unwritten_by PodEnded = 0
unwritten_by (ExchangeCut c) = 0

abbrev pub unwritten : Mode → ℕ
unwritten Running = 0
unwritten (Stop parked held) = 0
unwritten (Exchanging t x) = 0
unwritten (Closed c) = unwritten_by c

-- counts stop at the greatest number that they hold
abbrev pub counted : ℕ → ℕ
counted n = min n (2 ^ 64 - 1)

abbrev pub counts_of : {S T C : Type 0} → World S T C → Counts
counts_of w = record {
  moves = counted w.moves;
  failed = counted w.failed;
  taken = counted w.read;
  forwarded = counted w.written;
  passed = counted (length w.passed);
}

-- ---- the client's side

-- whether the request side goes on
abbrev pub forwarding : Mode → Bool
forwarding Running = true
forwarding (Stop parked held) = not parked
forwarding (Exchanging t x) = false
forwarding (Closed c) = false

-- whether the response side goes on
abbrev pub passing : Mode → Bool
passing Running = true
passing (Stop parked held) = not held
passing (Exchanging t x) = false
passing (Closed c) = false

-- the client gives 1 to 4,096 bytes at once, while it has more to give
abbrev pub may_give : {S T C : Type 0} → World S T C → List ℕ → Bool
may_give w b = not w.whole && (nat_lt 0 (length b) && not (nat_lt 4096 (length b)))

abbrev pub gives : {S T C : Type 0} → World S T C → List ℕ → World S T C
gives w b = record w { script = w.script ++ b }

abbrev pub reads : {S T C : Type 0} → World S T C → ℕ → World S T C
reads w n = record w { read = min (length w.script) (w.read + n) }

abbrev pub closes : {S T C : Type 0} → World S T C → Close → World S T C
closes w c = record w { mode = Closed c }

-- what the end of the script brings
abbrev pub client_ends : {S T C : Type 0} → World S T C → World S T C
client_ends w =
    if w.whole && (w.read == length w.script)
    then closes w (if length (rest (take w.read w.script)) == 0 then Bye else ClientCut)
    else w

-- the request processor hands out a message
abbrev pub hands_out : {S T C : Type 0} → World S T C → Frame → World S T C
hands_out w f = record w { forwarded = w.forwarded ++ f ∷ [] }

-- it is sent to the pod; a Terminate (PostgreSQL manual, Message Flow, Termination) ends the connection
abbrev pub writes : {S T C : Type 0} → World S T C → Frame → World S T C
writes w f = record w { written = w.written + 1; link = link.sends w.link f; mode = if f.tag == tag.terminate then Closed Bye else w.mode }

abbrev pub forwards : {S T C : Type 0} → World S T C → Option Frame → Option ℕ → World S T C
forwards w (Some f) _ = if w.link.cut then closes (hands_out w f) PodWrite else writes (hands_out w f) f
forwards w None (Some n) = closes w (BadClient n)
forwards w None None = client_ends w

abbrev pub passes : {S T C : Type 0} → ClientKey → World S T C → Option Frame → World S T C
passes key w None = if w.link.cut && (w.link.back == length w.link.got) then closes w PodEnded else w
passes key w (Some f) = record w {
  passed = w.passed ++ f ∷ [];
  link = link.passes w.link;
  received = w.received ++ frame_bytes (if has_ready w.passed then f else with_key key f);
}

-- ---- the current pod

-- a message that the client sent: this is a deed of the session
abbrev pub pod_takes_client : {S T C R : Type 0} → Kind S C R → Rules T C R → World S T C → S → Frame → World S T C
pod_takes_client k rules w s f = record w {
  taken = w.taken + 1;
  link = link.hears k rules w.link s w.store f;
  store = store_after rules w.store (k.asks s f);
  story = w.story ++ Take ∷ [];
}

-- a text of a transfer
abbrev pub pod_takes_own : {S T C R : Type 0} → Kind S C R → Rules T C R → World S T C → S → Frame → World S T C
pod_takes_own k rules w s f = record w {
  link = link.hears k rules w.link s w.store f;
  store = store_after rules w.store (k.asks s f);
}

-- the client's messages stand before a transfer's text
abbrev pub pod_takes : {S T C R : Type 0} → Kind S C R → Rules T C R → World S T C → Option S → Option Frame → World S T C
pod_takes k rules w None o = w
pod_takes k rules w (Some s) None = w
pod_takes k rules w (Some s) (Some f) = if nat_lt w.taken (length w.forwarded) then pod_takes_client k rules w s f else pod_takes_own k rules w s f

abbrev pub others : {S T C R : Type 0} → Rules T C R → World S T C → C → World S T C
others rules w c = record w { store = rules.next w.store c; story = w.story ++ Other c ∷ [] }

-- ---- stopping

abbrev pub stops : {S T C : Type 0} → World S T C → Mode → World S T C
stops w Running = if has_ready w.passed then record w { mode = Stop false false } else w
stops w (Stop parked held) = w
stops w (Exchanging t x) = w
stops w (Closed c) = w

abbrev pub parks : {S T C : Type 0} → World S T C → Mode → World S T C
parks w (Stop false held) = record w { mode = Stop true held }
parks w (Stop true held) = w
parks w Running = w
parks w (Exchanging t x) = w
parks w (Closed c) = w

abbrev pub holds : {S T C : Type 0} → World S T C → Mode → World S T C
holds w (Stop true false) = if link.holds_nothing w.link then record w { mode = Stop true true } else w
holds w (Stop true true) = w
holds w (Stop false held) = w
holds w Running = w
holds w (Exchanging t x) = w
holds w (Closed c) = w

abbrev pub begins : {S T C : Type 0} → World S T C → TransferKey → Mode → World S T C
begins w t (Stop true true) = record w { mode = if safe w.forwarded (behind_greeting w.passed) then Exchanging t at.AskOld else Running }
begins w t (Stop true false) = w
begins w t (Stop false held) = w
begins w t Running = w
begins w t (Exchanging u x) = w
begins w t (Closed c) = w

-- ---- the exchange

abbrev pub moved : {S T C : Type 0} → World S T C → Option (Link S) → World S T C
moved w None = w
moved w (Some l) = record w { link = l; fresh = None; moves = w.moves + 1; mode = Running }

abbrev pub fails : {S T C : Type 0} → World S T C → World S T C
fails w = record w { fresh = None; failed = w.failed + 1; mode = Running }

abbrev pub comes_to : {S T C : Type 0} → World S T C → Outcome → World S T C
comes_to w (outcome.Moved key) = moved w w.fresh
comes_to w (outcome.Refused reason) = fails w
comes_to w (outcome.RevivalRefused f) = fails w
comes_to w outcome.DialFault = fails w
comes_to w (outcome.NewCut c) = fails w
comes_to w (outcome.OldCut c) = closes w (ExchangeCut c)

abbrev pub arrives_by : {S T C : Type 0} → World S T C → TransferKey → Stage → Option Outcome → World S T C
arrives_by w t x None = record w { mode = Exchanging t x }
arrives_by w t x (Some o) = comes_to w o

-- the exchange has come to this stage
abbrev pub arrives : {S T C : Type 0} → World S T C → TransferKey → Stage → World S T C
arrives w t x = arrives_by w t x (exchange.ended x)

-- a frame of the old pod is awaited
abbrev pub awaits_old : {S T C : Type 0} → World S T C → TransferKey → List Pair → Stage → Option Frame → World S T C
awaits_old w t p x (Some f) = arrives (record w { link = link.takes w.link f }) t (exchange.takes t p x f)
awaits_old w t p x None = if w.link.cut then comes_to w (outcome.OldCut Ended) else w

abbrev pub awaits_new_by : {S T C : Type 0} → World S T C → TransferKey → List Pair → Stage → Link S → Option Frame → World S T C
awaits_new_by w t p x l (Some f) = arrives (record w { fresh = Some (link.takes l f) }) t (exchange.takes t p x f)
awaits_new_by w t p x l None = if l.cut then comes_to w (outcome.NewCut Ended) else w

abbrev pub awaits_new : {S T C : Type 0} → World S T C → TransferKey → List Pair → Stage → Option (Link S) → World S T C
awaits_new w t p x None = w
awaits_new w t p x (Some l) = awaits_new_by w t p x l (link.next_of_got l)

-- a text is sent to the new pod
abbrev pub sends_new : {S T C : Type 0} → World S T C → TransferKey → (Link S → Link S) → Stage → Option (Link S) → World S T C
sends_new w t change x None = w
sends_new w t change x (Some l) = if l.cut then comes_to w (outcome.NewCut WriteFault) else record w { fresh = Some (change l); mode = Exchanging t x }

abbrev pub dials : {S T C : Type 0} → World S T C → TransferKey → Stage → World S T C
dials w t x =
    if w.no_dial then comes_to (record w { no_dial = false }) outcome.DialFault
    else record w { fresh = Some link.dialed; mode = Exchanging t x }

abbrev pub moves_at : {S T C : Type 0} → World S T C → TransferKey → List Pair → Stage → World S T C
moves_at w t p at.AskOld =
    if w.link.cut then comes_to w (outcome.OldCut WriteFault)
    else record w { link = link.sends w.link (transfer_query t); mode = Exchanging t at.OldColumns }
moves_at w t p at.OldColumns = awaits_old w t p at.OldColumns (link.next_of_got w.link)
moves_at w t p at.OldRow = awaits_old w t p at.OldRow (link.next_of_got w.link)
moves_at w t p (at.OldTag s) = awaits_old w t p (at.OldTag s) (link.next_of_got w.link)
moves_at w t p (at.OldReady s) = awaits_old w t p (at.OldReady s) (link.next_of_got w.link)
moves_at w t p (at.Dial state token) = dials w t (at.Packet state token)
moves_at w t p (at.Packet state token) = sends_new w t (λ l. link.opens l (exchange.packet p token)) (at.NewAuth state) w.fresh
moves_at w t p (at.NewAuth state) = awaits_new w t p (at.NewAuth state) w.fresh
moves_at w t p (at.NewStatus state n key) = awaits_new w t p (at.NewStatus state n key) w.fresh
moves_at w t p (at.Restore state key) = sends_new w t (λ l. link.sends l (restore_query state)) (at.NewColumns key) w.fresh
moves_at w t p (at.NewColumns key) = awaits_new w t p (at.NewColumns key) w.fresh
moves_at w t p (at.NewRow key) = awaits_new w t p (at.NewRow key) w.fresh
moves_at w t p (at.NewTag key) = awaits_new w t p (at.NewTag key) w.fresh
moves_at w t p (at.NewReady key) = awaits_new w t p (at.NewReady key) w.fresh
moves_at w t p (at.Ended o) = w

abbrev pub moves : {S T C : Type 0} → World S T C → List Pair → Mode → World S T C
moves w p (Exchanging t x) = moves_at w t p x
moves w p Running = w
moves w p (Stop parked held) = w
moves w p (Closed c) = w

-- ---- the new pod

-- something happens to the new link
abbrev pub changes_new : {S T C : Type 0} → World S T C → (Link S → Link S) → Option (Link S) → World S T C
changes_new w change None = w
changes_new w change (Some l) = if l.cut then w else record w { fresh = Some (change l) }

abbrev pub new_hears : {S T C R : Type 0} → Kind S C R → Rules T C R → World S T C → Link S → S → Option Frame → World S T C
new_hears k rules w l s None = w
new_hears k rules w l s (Some f) = record w { fresh = Some (link.hears k rules l s w.store f); store = store_after rules w.store (k.asks s f) }

abbrev pub new_pod_by : {S T C R : Type 0} → Kind S C R → Rules T C R → List Pair → World S T C → Link S → Option S → World S T C
new_pod_by k rules p w l None = record w { fresh = Some (link.begins k p l) }
new_pod_by k rules p w l (Some s) = new_hears k rules w l s (link.next_to_pod l)

abbrev pub new_pod : {S T C R : Type 0} → Kind S C R → Rules T C R → List Pair → World S T C → Option (Link S) → World S T C
new_pod k rules p w None = w
new_pod k rules p w (Some l) = if l.cut then w else new_pod_by k rules p w l l.session

-- ---- all events

abbrev pub steps : {S T C R : Type 0} → Kind S C R → Rules T C R → ClientKey → List Pair → World S T C → Event C → World S T C
steps k rules key p w (event.Give b) = if may_give w b then gives w b else w
steps k rules key p w event.Eof = record w { whole = true }
steps k rules key p w (event.Read n) = if forwarding w.mode then reads w n else w
steps k rules key p w event.Forward =
    if forwarding w.mode
    then forwards w (slice_get (frames (take w.read w.script)) (length w.forwarded)) (bad (take w.read w.script))
    else w
steps k rules key p w (event.Deliver n) = if w.link.cut then w else record w { link = link.delivers w.link n }
steps k rules key p w event.Pod = if w.link.cut then w else pod_takes k rules w w.link.session (link.next_to_pod w.link)
steps k rules key p w (event.Back n) = if passing w.mode then record w { link = link.reads_back w.link n } else w
steps k rules key p w event.Pass = if passing w.mode then passes key w (link.next_of_read w.link) else w
steps k rules key p w (event.Other c) = others rules w c
steps k rules key p w event.Stop = stops w w.mode
steps k rules key p w event.Park = parks w w.mode
steps k rules key p w event.Hold = holds w w.mode
steps k rules key p w (event.Start t) = begins w t w.mode
steps k rules key p w event.Move = moves w p w.mode
steps k rules key p w (event.DeliverNew n) = changes_new w (λ l. link.delivers l n) w.fresh
steps k rules key p w event.PodNew = new_pod k rules p w w.fresh
steps k rules key p w (event.Cut n) = if w.link.cut then w else record w { link = link.cuts w.link n }
steps k rules key p w (event.CutNew n) = changes_new w (λ l. link.cuts l n) w.fresh
steps k rules key p w event.NoDial = record w { no_dial = true }

abbrev pub is_closed : Mode → Bool
is_closed (Closed c) = true
is_closed Running = false
is_closed (Stop parked held) = false
is_closed (Exchanging t x) = false

-- a closed world stays as it is
abbrev pub happens : {S T C R : Type 0} → Kind S C R → Rules T C R → ClientKey → List Pair → World S T C → Event C → World S T C
happens k rules key p w e = if is_closed w.mode then w else steps k rules key p w e

abbrev pub run : {S T C R : Type 0} → Kind S C R → Rules T C R → ClientKey → List Pair → World S T C → List (Event C) → World S T C
run k rules key p w [] = w
run k rules key p w (e ∷ es) = run k rules key p (happens k rules key p w e) es
