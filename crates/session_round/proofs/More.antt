-- A trace so far, with one round more.
use Rattle.std.proofs.Common.{◌≡◌, ◌≢◌, ℕ, ◌+◌, List, [], ◌∷◌, ◌++◌, length, Some, refl, sym, ap, subst, ◌∙◌, arith, append_assoc, append-nil, length-append}
use Rattle.std.specs.List.{AllByRecursion}
use Rattle.pgw_frames.specs.declared.frame.Frame.{Frame}
use Rattle.pgw_frames.specs.Frames.{frames, render, IsGood}
use Rattle.pgw_frames.proofs.Longest.{frames_of_render}
use Rattle.pgw_messages.specs.Tags.{terminate}
use Rattle.processor_core.specs.Stands.{RequestStands, ResponseStands}
use Rattle.proxy_links.specs.Board.{Half, raised}
use Rattle.proxy_links.specs.Links.{Links}
use Rattle.link_io.specs.Reading.{RoseBy}
use Rattle.session_legs.specs.Laws.{is_terminate, never, request_begins, response_begins}
use Rattle.session_legs.specs.Legs.{Hands, Flow, Turns}
use Rattle.session_legs.specs.declared.side.LegEnd.{LegEnd}
use Rattle.session_legs.specs.declared.side.LegEnd.TheVariants.{Parked, Over, Terminated, Ended, Cut, Bad, ReadFault, WriteFault, NoMemory}
use Rattle.session_legs.proofs.Steps.{equal_lengths, not_both}
use Rattle.session_trace.specs.Trace.{Round, all_forwarded, held_last}
use Rattle.session_trace.specs.Running.{Now, Board, RunsRound, request_hands, response_hands, written}
use Rattle.session_trace.specs.Growing.{round_of}
use Rattle.session_trace.specs.Forwarded.{EndsInTerminate}
use Rattle.session_trace.specs.Looks.{IsLook, MayEnd, HeldOn, Holds}
use Rattle.session_trace.proofs.Bytes.{render_append}
use Rattle.session_trace.proofs.Growth.{one_more, boards_more}
use Rattle.session_trace.proofs.Lists.{good_append}
use Rattle.session_round.specs.Standing.{Begin, Tells, TellsBytes, Stands, Seen, KeepsFaults, waits_left}
use Rattle.session_round.specs.Ending.{AllSeen, Ends, Went, KeepsTrace, TellsBefore}
use Rattle.session_round.proofs.Bytes.{bytes_front, told_front, told_back}
use Rattle.session_round.proofs.OneLeg.{Leg, leg, because, leaves_short, clean_of}

-- ---- how the sides ended

may_end : (why : LegEnd) (old new : Hands) (m : Flow) → AllByRecursion IsGood m.messages → Turns is_terminate (Some why) old new m → MayEnd (written m) why
may_end Parked old new m good t = tt
may_end Over old new m good t = tt
may_end Terminated old new m good t = (
  record { fs = m.messages; good = good; bytes = ap (λ (v : List ℕ). render m.messages ++ v) t.0.partial ∙ append-nil (render m.messages) },
  t.2.before,
  t.2.message,
  t.2.are,
  equal_lengths (is_terminate t.2.message.tag) t.2.message.tag terminate refl t.2.is_last,
)
may_end Ended old new m good t = tt
may_end Cut old new m good t = tt
may_end (Bad n) old new m good t = tt
may_end ReadFault old new m good t = tt
may_end WriteFault old new m good t = tt
may_end NoMemory old new m good t = tt

no_terminate : (why : LegEnd) (old new : Hands) (m : Flow) → Turns never (Some why) old new m → why ≢ Terminated
no_terminate why old new m t = λ e. let last = subst (λ (w : LegEnd). Turns never (Some w) old new m) e t in not_both last.2.is_last

-- what was held begins what came of it
held_on : (rs : List Round) (out more bytes : List ℕ) → held_last rs ≡ out → Holds rs → out ++ bytes ≡ more → HeldOn more rs
held_on [] out more bytes h holds e = tt
held_on (r ∷ rs) out more bytes h holds e = ((bytes, ap (λ (v : List ℕ). v ++ bytes) h ∙ e), holds)

-- ---- the looks

seen_more : (old mid new : Half) (fs gs : List Frame) (before by now k : ℕ) → Seen old mid fs before by → new.looks ≡ raised mid.looks (length gs + k) → ((i : ℕ) → RoseBy before i by → RoseBy before (i + k) now) → Seen old new (fs ++ gs) before now
seen_more old mid new fs gs before by now k s looks rose = record {
  idles = s.idles + k;
  rose = rose s.idles s.rose;
  looks = let p = s.looks in omega (arith, length-append fs gs, p, looks);
}

all_seen : (old new : Half) (fs : List Frame) (bytes : List ℕ) (before now : ℕ) → frames bytes ≡ fs → Seen old new fs before now → AllSeen old new bytes before now
all_seen old new fs bytes before now e s = record {
  idles = s.idles;
  rose = s.rose;
  looked = record {
    looks = length fs + s.idles;
    rose = s.looks;
    least = let n = ap length e in omega (arith, n);
    most = let n = ap length e in omega (arith, n);
  };
}

waits_more : (before i at k now : ℕ) → RoseBy at k now → RoseBy before i at → RoseBy before (i + k) now
waits_more before i at k now p q = omega (arith, p, q)

waits_behind : (left before i at k now : ℕ) → RoseBy at k now → RoseBy before i (left + at) → RoseBy before (i + k) (left + 0 + now)
waits_behind left before i at k now p q = omega (arith, p, q)

-- ---- the round

frames_behind : (all : List ℕ) (fs gs : List Frame) (bytes : List ℕ) → AllByRecursion IsGood fs → all ≡ render fs → frames bytes ≡ gs → frames (all ++ bytes) ≡ fs ++ gs
frames_behind all fs gs bytes good e w = ap (λ (v : List ℕ). frames (v ++ bytes)) e ∙ frames_of_render fs bytes good ∙ ap (λ (v : List Frame). fs ++ v) w

written_behind : (all : List ℕ) (fs gs : List Frame) (m : Flow) → all ≡ render fs → m.messages ≡ gs → m.partial ≡ [] → all ++ written m ≡ render (fs ++ gs)
written_behind all fs gs m e w p =
    ap (λ (v : List ℕ). v ++ written m) e ∙ ap (λ (v : List ℕ). render fs ++ (render m.messages ++ v)) p ∙ ap (λ (v : List ℕ). render fs ++ v) (append-nil (render m.messages))
    ∙ ap (λ (v : List Frame). render fs ++ render v) w ∙ sym (render_append fs gs)

-- a Terminate stands last in all that was forwarded
bye_by : (why : LegEnd) (old new : Hands) (m : Flow) (fs : List Frame) (all : List ℕ) → AllByRecursion IsGood fs → all ≡ render fs → AllByRecursion IsGood m.messages → Turns is_terminate (Some why) old new m → why ≡ Terminated
    → EndsInTerminate (all ++ written m)
bye_by why old new m fs all good is more t e =
    let last = subst (λ (w : LegEnd). Turns is_terminate (Some w) old new m) e t in (
      record { fs = fs ++ m.messages; good = good_append fs m.messages good more; bytes = written_behind all fs m.messages m is refl last.0.partial },
      fs ++ last.2.before,
      last.2.message,
      ap (λ (v : List Frame). fs ++ v) last.2.are ∙ sym (append_assoc fs last.2.before (last.2.message ∷ [])),
      equal_lengths (is_terminate last.2.message.tag) last.2.message.tag terminate refl last.2.is_last,
    )

module _ (b : Begin) (old new : Now) (board board' : Board) (why why' : LegEnd) (r : RunsRound old new board board' why why') (links : Links) (rs : List Round) (s : Stands b old links board rs) (t : Tells new) where
  abbrev m : Flow
  m = r.request.flow

  abbrev n : Flow
  n = r.response.flow

  abbrev sent : List Frame
  sent = s.streams.sent

  abbrev got : List Frame
  got = s.streams.got

  front_leg : Leg RequestStands new.request sent s.in_ m
  front_leg =
      leg RequestStands request_begins is_terminate (request_hands old board.front) (request_hands new board'.front) old.request new.request why r.request sent s.in_ s.streams.sent_good s.streams.request s.streams.in_bytes
      (bytes_front m.kept m.lost (told_back old.client_in.taken (m.kept ++ m.lost) (subst TellsBytes r.request.moves.read.taken t.client)))

  back_leg : Leg ResponseStands new.response got s.out n
  back_leg =
      leg ResponseStands response_begins never (response_hands old board.back) (response_hands new board'.back) old.response new.response why' r.response got s.out s.streams.got_good s.streams.response s.streams.out_bytes
      (bytes_front n.kept n.lost (told_back old.rx.taken (n.kept ++ n.lost) (subst TellsBytes r.response.moves.read.taken t.pod)))

  one_round : Leg ResponseStands new.response got s.out n → Round
  one_round l = round_of m n l.left why why'

  seen_front : Seen b.board.front board'.front (sent ++ m.messages) b.client_waits new.client_in.waits
  seen_front = seen_more b.board.front board.front board'.front sent m.messages b.client_waits old.client_in.waits new.client_in.waits m.idles s.front r.request.moves.looks
      (λ i p. waits_more b.client_waits i old.client_in.waits m.idles new.client_in.waits r.request.moves.read.waits p)

  seen_back : Seen b.board.back board'.back (got ++ n.messages) b.pod_waits (waits_left rs + 0 + new.rx.waits)
  seen_back = seen_more b.board.back board.back board'.back got n.messages b.pod_waits (waits_left rs + old.rx.waits) (waits_left rs + 0 + new.rx.waits) n.idles s.back r.response.moves.looks
      (λ i p. waits_behind (waits_left rs) b.pod_waits i old.rx.waits n.idles new.rx.waits r.response.moves.read.waits p)

  faults_kept : KeepsFaults b new
  faults_kept = record {
    read = let p = s.faults.read in let q = r.request.moves.read.faults in omega (arith, p, q);
    write = let p = s.faults.write in let q = r.response.moves.wrote.faults in omega (arith, p, q);
  }

  ended : (f : Leg RequestStands new.request sent s.in_ m) (k : Leg ResponseStands new.response got s.out n) → Ends b old new links board' why why' (round_of m n k.left why why' ∷ rs)
  ended f k = record {
    in_ = f.left;
    out = k.left;
    so_far = one_more b.start old new board board' why why' r links b.first rs s.in_ s.out f.left k.left s.so_far f.parts k.parts;
    sides = (
      may_end why (request_hands old board.front) (request_hands new board'.front) m r.request.moves.good r.request.turns,
      no_terminate why' (response_hands old board.back) (response_hands new board'.back) n r.response.turns,
      s.looks,
    );
    holds = held_on rs s.out (written n ++ k.left) (n.kept ++ n.lost) s.held s.holds k.parts;
    held = refl;
    short = leaves_short never why' (response_hands old board.back) (response_hands new board'.back) n k.left r.response.turns (k.short s.short);
    bye = bye_by why (request_hands old board.front) (request_hands new board'.front) m sent (all_forwarded rs) s.streams.sent_good s.streams.forwarded r.request.moves.good r.request.turns;
    boards = boards_more b.board board board' old new why why' rs k.left r s.boards;
    front = all_seen b.board.front board'.front (sent ++ m.messages) _ b.client_waits new.client_in.waits (frames_behind _ sent m.messages (written m) s.streams.sent_good s.streams.forwarded f.whole) seen_front;
    back = all_seen b.board.back board'.back (got ++ n.messages) _ b.pod_waits (waits_left rs + 0 + new.rx.waits) (frames_behind _ got n.messages (written n) s.streams.got_good s.streams.relayed k.whole) seen_back;
    before = s.faults;
    request = because RequestStands request_begins is_terminate (request_hands old board.front) (request_hands new board'.front) old.request new.request why r.request sent s.in_ s.streams.sent_good s.streams.request f;
    response = because ResponseStands response_begins never (response_hands old board.back) (response_hands new board'.back) old.response new.response why' r.response got s.out s.streams.got_good s.streams.response k;
  }

  still : (f : Leg RequestStands new.request sent s.in_ m) (k : Leg ResponseStands new.response got s.out n) → IsLook why → IsLook why' → Stands b new links board' (round_of m n k.left why why' ∷ rs)
  unfolding ended
  still f k look look' =
      let c = clean_of is_terminate why (request_hands old board.front) (request_hands new board'.front) m look r.request.turns in
      let d = clean_of never why' (response_hands old board.back) (response_hands new board'.back) n look' r.response.turns in
      let e = ended f k in
      record {
        in_ = f.left;
        out = k.left;
        so_far = e.so_far;
        streams = record {
          sent = sent ++ m.messages;
          got = got ++ n.messages;
          sent_good = good_append sent m.messages s.streams.sent_good r.request.moves.good;
          got_good = good_append got n.messages s.streams.got_good r.response.moves.good;
          forwarded = written_behind _ sent m.messages m s.streams.forwarded refl c.partial;
          relayed = written_behind _ got n.messages n s.streams.relayed refl d.partial;
          request = (f.clean c).stood;
          response = (k.clean d).stood;
          in_bytes = (f.clean c).bytes;
          out_bytes = (k.clean d).bytes;
        };
        looks = (look, look', s.looks);
        holds = e.holds;
        held = refl;
        short = k.short s.short d;
        boards = e.boards;
        front = seen_front;
        back = seen_back;
        faults = faults_kept;
      }

  pub went : Went b old new links board' why why' rs
  went = record {
    newest = round_of m n back_leg.left why why';
    run = record { attempt = refl; ask = refl; answer = refl; trials = refl; next = refl; request = refl; response = refl };
    ends = ended front_leg back_leg;
    stands = still front_leg back_leg;
  }

pub keeps : (old new : Now) (board board' : Board) (why why' : LegEnd) → RunsRound old new board board' why why' → KeepsTrace old new board board' why why'
keeps old new board board' why why' r b links rs s t = went b old new board board' why why' r links rs s t

pub told_before : (old new : Now) (board board' : Board) (why why' : LegEnd) → RunsRound old new board board' why why' → TellsBefore old new
told_before old new board board' why why' r t = record {
  client = told_front old.client_in.taken _ (subst TellsBytes r.request.moves.read.taken t.client);
  pod = told_front old.rx.taken _ (subst TellsBytes r.response.moves.read.taken t.pod);
}
