-- A session that ran to its end has a trace that fits its call.
use Rattle.std.proofs.Common.{◌≡◌, ◌≤◌, ℕ, Bool, true, false, List, [], ◌∷◌, ◌++◌, Option, Some, inl, refl, sym, ap, subst, ◌∙◌, arith, append_assoc}
use Rattle.std.specs.Prelude.{Ok}
use Rattle.pgw_messages.specs.declared.params.Pair.{Pair}
use Rattle.proxy_outside.specs.Reading.{Origin, Rose}
use Rattle.proxy_outside.specs.Writing.{Target}
use Rattle.proxy_outside.specs.declared.addr.Addr.{Addr}
use Rattle.proxy_outside.specs.declared.identity.ClientKey.{ClientKey}
use Rattle.proxy_outside.specs.declared.identity.SessionNo.{SessionNo}
use Rattle.proxy_links.specs.Board.{raised}
use Rattle.proxy_links.specs.Links.{Links, LinkCounts, counts_of}
use Rattle.proxy_links.specs.Told.{push, Grows}
use Rattle.proxy_links.specs.declared.dialer.Dial.{Dial}
use Rattle.link_io.specs.Reading.{RoseBy}
use Rattle.startup_route.specs.declared.step.Route.{Route}
use Rattle.session_trace.specs.Attempts.{AllAttempts, starved_in}
use Rattle.session_trace.specs.Calls.{Call, counted}
use Rattle.session_trace.specs.Fits.{FitsCall}
use Rattle.session_trace.specs.Journey.{keyed}
use Rattle.session_trace.specs.Records.{all_left, link_sent, moves_in}
use Rattle.session_trace.specs.Running.{Board}
use Rattle.session_trace.specs.SoFar.{SoFar}
use Rattle.session_trace.specs.Trace.{Round, Trace, all_forwarded, all_relayed, held_last}
use Rattle.session_trace.specs.Transfers.{FitsRounds}
use Rattle.session_asks.specs.Admission.{Client}
use Rattle.session_asks.specs.Fits.{Outside, FitsHub}
use Rattle.session_asks.specs.Dialing.{dials_in}
use Rattle.session_admission.proofs.Asked.{asked_more}
use Rattle.session_greeting.specs.declared.greeting.Limits.{Limits}
use Rattle.session_round.specs.Standing.{Begin, TellsBytes}
use Rattle.session_round.specs.Ending.{Because, LeavesShort}
use Rattle.session_moves.specs.Telling.{TellsAll, Placed}
use Rattle.session_opening.specs.Linking.{Around}
use Rattle.session_opening.specs.Opening.{Ready, Opens}
use Rattle.session_opening.specs.OpenCalls.{ReadyFits, client_with, now_at}
use Rattle.session_opening.proofs.Readied.{ready_fits}
use Rattle.session_rounds.specs.Asking.{missed_in}
use Rattle.session_rounds.specs.Scenes.{scene}
use Rattle.session_rounds.proofs.Asked.{missed_append, count_more}
use Rattle.session_course.specs.Course.{response_of, is_exchange, Finished}
use Rattle.session_course.specs.Standing.{Course, course}
use Rattle.proxy_session.specs.Calling.{Outcome, Shown, shown, Runs}
use Rattle.call_laws.specs.Served.{is_bye, is_exchange_cut, why_of, call_of, client_of, TellsEnd, Books, SessionFits}
use Rattle.call_laws.proofs.Reasons.{cut_by}
use Rattle.call_laws.proofs.Link.{Linked, linked}
use Rattle.call_laws.proofs.Counted.{first_placed}
use Rattle.call_laws.proofs.Before.{told_before, got_before}
use Rattle.call_laws.proofs.Begun.{begin_at, outset_at, keeps}
use Rattle.call_laws.proofs.Ended.{Held, held_by, bye_of}
use Rattle.call_laws.proofs.Hung.{all_told, first_bytes}
use Rattle.call_laws.proofs.Showing.{Later, Grew, made, shows, asks, outside}

counted_all : (n m : ℕ) → n ≡ raised 0 m → n ≡ counted m
counted_all n m e = omega (arith, e)

-- a count that rose later rose in all
rose_all : (a b c d : ℕ) → a ≤ b → b ≤ c → Rose c d → Rose a d
rose_all a b c d p q rose = omega (arith, p, q, rose)

module _ (peer : Addr) (route : Route) (waited : ℕ) (limits : Limits) (old between : Around) (words words' : Option (List ℕ)) (r : Ready) (board : Board) (new : Shown) (e : Outcome) (o : Opens peer route waited limits old between words words' (Ok r))
    (run : Runs route.params limits.patience r (shown between words' board) new e) (tells : TellsEnd old new.around) where
  abbrev p : List Pair
  p = route.params

  -- ---- the opening

  abbrev ready : ReadyFits peer route old between words words' r
  ready = ready_fits peer route waited limits old between words words' r o

  link : Linked old between r.link
  link = linked peer route waited limits old between words words' r o

  told_end : TellsAll run.last run.links
  told_end = record {
    halves = record {
      client = subst (λ (x : Origin). TellsBytes x.taken) run.client_in tells.client;
      pod = got_before run.links new.around.links run.last.tx run.last.rx run.hung tells.dialer;
    };
    dialer = told_before run.links new.around.links run.last.tx run.last.rx run.hung tells.dialer;
  }

  placed : Placed ready.first between.links
  placed = first_placed ready.first old between r.link new.around.links link tells.counted (run.courses.tells told_end).dialer (sym (ready.so_far run.request run.response).rx_number) ready.there

  -- ---- the course

  abbrev b : Begin
  b = begin_at old between r ready.first board

  abbrev behind : Course
  behind = course (scene run.last new.board run.port run.unbooked) run.links new.words e.moves e.starved

  abbrev done : Finished r.session p limits.patience b (outset_at between words') behind run.finish
  done = run.courses.adds b (outset_at between words') []
      (keeps p limits.patience old between words' r ready.first board run.request run.response (ready.so_far run.request run.response) run.request_new run.response_new placed)
      told_end

  abbrev rs : List Round
  rs = done.newest ∷ done.rounds

  abbrev counts : LinkCounts
  counts = counts_of run.last.tx run.last.rx

  abbrev trace : Trace
  trace = record { first = ready.first; rounds = rs; counts = counts }

  abbrev in_ : List ℕ
  in_ = done.ends.in_

  so_far : SoFar b.start run.last run.links ready.first rs in_ (held_last rs)
  so_far = subst (λ (v : List ℕ). SoFar b.start run.last run.links ready.first rs in_ v) (sym done.ends.held) done.ends.so_far

  records_told : new.around.links.records ≡ push old.links.records (all_left trace)
  records_told = all_told b.start run.last run.links new.around.links ready.first rs in_ (held_last rs) so_far run.hung told_end.dialer done.attempted.placed

  -- ---- what the call shows

  abbrev taken : List ℕ
  taken = all_forwarded rs ++ in_

  abbrev later : Later r between new.around rs
  later = record {
    rounds = done.asked.asks;
    fit = done.asked.fit;
    release = run.released.asks;
    released = run.released.fitting;
    asked = asked_more between.hub run.port new.around.hub done.asked.asks run.released.asks done.asked.asked.on run.released.asked;
  }

  abbrev grew : Grew between new.around words' new.words p rs taken (all_relayed rs)
  grew = record {
    dials = subst (λ (v : Option (List Dial)). Grows between.links.dials v (dials_in rs)) (sym (ap (λ (l : Links). l.dials) run.hung.others)) done.attempted.dialed;
    dials_it = done.attempted.dials_it;
    drawn = done.attempted.drawn;
    words_are = done.attempted.words;
    draws = done.attempted.draws;
    taken_is = ap (λ (x : Origin). x.taken) run.client_in ∙ done.ends.so_far.forwards;
    given_is = ap (λ (x : Target). x.contents) run.client_out ∙ done.ends.so_far.relays;
    moments = run.moments;
  }

  client_is : client_with peer route r ≡ client_of peer route.tenant e
  client_is =
      ap (λ (s : Option SessionNo). record { peer = peer; tenant = route.tenant; session = s; key = Some r.key; auth_refused = false }) (sym run.session)
      ∙ ap (λ (k : Option ClientKey). record { peer = peer; tenant = route.tenant; session = e.session; key = k; auth_refused = false }) (sym run.key)

  -- ---- the call

  cut_is : is_exchange run.finish ≡ is_exchange_cut e.why
  cut_is = cut_by run.finish ∙ ap is_exchange_cut (sym run.why)

  rose_in_all : Rose done.last.client_out.faults run.last.client_out.faults → Rose old.client_out.faults new.around.client_out.faults
  rose_in_all rose = subst (λ (k : Target). Rose old.client_out.faults k.faults) (sym run.client_out)
      (rose_all old.client_out.faults between.client_out.faults done.last.client_out.faults run.last.client_out.faults link.faults done.ends.before.write rose)

  module _ (says : ℕ) (faulted : Bool) (rose : Rose old.client_out.faults new.around.client_out.faults → faulted ≡ true) where
    abbrev c : Call
    c = call_of p r.key limits.patience says faulted (ready.first.asked ++ taken) (keyed r.key ready.first.got ++ all_relayed rs) (all_left trace) e

    held_there : Held c (held_last rs)
    held_there = held_by c done.last.rx run.last.rx done.last.client_out run.last.client_out (held_last rs) (λ x. rose (rose_in_all x)) p limits.patience
        (course (scene (now_at between r run.request run.response) board between.hub 0) between.links words' 0 0) behind run.finish
        (ap why_of run.why) run.courses.ran
        (subst (λ (v : List ℕ). LeavesShort (response_of run.finish) v) (sym done.ends.held) done.ends.short)
        (subst (λ (v : List ℕ). Because (response_of run.finish) done.last.rx run.last.rx done.last.client_out run.last.client_out v) (sym done.ends.held) done.ends.response)

    fits_call : FitsCall c trace
    fits_call = record {
      records = refl;
      moves = counted_all e.moves (moves_in rs) done.attempted.moves;
      held = held_there;
      first = ready.opens;
      rounds = subst (λ (v : Bool). FitsRounds p v rs) cut_is done.attempted.fits;
      forwards = record {
        begins = (in_, append_assoc ready.first.asked (all_forwarded rs) in_);
        at_bye = λ x. bye_of run.finish done.last.client_in run.last.client_in done.last.tx run.last.tx ready.first.asked (all_forwarded rs) in_ (ap is_bye (sym run.why) ∙ x) ready.opens.login done.ends.bye done.ends.request;
      };
      given = record { body = keyed r.key ready.first.got ++ all_relayed rs; is = refl; either = inl refl };
      attempts = subst (λ (v : Bool). AllAttempts p limits.patience v rs) cut_is done.attempted.attempts;
      starved = counted_all e.starved (starved_in rs) done.attempted.starved;
      sides = done.ends.sides;
      holds = done.ends.holds;
      bytes = first_bytes old.links.records ready.first rs counts (link_sent ready.first rs) (held_last rs) new.around.links tells.dialer records_told;
    }

  abbrev there : Outside
  there = outside peer route old between new.around words words' new.words r rs taken (all_relayed rs) (all_left trace) ready later grew records_told

  booked : Books r.session rs there e.unbooked
  booked = record {
    before = ready.asks;
    between = done.asked.asks;
    release = run.released.asks;
    made = made peer route old between new.around words words' new.words r rs taken (all_relayed rs) (all_left trace) ready later grew records_told;
    in_rounds = done.asked.fit;
    released = run.released.fitting;
    counts = counted_all e.unbooked (missed_in (done.asked.asks ++ run.released.asks))
        (count_more 0 run.unbooked e.unbooked (missed_in done.asked.asks) (missed_in run.released.asks) _ done.asked.asked.counts run.released.unbooked (missed_append done.asked.asks run.released.asks));
  }

  pub session_fits : SessionFits peer route limits old between words r board new e
  session_fits = record {
    trace = trace;
    outside = there;
    taken = ready.first.asked ++ taken;
    given = keyed r.key ready.first.got ++ all_relayed rs;
    records = all_left trace;
    client_waits = done.ends.front.idles;
    pod_waits = done.ends.back.idles;
    shows = shows peer route old between new.around words words' new.words r rs taken (all_relayed rs) (all_left trace) ready later grew records_told;
    asks = subst (λ (x : Client). FitsHub p x there (Some ready.first) rs) client_is (asks peer route old between new.around words words' new.words r rs taken (all_relayed rs) (all_left trace) ready later grew records_told);
    books = booked;
    fits = λ says faulted rose. fits_call says faulted rose;
    client_rose = subst (λ (x : Origin). RoseBy between.client_in.waits done.ends.front.idles x.waits) (sym run.client_in) done.ends.front.rose;
    pod_rose = done.ends.back.rose;
    boards = record { boards = done.ends.boards; front = done.ends.front.looked; back = done.ends.back.looked };
  }
