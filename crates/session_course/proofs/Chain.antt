-- Stay after stay.
use Rattle.std.proofs.Common.{◌≡◌, ◌+◌, ◌≤◌, ◌<◌, ◌^◌, ℕ, Bool, true, false, List, [], ◌∷◌, ◌++◌, Option, Some, None, refl, sym, ap, subst, ◌∙◌, arith}
use Rattle.pgw_messages.specs.declared.params.Pair.{Pair}
use Rattle.pgw_messages.specs.declared.pod_key.PodKey.{PodKey}
use Rattle.proxy_hub.specs.Ports.{Port}
use Rattle.proxy_links.specs.Board.{raised}
use Rattle.proxy_links.specs.Links.{Links}
use Rattle.proxy_outside.specs.Reading.{Origin}
use Rattle.proxy_outside.specs.Writing.{Target}
use Rattle.proxy_outside.specs.declared.identity.SessionNo.{SessionNo}
use Rattle.proxy_outside.specs.declared.place.Place.{Place}
use Rattle.session_legs.specs.declared.side.LegEnd.{LegEnd}
use Rattle.session_legs.specs.declared.side.LegEnd.TheVariants.{Parked}
use Rattle.session_trace.specs.Running.{Now, Board}
use Rattle.session_trace.specs.Attempts.{is_starved}
use Rattle.session_trace.specs.Records.{open_link, moves_next}
use Rattle.session_trace.specs.Trace.{Next, Same, Round, all_forwarded, all_relayed}
use Rattle.transfer_stages.specs.declared.stage.Cut.{Cut}
use Rattle.session_admission.specs.Asking.{AsksOn}
use Rattle.session_asks.specs.Asks.{Ask}
use Rattle.session_asks.specs.Between.{Books}
use Rattle.session_round.specs.Standing.{Begin, Stands}
use Rattle.session_rounds.specs.Asking.{AskedIn, missed_in}
use Rattle.session_rounds.specs.Running.{Runs, Halts}
use Rattle.session_rounds.specs.Scenes.{Scene, scene, SameLink}
use Rattle.session_rounds.specs.Turns.{Aimed}
use Rattle.session_rounds.specs.declared.rounds.Stop.{Stop}
use Rattle.session_rounds.specs.declared.rounds.Stop.TheVariants as stop
use Rattle.session_rounds.proofs.Chain.{same_same}
use Rattle.session_rounds.proofs.OneTurn.{same_link}
use Rattle.session_moves.specs.Attempts.{Tries}
use Rattle.session_moves.specs.Going.{Ready, Attempting, with_attempt, GoesOn, EndsBy, LedTo}
use Rattle.session_moves.specs.Telling.{TellsAll, TellsLinks, Placed}
use Rattle.session_moves.specs.declared.moving.Tried.{Tried}
use Rattle.session_moves.specs.declared.moving.Tried.TheVariants as tried
use Rattle.session_moves.proofs.Before.{attempts_tell}
use Rattle.session_moves.proofs.Every.{attempts_go_on}
use Rattle.session_course.specs.Booking.{BooksMove}
use Rattle.session_course.specs.Standing.{Means, Course, course, IsLinked, Outset, Attempted, Keeps}
use Rattle.session_course.specs.Following.{Unbooked, Counted, Behind, Follows}
use Rattle.session_course.specs.Course.{KeepsClient, RanTo, Finished, Further, Stays, Courses, CoursesOn}
use Rattle.session_course.specs.declared.course.Finish.{Finish}
use Rattle.session_course.specs.declared.course.Finish.TheVariants.{Legs, Exchange}
use Rattle.session_course.proofs.Booked.{asked_nothing}
use Rattle.session_course.proofs.Plain.{one_plain, many_plain}
use Rattle.session_course.proofs.Attempt.{Made, attempted_more, asked_more, books_moved, one_move, no_move, starved_so}

client_kept : (old new : Now) → SameLink old new → KeepsClient old new
client_kept old new s = record { read = s.read; given = s.given }

pub client_on : (one two three : Now) → KeepsClient one two → KeepsClient two three → KeepsClient one three
client_on one two three p q = record { read = let x = p.read in let y = q.read in omega (arith, x, y); given = let x = p.given in let y = q.given in omega (arith, x, y) }

linked_on : (old new : Scene) (means : Means) → SameLink old.now new.now → IsLinked (record { scene = old; means = means }) → IsLinked (record { scene = new; means = means })
linked_on old new means s l = record { alike = s.tx ∙ l.alike ∙ sym s.rx; is_open = l.is_open }

-- ---- a stay that a leg ended

pub legs_end : (n : SessionNo) (p : List Pair) (patience : ℕ) (old new : Scene) (means : Means) (why why' : LegEnd) → IsLinked (record { scene = old; means = means }) → Runs n old new (stop.Ended why why')
    → Stays n p patience (record { scene = old; means = means }) (record { scene = new; means = means }) (Some (Legs why why'))
legs_end n p patience old new means why why' linked r =
    let last = r.ran in
    let same = same_same old.now last.last new.now last.before (same_link last.last new.now last.board new.board why why' last.runs) in
    record {
      linked = linked_on old new means same linked;
      ran = record { last = last.last; board = last.board; before = client_kept old.now last.last last.before; runs = last.runs; own = last.own };
      tells = λ t. record { halves = r.tells t.halves; dialer = t.dialer };
      adds = λ b o rs k t.
          let h = r.adds b o.since means.links rs k.stands k.asked t.halves in
          record {
            newest = h.adds.newest;
            rounds = h.earlier ++ rs;
            last = h.last;
            ends = h.adds.ends;
            asked = h.adds.asked;
            attempted = one_plain p patience b o means false why why' h.adds.newest (h.earlier ++ rs) h.adds.run (many_plain p patience b o means h.earlier rs h.plain k.attempted);
          };
    }

-- ---- a stay that the hub ended

-- what was booked behind an attempt
record Booked (n : SessionNo) (old new : Port) (u v : ℕ) (next : Next) : Type 0 where
  pub asks : List Ask
  pub on : AsksOn old new asks
  pub counts : v ≡ raised u (missed_in asks)
  pub books : Books n next asks

module _ (n : SessionNo) (p : List Pair) (patience : ℕ) (small : patience < 2 ^ 64) (place : Place) (old : Scene) (now1 : Now) (board : Board) (port1 : Port) (u1 : ℕ) (now2 : Now) (port2 : Port) (u2 : ℕ) (means means' : Means)
    (linked : IsLinked (record { scene = old; means = means })) (r : Runs n old (scene now1 board port1 u1) (stop.MoveTo place)) where
  abbrev here : Course
  here = record { scene = old; means = means }

  abbrev mid : Course
  mid = record { scene = scene now1 board port1 u1; means = means }

  abbrev there : Course
  there = record { scene = scene now2 board port2 u2; means = means' }

  -- where the attempt is made
  module _ (b : Begin) (o : Outset) (rs : List Round) (k : Keeps n p patience b o here rs) (h : Halts n b o.since means.links (scene now1 board port1 u1) (stop.MoveTo place) rs) where
    abbrev before : List Round
    before = h.earlier ++ rs

    abbrev newest : Round
    newest = h.adds.newest

    attempted : Attempted p patience false b o means before
    attempted = many_plain p patience b o means h.earlier rs h.plain k.attempted

    placed : Placed (open_link b.first (newest ∷ before)) means.links
    placed = (one_plain p patience b o means false Parked Parked newest before h.adds.run attempted).placed

    ready : Ready newest (all_forwarded (newest ∷ before)) (all_relayed (newest ∷ before))
    ready = record { run = h.adds.run; nothing_held = h.adds.due.nothing_held; safe_there = h.adds.due.safe_there }

    module _ (t : Tried) (tries : Tries p patience place means.words means'.words means.links means'.links now1 now2 t) where
      goes : (g : GoesOn b p patience place tries.key means.links means'.links now2 board newest before t) → Booked n port1 port2 u1 u2 g.tried.next
          → means'.moves ≡ raised means.moves (moves_next g.tried.next) → means'.starved ≡ raised means.starved (is_starved (Some g.tried.attempt)) → Further n p patience b o there
      goes g booked moves starved = record {
        rounds = with_attempt newest g.tried ∷ before;
        keeps = record {
          stands = g.stands;
          asked = asked_more p patience b o place tries.key means means' newest before g.tried t n o.since port1 port2 u1 u2 booked.asks h.adds.asked booked.on booked.counts g.makes.there h.adds.due booked.books;
          attempted = attempted_more p patience b o place tries.key means means' newest before g.tried t false attempted
              (record { makes = g.makes; draws = tries.drawn; moves = moves; starved = starved }) h.adds.due g.placed g.fits;
        };
      }

      ends : (c : Cut) (g : EndsBy b p patience place tries.key means.links means'.links now2 board newest before t) → Booked n port1 port2 u1 u2 g.tried.next
          → means'.moves ≡ raised means.moves (moves_next g.tried.next) → means'.starved ≡ raised means.starved (is_starved (Some g.tried.attempt)) → Finished n p patience b o there (Exchange c)
      ends c g booked moves starved = record {
        newest = with_attempt newest g.tried;
        rounds = before;
        last = now2;
        ends = g.ends;
        asked = asked_more p patience b o place tries.key means means' newest before g.tried t n o.since port1 port2 u1 u2 booked.asks h.adds.asked booked.on booked.counts g.makes.there h.adds.due booked.books;
        attempted = attempted_more p patience b o place tries.key means means' newest before g.tried t true attempted
            (record { makes = g.makes; draws = tries.drawn; moves = moves; starved = starved }) h.adds.due g.placed g.fits;
      }

  -- nothing is booked where the session stays
  none_booked : (next : Next) → next ≡ Same → Unbooked mid there → Booked n port1 port2 u1 u2 next
  none_booked next s q =
      subst (λ (x : Next). Booked n port1 port2 u1 u2 x) (sym s)
      (record {
        asks = [];
        on = subst (λ (x : Port). AsksOn port1 x []) (sym q.port) (asked_nothing port1);
        counts = let e = q.unbooked in omega (arith, e);
        books = refl;
      })

  mid_linked : IsLinked mid
  mid_linked = linked_on old (scene now1 board port1 u1) means r.ran linked

  there_linked : (t : Tried) → Tries p patience place means.words means'.words means.links means'.links now1 now2 t → IsLinked there
  there_linked t tries = record { alike = tries.alike; is_open = tries.open_still }

  told : (t : Tried) → Tries p patience place means.words means'.words means.links means'.links now1 now2 t → TellsAll now2 means'.links → TellsAll now1 means.links
  told t tries all = attempts_tell p patience place means.words means'.words means.links means'.links now1 now2 t tries all

  told_before : (t : Tried) → Tries p patience place means.words means'.words means.links means'.links now1 now2 t → TellsAll now2 means'.links → TellsAll old.now means.links
  told_before t tries all = let m = told t tries all in record { halves = r.tells m.halves; dialer = m.dialer }

  halts : (t : Tried) → Tries p patience place means.words means'.words means.links means'.links now1 now2 t → (b : Begin) (o : Outset) (rs : List Round) → Keeps n p patience b o here rs → TellsAll now2 means'.links
      → Halts n b o.since means.links (scene now1 board port1 u1) (stop.MoveTo place) rs
  halts t tries b o rs k all = r.adds b o.since means.links rs k.stands k.asked (told t tries all).halves

  client_same : (t : Tried) → Tries p patience place means.words means'.words means.links means'.links now1 now2 t → KeepsClient now1 now2
  client_same t tries = record { read = let e = ap (λ (v : Origin). v.faults) tries.kept.client_in in omega (arith, e); given = let e = ap (λ (v : Target). v.faults) tries.kept.client_out in omega (arith, e) }

  moves_stay : (t : Tried) → Tries p patience place means.words means'.words means.links means'.links now1 now2 t → KeepsClient old.now now2
  moves_stay t tries = client_on old.now now1 now2 (client_kept old.now now1 r.ran) (client_same t tries)

  moved_stay : (key : Option PodKey) → Tries p patience place means.words means'.words means.links means'.links now1 now2 (tried.Moved key) → BooksMove n place key port1 port2 u1 u2 → Counted mid there 1 0 → Stays n p patience here there None
  moved_stay key tries booked counted = record {
    linked = there_linked (tried.Moved key) tries;
    ran = moves_stay (tried.Moved key) tries;
    tells = told_before (tried.Moved key) tries;
    adds = λ b o rs k all.
        let h = halts (tried.Moved key) tries b o rs k all in
        let g = attempts_go_on b p patience place means.words means'.words means.links means'.links now1 now2 board h.adds.newest (h.earlier ++ rs) (tried.Moved key) tries h.adds.stands (ready b o rs k h) (placed b o rs k h) all.dialer small in
        goes b o rs k h (tried.Moved key) tries g
        (record { asks = booked.asks; on = booked.asked; counts = booked.unbooked; books = books_moved n p place g.tried key booked.asks g.makes.dials_it g.makes.led.1 booked.fitting })
        (one_move key g.tried.next means.moves means'.moves g.makes.led.1 counted.moves_are)
        (starved_so g.tried false means.starved means'.starved g.makes.led.0 counted.starved_are);
  }

  stayed_stay : Tries p patience place means.words means'.words means.links means'.links now1 now2 tried.Stayed → Unbooked mid there → Counted mid there 0 0 → Stays n p patience here there None
  stayed_stay tries same counted = record {
    linked = there_linked tried.Stayed tries;
    ran = moves_stay tried.Stayed tries;
    tells = told_before tried.Stayed tries;
    adds = λ b o rs k all.
        let h = halts tried.Stayed tries b o rs k all in
        let g = attempts_go_on b p patience place means.words means'.words means.links means'.links now1 now2 board h.adds.newest (h.earlier ++ rs) tried.Stayed tries h.adds.stands (ready b o rs k h) (placed b o rs k h) all.dialer small in
        goes b o rs k h tried.Stayed tries g (none_booked g.tried.next g.makes.led.1 same) (no_move g.tried.next means.moves means'.moves g.makes.led.1 counted.moves_are)
        (starved_so g.tried false means.starved means'.starved g.makes.led.0 counted.starved_are);
  }

  starved_stay : Tries p patience place means.words means'.words means.links means'.links now1 now2 tried.Starved → Unbooked mid there → Counted mid there 0 1 → Stays n p patience here there None
  starved_stay tries same counted = record {
    linked = there_linked tried.Starved tries;
    ran = moves_stay tried.Starved tries;
    tells = told_before tried.Starved tries;
    adds = λ b o rs k all.
        let h = halts tried.Starved tries b o rs k all in
        let g = attempts_go_on b p patience place means.words means'.words means.links means'.links now1 now2 board h.adds.newest (h.earlier ++ rs) tried.Starved tries h.adds.stands (ready b o rs k h) (placed b o rs k h) all.dialer small in
        goes b o rs k h tried.Starved tries g (none_booked g.tried.next g.makes.led.1 same) (no_move g.tried.next means.moves means'.moves g.makes.led.1 counted.moves_are)
        (starved_so g.tried true means.starved means'.starved g.makes.led.0 counted.starved_are);
  }

  cut_stay : (c : Cut) → Tries p patience place means.words means'.words means.links means'.links now1 now2 (tried.Cut c) → Unbooked mid there → Counted mid there 0 0 → Stays n p patience here there (Some (Exchange c))
  cut_stay c tries same counted = record {
    linked = there_linked (tried.Cut c) tries;
    ran = record { last = now1; links = means.links; before = client_kept old.now now1 r.ran; key = tries.key; cuts = tries.comes_to };
    tells = told_before (tried.Cut c) tries;
    adds = λ b o rs k all.
        let h = halts (tried.Cut c) tries b o rs k all in
        let g = attempts_go_on b p patience place means.words means'.words means.links means'.links now1 now2 board h.adds.newest (h.earlier ++ rs) (tried.Cut c) tries h.adds.stands (ready b o rs k h) (placed b o rs k h) all.dialer small in
        ends b o rs k h (tried.Cut c) tries c g (none_booked g.tried.next g.makes.led.1 same) (no_move g.tried.next means.moves means'.moves g.makes.led.1 counted.moves_are)
        (starved_so g.tried false means.starved means'.starved g.makes.led.0 counted.starved_are);
  }

  by_cases : (t : Tried) (f : Option Finish) → Tries p patience place means.words means'.words means.links means'.links now1 now2 t → Behind n place mid there t f → Stays n p patience here there f
  by_cases (tried.Moved key) None tries w = moved_stay key tries w.0 w.1
  by_cases (tried.Moved key) (Some f) tries w = absurd w
  by_cases tried.Stayed None tries w = stayed_stay tries w.0 w.1
  by_cases tried.Stayed (Some f) tries w = absurd w
  by_cases tried.Starved None tries w = starved_stay tries w.0 w.1
  by_cases tried.Starved (Some f) tries w = absurd w
  by_cases (tried.Cut c) None tries w = absurd w
  by_cases (tried.Cut c) (Some f) tries w = subst (λ (x : Finish). Stays n p patience here there (Some x)) (sym w.0) (cut_stay c tries w.1 w.2)

  pub follows : (f : Option Finish) → Follows n p patience place mid there f → Stays n p patience here there f
  follows f w = by_cases w.tried f w.tries w.behind

-- ---- all stays

pub none_yet : (n : SessionNo) (p : List Pair) (patience : ℕ) (c : Course) → IsLinked c → CoursesOn n p patience c c
none_yet n p patience c linked = record {
  linked = linked;
  ran = record { read = omega arith; given = omega arith };
  tells = λ t. t;
  adds = λ b o rs k t. record { rounds = rs; keeps = k };
}

stay_more : (n : SessionNo) (p : List Pair) (patience : ℕ) (one two three : Course) → CoursesOn n p patience one two → Stays n p patience two three None → CoursesOn n p patience one three
stay_more n p patience one two three x y = record {
  linked = y.linked;
  ran = client_on one.scene.now two.scene.now three.scene.now x.ran y.ran;
  tells = λ t. x.tells (y.tells t);
  adds = λ b o rs k t. let f = x.adds b o rs k (y.tells t) in y.adds b o f.rounds f.keeps t;
}

ran_to : (p : List Pair) (patience : ℕ) (one two three : Course) (f : Finish) → KeepsClient one.scene.now two.scene.now → RanTo p patience two three f → RanTo p patience one three f
ran_to p patience one two three (Legs why why') k r = record { last = r.last; board = r.board; before = client_on one.scene.now two.scene.now r.last k r.before; runs = r.runs; own = r.own }
ran_to p patience one two three (Exchange c) k r = record { last = r.last; links = r.links; before = client_on one.scene.now two.scene.now r.last k r.before; key = r.key; cuts = r.cuts }

stay_last : (n : SessionNo) (p : List Pair) (patience : ℕ) (one two three : Course) (f : Finish) → CoursesOn n p patience one two → Stays n p patience two three (Some f) → Courses n p patience one three f
stay_last n p patience one two three f x y = record {
  linked = y.linked;
  ran = ran_to p patience one two three f x.ran y.ran;
  tells = λ t. x.tells (y.tells t);
  adds = λ b o rs k t. let g = x.adds b o rs k (y.tells t) in y.adds b o g.rounds g.keeps t;
}

-- by what a stay gave back

pub goes_on : (n : SessionNo) (p : List Pair) (patience : ℕ) (one two three : Course) (given : Option Finish) → given ≡ None → CoursesOn n p patience one two → Stays n p patience two three given → CoursesOn n p patience one three
goes_on n p patience one two three given e x y = stay_more n p patience one two three x (subst (λ (v : Option Finish). Stays n p patience two three v) e y)

pub stops : (n : SessionNo) (p : List Pair) (patience : ℕ) (one two three : Course) (given : Option Finish) (f : Finish) → given ≡ Some f → CoursesOn n p patience one two → Stays n p patience two three given → Courses n p patience one three f
stops n p patience one two three given f e x y = stay_last n p patience one two three f x (subst (λ (v : Option Finish). Stays n p patience two three v) e y)

-- ---- by what the rounds gave back

pub ended_so : (n : SessionNo) (p : List Pair) (patience : ℕ) (old new : Scene) (means : Means) (why why' : LegEnd) (given : Stop) → given ≡ stop.Ended why why' → IsLinked (record { scene = old; means = means }) → Runs n old new given
    → Stays n p patience (record { scene = old; means = means }) (record { scene = new; means = means }) (Some (Legs why why'))
ended_so n p patience old new means why why' given is linked r = legs_end n p patience old new means why why' linked (subst (λ (s : Stop). Runs n old new s) is r)

pub named_so : (n : SessionNo) (p : List Pair) (patience : ℕ) (small : patience < 2 ^ 64) (place : Place) (old mid : Scene) (now2 : Now) (port2 : Port) (u2 : ℕ) (means means' : Means) (given : Stop) (f : Option Finish)
    → given ≡ stop.MoveTo place → IsLinked (record { scene = old; means = means }) → Runs n old mid given
    → Follows n p patience place (record { scene = mid; means = means }) (record { scene = scene now2 mid.board port2 u2; means = means' }) f
    → Stays n p patience (record { scene = old; means = means }) (record { scene = scene now2 mid.board port2 u2; means = means' }) f
named_so n p patience small place old mid now2 port2 u2 means means' given f is linked r w =
    follows n p patience small place old mid.now mid.board mid.port mid.unbooked now2 port2 u2 means means' linked (subst (λ (s : Stop). Runs n old mid s) is r) f w
