-- What one leg leaves of what was held and taken.
use Rattle.std.proofs.Common.{◌≡◌, ℕ, ◌<◌, Bool, false, List, [], ◌∷◌, ◌++◌, length, take, drop, Some, refl, sym, ap, subst, ◌∙◌, arith, append_assoc, append-nil, length-append, length-drop, ◌≤◌, inl, inr}
use Rattle.std.proofs.lemmas.List.{take-append-drop}
use Rattle.std.specs.List.{AllByRecursion}
use Rattle.pgw_frames.specs.declared.frame.Frame.{Frame}
use Rattle.pgw_frames.specs.Frames.{Whole, front, frames, bad, render, frame_bytes, IsBytes, IsGood, Begins}
use Rattle.pgw_frames.proofs.Joined as joined
use Rattle.pgw_frames.proofs.Fronts.{whole-append, frames_none, frames_nil}
use Rattle.pgw_frames.proofs.Longest.{front_of_frame, frames_of_render, frames_good}
use Rattle.session_legs.specs.Legs.{Hands, Flow, IsClean, IsCut, Turns, EndsAt, Runs}
use Rattle.session_legs.specs.Parts.{held}
use Rattle.session_legs.specs.declared.side.LegEnd.{LegEnd}
use Rattle.session_legs.specs.declared.side.LegEnd.TheVariants.{Parked, Over, Terminated, Ended, Cut, Bad, ReadFault, WriteFault, NoMemory}
use Rattle.session_legs.proofs.InParts.{goes_in_parts}
use Rattle.session_trace.specs.Running.{written}
use Rattle.session_trace.specs.Looks.{IsLook}
use Rattle.session_trace.proofs.Bytes.{render_append, rest_rendered}
use Rattle.session_trace.proofs.Lists.{good_append, good_front, good_back, cancel}
use Rattle.session_round.specs.Standing.{IsShort}
use Rattle.session_round.specs.Ending.{Because, LeavesShort}
use Rattle.session_round.proofs.Short.{short_left}
use Rattle.session_round.proofs.Bytes.{bytes_both, drop_front}

-- ---- what was not written of a message

record Unwritten (m : Flow) : Type 0 where
  others : List ℕ
  is : render m.cut ≡ m.partial ++ others

all_written : (m : Flow) → m.partial ≡ [] → m.cut ≡ [] → Unwritten m
all_written m p q = record { others = []; is = ap render q ∙ sym (append-nil m.partial ∙ p) }

some_written : (m : Flow) → IsCut m → Unwritten m
some_written m c = record {
  others = drop c.count (frame_bytes c.message);
  is = ap render c.cut ∙ append-nil (frame_bytes c.message) ∙ sym (take-append-drop c.count (frame_bytes c.message)) ∙ ap (λ (v : List ℕ). v ++ drop c.count (frame_bytes c.message)) (sym c.partial);
}

unwritten : (last : ℕ → Bool) (why : LegEnd) (old new : Hands) (m : Flow) → Turns last (Some why) old new m → Unwritten m
unwritten last Parked old new m t = all_written m t.0.partial t.0.cut
unwritten last Over old new m t = all_written m t.0.partial t.0.cut
unwritten last Terminated old new m t = all_written m t.0.partial t.0.cut
unwritten last Ended old new m t = all_written m t.0.partial t.0.cut
unwritten last Cut old new m t = all_written m t.0.partial t.0.cut
unwritten last (Bad n) old new m t = all_written m t.0.partial t.0.cut
unwritten last ReadFault old new m t = all_written m t.0.partial t.0.cut
unwritten last WriteFault old new m t = some_written m t.0
unwritten last NoMemory old new m t = all_written m t.0 t.1

-- an end with a look leaves nothing half done
pub clean_of : (last : ℕ → Bool) (why : LegEnd) (old new : Hands) (m : Flow) → IsLook why → Turns last (Some why) old new m → IsClean m
clean_of last Parked old new m l t = t.0
clean_of last Over old new m l t = t.0
clean_of last Terminated old new m l t = absurd l
clean_of last Ended old new m l t = absurd l
clean_of last Cut old new m l t = absurd l
clean_of last (Bad n) old new m l t = absurd l
clean_of last ReadFault old new m l t = absurd l
clean_of last WriteFault old new m l t = absurd l
clean_of last NoMemory old new m l t = absurd l

-- ---- where a leg leaves its stream

whole_rest : (f g : Frame) (x y : List ℕ) → Whole f x ≡ Whole g y → x ≡ y
whole_rest f g x y e = cc

-- behind these messages just these bytes were fed
pub record Stream {P : Type 0} (stands : P → List ℕ → List Frame → Bool → Type 0) (q : P) (all : List Frame) (left : List ℕ) : Type 0 where
  pub stood : stands q (render all ++ left) all false
  pub bytes : IsBytes (render all ++ left)

pub record Leg {P : Type 0} (stands : P → List ℕ → List Frame → Bool → Type 0) (q : P) (sent : List Frame) (before : List ℕ) (m : Flow) : Type 0 where
  pub left : List ℕ
  pub parts : before ++ (m.kept ++ m.lost) ≡ written m ++ left
  pub clean : IsClean m → Stream stands q (sent ++ m.messages) left
  pub whole : frames (written m) ≡ m.messages
  pub short : IsShort before → IsClean m → IsShort left

-- a part of a message holds none
front_none : (f : Frame) (n : ℕ) → IsGood f → n < length (frame_bytes f) → frames (take n (frame_bytes f)) ≡ []
front_none f n good less = frames_none (take n (frame_bytes f)) (λ g more e.
    let all : front (frame_bytes f) ≡ Whole g (more ++ drop n (frame_bytes f)) = ap front (sym (take-append-drop n (frame_bytes f))) ∙ whole-append (take n (frame_bytes f)) (drop n (frame_bytes f)) g more e in
    let one : front (frame_bytes f) ≡ Whole f [] = ap front (sym (append-nil (frame_bytes f))) ∙ front_of_frame f [] good in
    let none = ap length (whole_rest g f (more ++ drop n (frame_bytes f)) [] (sym all ∙ one)) in
    omega (arith, none, length-append more (drop n (frame_bytes f)), length-drop n (frame_bytes f), less))

partial_none : (last : ℕ → Bool) (why : LegEnd) (old new : Hands) (m : Flow) → AllByRecursion IsGood m.cut → Turns last (Some why) old new m → frames m.partial ≡ []
partial_none last Parked old new m good t = ap frames t.0.partial ∙ frames_nil
partial_none last Over old new m good t = ap frames t.0.partial ∙ frames_nil
partial_none last Terminated old new m good t = ap frames t.0.partial ∙ frames_nil
partial_none last Ended old new m good t = ap frames t.0.partial ∙ frames_nil
partial_none last Cut old new m good t = ap frames t.0.partial ∙ frames_nil
partial_none last (Bad n) old new m good t = ap frames t.0.partial ∙ frames_nil
partial_none last ReadFault old new m good t = ap frames t.0.partial ∙ frames_nil
partial_none last WriteFault old new m good t = ap frames t.0.partial ∙ front_none t.0.message t.0.count (subst (AllByRecursion IsGood) t.0.cut good).0 t.0.some
partial_none last NoMemory old new m good t = ap frames t.0 ∙ frames_nil

module _ {P : Type 0} (stands : P → List ℕ → List Frame → Bool → Type 0) (begins : (p : P) (fed : List ℕ) (handed : List Frame) (s : Bool) → stands p fed handed s → Begins handed (frames fed)) (last : ℕ → Bool) (old new : Hands) (p q : P) (why : LegEnd) (r : Runs stands last old new p q why) (sent : List Frame) (before : List ℕ) where
  abbrev m : Flow
  m = r.flow

  abbrev fed : List ℕ
  fed = render sent ++ before

  abbrev handed : List Frame
  handed = sent ++ m.messages ++ m.cut

  abbrev over : List ℕ
  over = held (fed ++ m.kept) handed

  in_parts : stands p fed sent false → IsBytes fed → IsBytes m.kept → before ++ (m.kept ++ m.lost) ≡ (render m.messages ++ render m.cut) ++ (over ++ m.lost)
  in_parts st ok kept =
      ap (λ (v : List ℕ). v ++ (m.kept ++ m.lost)) (sym (drop_front (render sent) before))
      ∙ goes_in_parts fed sent m ok (bytes_both fed m.kept ok kept) (begins p fed sent false st) (begins q (fed ++ m.kept) handed false (r.stood fed sent false st).stood)

  split : (u : Unwritten m) → (render m.messages ++ render m.cut) ++ (over ++ m.lost) ≡ written m ++ (u.others ++ (over ++ m.lost))
  split u =
      ap (λ (v : List ℕ). (render m.messages ++ v) ++ (over ++ m.lost)) u.is
      ∙ ap (λ (v : List ℕ). v ++ (over ++ m.lost)) (sym (append_assoc (render m.messages) m.partial u.others))
      ∙ append_assoc (render m.messages ++ m.partial) u.others (over ++ m.lost)

  -- all that was fed, where nothing is half done
  all_fed : (left : List ℕ) → IsClean m → before ++ (m.kept ++ m.lost) ≡ written m ++ left → fed ++ m.kept ≡ render (sent ++ m.messages) ++ left
  all_fed left c parts =
      append_assoc (render sent) before m.kept
      ∙ ap (λ (v : List ℕ). render sent ++ v) (ap (λ (v : List ℕ). before ++ v) (sym (append-nil m.kept) ∙ ap (λ (v : List ℕ). m.kept ++ v) (sym c.lost)) ∙ parts ∙ ap (λ (v : List ℕ). (render m.messages ++ v) ++ left) c.partial ∙ ap (λ (v : List ℕ). v ++ left) (append-nil (render m.messages)))
      ∙ sym (append_assoc (render sent) (render m.messages) left) ∙ ap (λ (v : List ℕ). v ++ left) (sym (render_append sent m.messages))

  -- what was held, and nothing more
  short_still : (left : List ℕ) → AllByRecursion IsGood (sent ++ m.messages) → AllByRecursion IsGood sent → IsShort before → fed ++ m.kept ≡ render (sent ++ m.messages) ++ left → m.kept ++ m.lost ≡ [] → IsClean m → IsShort left
  short_still left good sent_good h e none c =
      let same : (render sent ++ h.early) ++ h.late ≡ render (sent ++ m.messages) ++ left =
      append_assoc (render sent) h.early h.late ∙ ap (λ (v : List ℕ). render sent ++ v) (sym h.parts) ∙ sym (append-nil fed)
      ∙ ap (λ (v : List ℕ). fed ++ v) (sym none ∙ ap (λ (v : List ℕ). m.kept ++ v) c.lost ∙ append-nil m.kept) ∙ e in
      short_left (sent ++ m.messages) (render sent ++ h.early) h.late left good same h.few
      (m.messages, ap (λ (v : List Frame). v ++ m.messages) (frames_of_render sent h.early sent_good ∙ ap (λ (v : List Frame). sent ++ v) h.none_early ∙ append-nil sent))

  -- behind what was taken
  short_taken : (left : List ℕ) → AllByRecursion IsGood (sent ++ m.messages) → fed ++ m.kept ≡ render (sent ++ m.messages) ++ left → (early late : List ℕ) → m.kept ++ m.lost ≡ early ++ late → length late ≤ 8192
      → Begins (frames (fed ++ early)) (sent ++ m.messages ++ m.cut) → IsClean m → IsShort left
  short_taken left good e early late parts few b c =
      let same : (fed ++ early) ++ late ≡ render (sent ++ m.messages) ++ left =
      append_assoc fed early late ∙ ap (λ (v : List ℕ). fed ++ v) (sym parts ∙ ap (λ (v : List ℕ). m.kept ++ v) c.lost ∙ append-nil m.kept) ∙ e in
      short_left (sent ++ m.messages) (fed ++ early) late left good same few (b.0, b.1 ∙ ap (λ (v : List Frame). sent ++ m.messages ++ v) c.cut ∙ append-nil (sent ++ m.messages))

  cut_good : stands p fed sent false → AllByRecursion IsGood m.cut
  cut_good st =
      let b = begins q (fed ++ m.kept) handed false (r.stood fed sent false st).stood in
      good_back (sent ++ m.messages) m.cut (good_front handed b.0 (subst (AllByRecursion IsGood) (sym b.1) (frames_good (fed ++ m.kept))))

  pub leg : AllByRecursion IsGood sent → stands p fed sent false → IsBytes fed → IsBytes m.kept → Leg stands q sent before m
  leg sent_good st ok kept =
      let u = unwritten last why old new m r.turns in
      let left : List ℕ = u.others ++ (over ++ m.lost) in
      let parts : before ++ (m.kept ++ m.lost) ≡ written m ++ left = in_parts st ok kept ∙ split u in
      record {
        left = left;
        parts = parts;
        clean = λ c. record {
          stood = subst (λ (v : List ℕ). stands q v (sent ++ m.messages) false) (all_fed left c parts)
              (subst (λ (v : List Frame). stands q (fed ++ m.kept) v false) (ap (λ (v : List Frame). sent ++ m.messages ++ v) c.cut ∙ append-nil (sent ++ m.messages)) (r.stood fed sent false st).stood);
          bytes = subst IsBytes (all_fed left c parts) (bytes_both fed m.kept ok kept);
        };
        whole = frames_of_render m.messages m.partial r.moves.good ∙ ap (λ (v : List Frame). m.messages ++ v) (partial_none last why old new m (cut_good st) r.turns) ∙ append-nil m.messages;
        short = λ h c.
            let good = good_append sent m.messages sent_good r.moves.good in
            elim (r.stood fed sent false st).drained [
              | inl none ↦ short_still left good sent_good h (all_fed left c parts) none c
              | inr d ↦ short_taken left good (all_fed left c parts) d.0 d.1 d.2 d.3 d.4 c
            ];
      }

-- ---- why it ended

frames_left : (all : List Frame) (bytes left : List ℕ) → AllByRecursion IsGood all → bytes ≡ render all ++ left → frames bytes ≡ all → frames left ≡ []
frames_left all bytes left good e f = cancel all (frames left) [] (sym (frames_of_render all left good) ∙ sym (ap frames e) ∙ f ∙ sym (append-nil all))

bad_left : (all : List Frame) (bytes left : List ℕ) → AllByRecursion IsGood all → bytes ≡ render all ++ left → bad left ≡ bad bytes
bad_left all bytes left good e = ap (λ (v : List ℕ). bad (v ++ left)) (sym (rest_rendered all good)) ∙ sym (joined.bad-append (render all) left) ∙ ap bad (sym e)

none_left : (front left : List ℕ) → length (front ++ left) ≡ length front → left ≡ []
none_left front [] e = refl
none_left front (x ∷ xs) e = absurd (omega (arith, length-append front (x ∷ xs)))

because_by : (last : ℕ → Bool) (why : LegEnd) (old new : Hands) (m : Flow) (bytes left : List ℕ) (all : List Frame) → AllByRecursion IsGood all
    → (IsClean m → bytes ≡ render all ++ left) → Turns last (Some why) old new m → EndsAt (Some why) bytes all → Because why old.source new.source old.sink new.sink left
because_by last Parked old new m bytes left all good e t a = tt
because_by last Over old new m bytes left all good e t a = tt
because_by last Terminated old new m bytes left all good e t a = tt
because_by last Ended old new m bytes left all good e t a = (t.2, none_left (render all) left (ap length (sym (e t.0)) ∙ a))
because_by last Cut old new m bytes left all good e t a = (
  t.2,
  (λ none. a.2 (ap length (e t.0 ∙ ap (λ (v : List ℕ). render all ++ v) none ∙ append-nil (render all)))),
  frames_left all bytes left good (e t.0) a.0,
  bad_left all bytes left good (e t.0) ∙ a.1,
)
because_by last (Bad n) old new m bytes left all good e t a = (frames_left all bytes left good (e t.0) a.0, bad_left all bytes left good (e t.0) ∙ a.1)
because_by last ReadFault old new m bytes left all good e t a = t.2
because_by last WriteFault old new m bytes left all good e t a = t.2
because_by last NoMemory old new m bytes left all good e t a = tt

module _ {P : Type 0} (stands : P → List ℕ → List Frame → Bool → Type 0) (begins : (p : P) (fed : List ℕ) (handed : List Frame) (s : Bool) → stands p fed handed s → Begins handed (frames fed)) (last : ℕ → Bool) (old new : Hands) (p q : P) (why : LegEnd) (r : Runs stands last old new p q why) (sent : List Frame) (before : List ℕ) where
  pub because : AllByRecursion IsGood sent → stands p (render sent ++ before) sent false → (l : Leg stands q sent before r.flow) → Because why old.source new.source old.sink new.sink l.left
  because good st l =
      because_by last why old new r.flow (render sent ++ before ++ r.flow.kept) l.left (sent ++ r.flow.messages) (good_append sent r.flow.messages good r.moves.good)
      (λ c. all_fed stands begins last old new p q why r sent before l.left c l.parts) r.turns (r.stood (render sent ++ before) sent false st).ends

pub leaves_short : (last : ℕ → Bool) (why : LegEnd) (old new : Hands) (m : Flow) (left : List ℕ) → Turns last (Some why) old new m → (IsClean m → IsShort left) → LeavesShort why left
leaves_short last Parked old new m left t s = s t.0
leaves_short last Over old new m left t s = s t.0
leaves_short last Terminated old new m left t s = s t.0
leaves_short last Ended old new m left t s = s t.0
leaves_short last Cut old new m left t s = s t.0
leaves_short last (Bad n) old new m left t s = s t.0
leaves_short last ReadFault old new m left t s = s t.0
leaves_short last WriteFault old new m left t s = tt
leaves_short last NoMemory old new m left t s = tt
