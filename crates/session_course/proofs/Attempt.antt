-- One attempt more.
use Rattle.std.proofs.Common.{◌≡◌, ℕ, ◌+◌, Bool, true, false, List, [], ◌∷◌, ◌++◌, Option, Some, None, inl, inr, refl, sym, ap, subst, ◌∙◌, arith, append_assoc}
use Rattle.std.specs.Prelude.{option_to_list, if◌then◌else◌}
use Rattle.pgw_messages.specs.declared.params.Pair.{Pair}
use Rattle.pgw_messages.specs.declared.pod_key.PodKey.{PodKey}
use Rattle.proxy_hub.specs.Ports.{Port}
use Rattle.proxy_hub.specs.declared.command.HubCommand.TheVariants.{Assign, Target}
use Rattle.proxy_hub.specs.declared.reply.HubReply.TheVariants.{MoveTo}
use Rattle.proxy_links.specs.Board.{raised}
use Rattle.proxy_links.specs.Links.{Links}
use Rattle.proxy_links.specs.Told.{push, Grows}
use Rattle.proxy_links.specs.declared.dialer.Dial.{Dial}
use Rattle.proxy_outside.specs.declared.identity.SessionNo.{SessionNo}
use Rattle.proxy_outside.specs.declared.place.Place.{Place}
use Rattle.link_io.proofs.Parts.{push_push}
use Rattle.session_model.specs.declared.transfer.TransferKey.{TransferKey}
use Rattle.session_trace.specs.Attempts.{is_starved, starved_in}
use Rattle.session_trace.specs.Records.{open_link, moves_next, moves_in}
use Rattle.session_trace.specs.Trace.{Next, Same, Moved, Round, all_forwarded, all_relayed}
use Rattle.session_asks.specs.Asks.{Ask, ask, Nothing, Alone, InTurn}
use Rattle.session_asks.specs.Between.{Binds, Books, IsDue}
use Rattle.session_asks.specs.Dialing.{DialsIt}
use Rattle.session_admission.specs.Asking.{AsksOn}
use Rattle.session_round.specs.Standing.{Begin}
use Rattle.session_rounds.specs.Asking.{Since, AskedIn, AskedFor, missed_in}
use Rattle.session_rounds.proofs.Asked.{asked_on, count_more}
use Rattle.session_moves.specs.Attempts.{Draws}
use Rattle.session_moves.specs.Going.{Attempting, with_attempt, MovedWith, Makes, Fits}
use Rattle.session_moves.specs.Telling.{Placed}
use Rattle.session_moves.specs.declared.moving.Tried.{Tried}
use Rattle.session_course.specs.Standing.{Means, Outset, Attempted}

pub grows_more : {A : Type 0} (one two three : Option (List A)) (xs ys : List A) → Grows one two xs → Grows two three ys → Grows one three (xs ++ ys)
grows_more {A} one two three xs ys g (inl f) = inl f
grows_more {A} one two three xs ys (inl e) (inr f) = inl (f ∙ ap (λ (o : Option (List A)). push o ys) e)
grows_more {A} one two three xs ys (inr e) (inr f) = inr (f ∙ ap (λ (o : Option (List A)). push o ys) e ∙ push_push one xs ys)

drawn_both : (given given' : Option (List ℕ)) (key : TransferKey) → Draws given given' key → Grows given given' (key.high ∷ key.low ∷ [])
drawn_both given given' key d = grows_more given d.0 given' (key.high ∷ []) (key.low ∷ []) d.1 d.2

-- what an attempt made, with the counts behind it
pub record Made (p : List Pair) (patience : ℕ) (place : Place) (key : TransferKey) (ends : Bool) (m m' : Means) (newest : Round) (a : Attempting) (t : Tried) : Type 0 where
  pub makes : Makes p patience place key m.links m'.links ends newest a t
  pub draws : Draws m.words m'.words key
  pub moves : m'.moves ≡ raised m.moves (moves_next a.next)
  pub starved : m'.starved ≡ raised m.starved (is_starved (Some a.attempt))

module _ (p : List Pair) (patience : ℕ) (b : Begin) (o : Outset) (place : Place) (key : TransferKey) (m m' : Means) (newest : Round) (rs : List Round) (a : Attempting) (t : Tried) where
  pub attempted_more : (ends : Bool) → Attempted p patience false b o m rs → Made p patience place key ends m m' newest a t → IsDue (all_forwarded (newest ∷ rs)) (all_relayed (newest ∷ rs)) newest
      → Placed (open_link b.first (with_attempt newest a ∷ rs)) m'.links → Fits p ends (all_forwarded (newest ∷ rs)) (all_relayed (newest ∷ rs)) a → Attempted p patience ends b o m' (with_attempt newest a ∷ rs)
  attempted_more ends before made due placed fits =
      let makes = made.makes in
      record {
        placed = placed;
        fits = (fits, before.fits);
        attempts = (
          record {
            request = due.request;
            response = due.response;
            nothing_held = due.nothing_held;
            safe_there = due.safe_there;
            came_to = makes.came_to;
            trials = makes.left;
            dialed = λ d e. makes.dialed d e ∙ sym makes.there;
          },
          before.attempts,
        );
        dialed = grows_more o.dials m.links.dials m'.links.dials _ _ before.dialed makes.dials;
        dials_it = (subst (λ (v : Place). DialsIt p v a.attempt.starved a.answer a.next a.attempt.dial) (sym makes.there) makes.dials_it, before.dials_it);
        drawn = before.drawn ++ (key.high ∷ key.low ∷ []);
        words = grows_more o.words m.words m'.words before.drawn (key.high ∷ key.low ∷ []) before.words (drawn_both m.words m'.words key made.draws);
        draws = (before.drawn, key.high ∷ key.low ∷ [], refl, before.draws, (key, refl, makes.drawn));
        moves = count_more o.moves m.moves m'.moves (moves_in rs) (moves_next a.next) _ before.moves made.moves refl;
        starved = count_more o.starved m.starved m'.starved (starved_in rs) (is_starved (Some a.attempt)) _ before.starved made.starved refl;
      }

  -- ---- what was asked

  pub asked_more : (n : SessionNo) (since : Since) (mid now : Port) (u v : ℕ) (as_ : List Ask) → AskedFor n place since mid u rs → AsksOn mid now as_ → v ≡ raised u (missed_in as_)
      → a.attempt.place ≡ place → IsDue (all_forwarded (newest ∷ rs)) (all_relayed (newest ∷ rs)) newest → Books n a.next as_ → AskedIn n since now v (with_attempt newest a ∷ rs)
  asked_more n since mid now u v as_ f on e there due books =
      let named : Ask = ask (Target n) (Some (MoveTo place)) in
      record {
        asks = (f.asks ++ named ∷ []) ++ as_;
        asked = asked_on since mid now u v (f.asks ++ named ∷ []) as_ f.asked on e;
        fit = record {
          front = f.asks;
          back = named ∷ as_;
          whole = append_assoc f.asks (named ∷ []) as_;
          begins = f.fit;
          ends = (
            record { request = due.request; response = due.response; nothing_held = due.nothing_held; safe_there = due.safe_there },
            record { booked = as_; asks = ap (λ (v : Place). ask (Target n) (Some (MoveTo v)) ∷ as_) (sym there); books = books },
          );
        };
      }

-- a move is to the place that was dialed
placed_at : (p : List Pair) (place : Place) (starved : Bool) (answer : List ℕ) (next : Next) (dial : Option Dial) (key : Option PodKey) → DialsIt p place starved answer next dial → (w : MovedWith key next) → (n : SessionNo) (as_ : List Ask)
    → InTurn (Alone (Assign n place)) (Binds n (option_to_list key)) as_ → Books n next as_
placed_at p place starved answer Same dial key d w n as_ i = absurd w
placed_at p place starved answer (Moved c o) None key d w n as_ i = absurd (let e = d.1 in cc)
placed_at p place starved answer (Moved c o) (Some x) key d w n as_ i = record {
  front = i.front;
  back = i.back;
  whole = i.whole;
  begins = subst (λ (v : Place). Alone (Assign n v) i.front) (sym (d.2.1 ∙ d.1)) i.begins;
  ends = subst (λ (v : List PodKey). Binds n v i.back) (sym w) i.ends;
}

pub books_moved : (n : SessionNo) (p : List Pair) (place : Place) (a : Attempting) (key : Option PodKey) (as_ : List Ask) → DialsIt p place a.attempt.starved a.answer a.next a.attempt.dial → MovedWith key a.next → InTurn (Alone (Assign n place)) (Binds n (option_to_list key)) as_ → Books n a.next as_
books_moved n p place a key as_ d w i = placed_at p place a.attempt.starved a.answer a.next a.attempt.dial key d w n as_ i

moved_once : (key : Option PodKey) (next : Next) → MovedWith key next → moves_next next ≡ 1
moved_once key Same w = absurd w
moved_once key (Moved c o) w = refl

pub one_move : (key : Option PodKey) (next : Next) (u v : ℕ) → MovedWith key next → v ≡ raised u 1 → v ≡ raised u (moves_next next)
one_move key next u v w e = e ∙ ap (raised u) (sym (moved_once key next w))

pub no_move : (next : Next) (u v : ℕ) → next ≡ Same → v ≡ raised u 0 → v ≡ raised u (moves_next next)
no_move next u v s e = e ∙ ap (λ (x : Next). raised u (moves_next x)) (sym s)

pub starved_so : (a : Attempting) (s : Bool) (u v : ℕ) → a.attempt.starved ≡ s → v ≡ raised u (if s then 1 else 0) → v ≡ raised u (is_starved (Some a.attempt))
starved_so a s u v is e = e ∙ ap (λ (x : Bool). raised u (if x then 1 else 0)) (sym is)
