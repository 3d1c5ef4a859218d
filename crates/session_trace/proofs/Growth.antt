-- A trace so far with one round, one exchange or one move more.
use Rattle.std.proofs.Common.{◌≡◌, ℕ, Bool, ◌+◌, List, [], ◌∷◌, ◌++◌, Option, Some, None, refl, sym, ap, ◌∙◌, arith, append_assoc, append-nil}
use Rattle.proxy_links.specs.Told.{push, blank}
use Rattle.proxy_links.specs.Links.{LinkRecord}
use Rattle.proxy_links.specs.Board.{raised}
use Rattle.session_legs.specs.Legs.{Flow, Hands, Turns}
use Rattle.session_legs.specs.declared.side.LegEnd.{LegEnd}
use Rattle.session_legs.specs.declared.side.LegEnd.TheVariants.{Parked, Over, Terminated, Ended, Cut, Bad, ReadFault, WriteFault, NoMemory}
use Rattle.session_trace.specs.Running.{written}
use Rattle.session_trace.specs.Trace.{link_sent_next, link_got_next, Opening, Round, all_forwarded, all_relayed}
use Rattle.session_trace.specs.Records.{link_sent, link_got, opening_next, open_link, left, left_next, record_of}
use Rattle.session_trace.specs.Looks.{parks_of, overs_of, summed}
use Rattle.session_trace.specs.Growing.{IsPlain, GoesOn, BoardsGoOn, ExchangeGoesOn, MoveGoesOn}

grow : {X : Type 0} (o x y : Option (List X)) (a b c : List X) → x ≡ push o a → y ≡ push x b → a ++ b ≡ c → y ≡ push o c
grow {X} o x y a b c p q e = q ∙ ap (λ (v : Option (List X)). push v b) p ∙ pushes o a b ∙ ap (push o) e
  where
    pushes : (o : Option (List X)) (a b : List X) → push (push o a) b ≡ push o (a ++ b)
    pushes None a b = refl
    pushes (Some ys) a b = ap Some (append_assoc ys a b)

-- behind f and x
two : (s f x : List ℕ) → (s ++ f ++ []) ++ x ≡ s ++ f ++ x
two s f x = ap (λ (v : List ℕ). v ++ x) (append-nil (s ++ f))

pub one_more : GoesOn
one_more start old new board board' why why' r links first rs in_ out in' out' s a b =
    let m : Flow = r.request.flow in
    let n : Flow = r.response.flow in
    record {
      tx = grow (blank start.records) old.tx.contents new.tx.contents (link_sent first rs) (written m) _ s.tx r.request.moves.wrote.contents
          (sym (append-nil (link_sent first rs ++ written m)));
      rx = grow (blank start.records) old.rx.taken new.rx.taken (link_got first rs ++ out) (n.kept ++ n.lost) _ s.rx r.response.moves.read.taken
          (append_assoc (link_got first rs) out (n.kept ++ n.lost) ∙ ap (λ (v : List ℕ). link_got first rs ++ v) b
          ∙ sym (append_assoc (link_got first rs) (written n) out')
          ∙ ap (λ (v : List ℕ). v ++ out') (sym (append-nil (link_got first rs ++ written n))));
      tx_number = r.request.moves.wrote.link ∙ s.tx_number;
      rx_number = r.response.moves.read.link ∙ s.rx_number;
      records = s.records ∙ ap (λ (v : List LinkRecord). push start.records v) (sym (append-nil (left first rs)) ∙ sym (append-nil (left first rs ++ [])));
      forwards = grow start.client_taken old.client_in.taken new.client_in.taken (all_forwarded rs ++ in_) (m.kept ++ m.lost) _ s.forwards r.request.moves.read.taken
          (append_assoc (all_forwarded rs) in_ (m.kept ++ m.lost) ∙ ap (λ (v : List ℕ). all_forwarded rs ++ v) a ∙ sym (append_assoc (all_forwarded rs) (written m) in'));
      relays = grow start.client_given old.client_out.contents new.client_out.contents (all_relayed rs) (written n) _ s.relays r.response.moves.wrote.contents refl;
    }

-- ---- the board

parks_by : (last : ℕ → Bool) (why : LegEnd) (old new : Hands) (m : Flow) → Turns last (Some why) old new m → (new.marks.parks ≡ raised old.marks.parks (parks_of why)) × (new.marks.overs ≡ raised old.marks.overs (overs_of why))
parks_by last Parked old new m t = (t.1, t.2 ∙ omega arith)
parks_by last Over old new m t = (t.1 ∙ omega arith, t.2)
parks_by last Terminated old new m t = (t.1.parks ∙ omega arith, t.1.overs ∙ omega arith)
parks_by last Ended old new m t = (t.1.parks ∙ omega arith, t.1.overs ∙ omega arith)
parks_by last Cut old new m t = (t.1.parks ∙ omega arith, t.1.overs ∙ omega arith)
parks_by last (Bad n) old new m t = (t.1.parks ∙ omega arith, t.1.overs ∙ omega arith)
parks_by last ReadFault old new m t = (t.1.parks ∙ omega arith, t.1.overs ∙ omega arith)
parks_by last WriteFault old new m t = (t.1.parks ∙ omega arith, t.1.overs ∙ omega arith)
parks_by last NoMemory old new m t = (t.3.parks ∙ omega arith, t.3.overs ∙ omega arith)

raised_more : (a b c n k : ℕ) → b ≡ raised a n → c ≡ raised b k → c ≡ raised a (n + k)
raised_more a b c n k p q = omega arith

pub boards_more : BoardsGoOn
boards_more before board board' old new why why' rs held r b =
    let p = parks_by _ why _ _ r.request.flow r.request.turns in
    let q = parks_by _ why' _ _ r.response.flow r.response.turns in
    record {
      front_parks = raised_more before.front.parks board.front.parks board'.front.parks (summed (λ r. parks_of r.request) rs) (parks_of why) b.front_parks p.0;
      front_overs = raised_more before.front.overs board.front.overs board'.front.overs (summed (λ r. overs_of r.request) rs) (overs_of why) b.front_overs p.1;
      back_parks = raised_more before.back.parks board.back.parks board'.back.parks (summed (λ r. parks_of r.response) rs) (parks_of why') b.back_parks q.0;
      back_overs = raised_more before.back.overs board.back.overs board'.back.overs (summed (λ r. overs_of r.response) rs) (overs_of why') b.back_overs q.1;
    }

-- ---- an exchange and a move

-- what a plain round shows
module _ (first : Opening) (r : Round) (rs : List Round) (p : IsPlain r) where
  sent_is : link_sent first (r ∷ rs) ≡ link_sent first rs ++ r.forwarded
  sent_is = ap (λ v. link_sent_next v (link_sent first rs ++ r.forwarded ++ r.ask)) p.next ∙ ap (λ v. link_sent first rs ++ r.forwarded ++ v) p.ask ∙ append-nil (link_sent first rs ++ r.forwarded)

  got_is : link_got first (r ∷ rs) ≡ link_got first rs ++ r.relayed
  got_is = ap (λ v. link_got_next v (link_got first rs ++ r.relayed ++ r.answer)) p.next ∙ ap (λ v. link_got first rs ++ r.relayed ++ v) p.answer ∙ append-nil (link_got first rs ++ r.relayed)

  left_is : left first (r ∷ rs) ≡ left first rs
  left_is =
      ap (λ v. left first rs ++ r.trials ++ left_next v (λ c. record_of (open_link first rs) c (link_sent first rs ++ r.forwarded ++ r.ask) (link_got first rs ++ r.relayed ++ r.answer))) p.next
      ∙ append-nil (left first rs ++ r.trials) ∙ ap (λ v. left first rs ++ v) p.trials ∙ append-nil (left first rs)

  link_is : open_link first (r ∷ rs) ≡ open_link first rs
  link_is = ap (λ v. opening_next v (open_link first rs)) p.next

pub exchange_goes_on : ExchangeGoesOn
exchange_goes_on start old new links links' first r rs in_ a x y trials s p e = record {
  tx = grow (blank start.records) old.tx.contents new.tx.contents (link_sent first (r ∷ rs)) x _ s.tx e.asked.contents (ap (λ v. v ++ x) (sent_is first r rs p));
  rx = grow (blank start.records) old.rx.taken new.rx.taken (link_got first (r ∷ rs) ++ []) y _ s.rx e.answered.taken
      (ap (λ v. v ++ y) (append-nil (link_got first (r ∷ rs)) ∙ got_is first r rs p) ∙ sym (append-nil (link_got first rs ++ r.relayed ++ y)));
  tx_number = e.asked.link ∙ s.tx_number ∙ ap (λ (o : Opening). o.number) (link_is first r rs p);
  rx_number = e.answered.link ∙ s.rx_number ∙ ap (λ (o : Opening). o.number) (link_is first r rs p);
  records = grow start.records links.records links'.records (left first (r ∷ rs)) trials _ s.records e.records
      (ap (λ v. v ++ trials) (left_is first r rs p) ∙ sym (append-nil (left first rs ++ trials)));
  forwards = ap (λ c. c.taken) e.client.client_in ∙ s.forwards;
  relays = ap (λ c. c.contents) e.client.client_out ∙ s.relays;
}

pub move_goes_on : MoveGoesOn
move_goes_on start old new links links' first r rs in_ a x y counts o s p e = record {
  tx = e.tx;
  rx = e.rx ∙ ap (push (blank start.records)) (sym (append-nil o.got));
  tx_number = e.tx_number;
  rx_number = e.rx_number;
  records = grow start.records links.records links'.records (left first (r ∷ rs)) _ _ s.records e.records
      (ap (λ v. v ++ record_of (open_link first rs) counts (link_sent first rs ++ r.forwarded ++ x) (link_got first rs ++ r.relayed ++ y) ∷ []) (left_is first r rs p ∙ sym (append-nil (left first rs))));
  forwards = ap (λ c. c.taken) e.client.client_in ∙ s.forwards;
  relays = ap (λ c. c.contents) e.client.client_out ∙ s.relays;
}
