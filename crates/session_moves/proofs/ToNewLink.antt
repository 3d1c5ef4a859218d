-- A trace so far with a move.
use Rattle.std.proofs.Common.{◌≡◌, ℕ, ◌-◌, ◌^◌, ◌<◌, true, false, List, [], ◌∷◌, ◌++◌, length, Option, Some, refl, sym, ap, subst, ◌∙◌, append-nil, inl, inr}
use Rattle.std.specs.Prelude.{slice_get}
use Rattle.std.specs.List.{flat_map}
use Rattle.std.specs.Option.{option_to_list}
use Rattle.pgw_frames.specs.declared.frame.Frame.{Frame}
use Rattle.pgw_frames.specs.Frames.{frame_bytes, render}
use Rattle.pgw_messages.specs.Backend.{back_of}
use Rattle.pgw_messages.specs.declared.params.Pair.{Pair}
use Rattle.pgw_messages.specs.declared.pod_key.PodKey.{PodKey}
use Rattle.proxy_links.specs.Links.{Links, LinkCounts, LinkRecord, counts_of, hung}
use Rattle.proxy_links.specs.Links as links_of
use Rattle.proxy_links.specs.Told.{Grows, push, blank}
use Rattle.proxy_links.specs.declared.dialer.Dial.{Dial}
use Rattle.proxy_outside.specs.Reading.{Origin}
use Rattle.proxy_outside.specs.Writing.{Target}
use Rattle.proxy_outside.specs.declared.place.Place.{Place}
use Rattle.link_io.proofs.Parts.{push_push}
use Rattle.session_asks.specs.Greetings.{keys_of, key_read}
use Rattle.session_model.specs.Texts.{transfer_query, restore_query}
use Rattle.session_model.specs.declared.transfer.TransferKey.{TransferKey}
use Rattle.session_trace.specs.Openings.{IsWhole}
use Rattle.session_trace.specs.Records.{left, link_sent, link_got, open_link, opening_next, record_of}
use Rattle.session_trace.specs.Running.{Now, Board}
use Rattle.session_trace.specs.SoFar.{SoFar}
use Rattle.session_trace.specs.Trace.{Attempt, Next, Moved, Opening, Round, all_forwarded, all_relayed, link_sent_next, link_got_next}
use Rattle.session_trace.proofs.Bytes.{frames_rendered}
use Rattle.session_trace.proofs.Growth.{move_goes_on}
use Rattle.session_round.specs.Standing.{Begin, Stands}
use Rattle.transfer_stages.specs.Exchange.{packet}
use Rattle.session_moves.specs.Attempts.{MovesTo, KeepsOthers}
use Rattle.session_moves.specs.Going.{Ready, Attempting, with_attempt, GoesOn}
use Rattle.session_moves.specs.Telling.{TellsLinks, Placed}
use Rattle.session_moves.specs.declared.moving.Tried.TheVariants as tried
use Rattle.session_moves.proofs.Behind.{plain, so_far_there, rose_moved, stands_on}
use Rattle.session_moves.proofs.Lists.{get_front, some_is, hung_told, blank_push}
use Rattle.session_moves.proofs.OpeningKeys.{keys_accepted}
use Rattle.session_moves.proofs.Places.{before, placed_hung, placed_new}

grow : (o x y : Option (List ℕ)) (a c d : List ℕ) → x ≡ push o a → y ≡ push x c → a ++ c ≡ d → y ≡ push o d
grow o x y a c d p q e = q ∙ ap (λ (v : Option (List ℕ)). push v c) p ∙ push_push o a c ∙ ap (push o) e

-- how many dials there were, by what is told at the end
few_told : (links : Links) → TellsLinks links → (ds : List Dial) → links.dials ≡ Some ds → length ds < 2 ^ 64 - 1
few_told links t ds e = subst (λ (v : List Dial). length v < 2 ^ 64 - 1) (some_is t.dials ds (sym t.dials_told ∙ e)) t.few

module _ (b : Begin) (p : List Pair) (patience : ℕ) (at : Place) (key : TransferKey) (links links' : Links) (old new : Now) (board : Board) (newest : Round) (rs : List Round)
    (s : Stands b old links board (newest ∷ rs)) (ready : Ready newest (all_forwarded (newest ∷ rs)) (all_relayed (newest ∷ rs))) (placed : Placed (open_link b.first (newest ∷ rs)) links) (kept : KeepsOthers old new)
    (k : Option PodKey) (m : MovesTo key p patience at links links' old new k) (tells : TellsLinks links') where
  abbrev f : List ℕ
  f = all_forwarded (newest ∷ rs)

  abbrev g : List ℕ
  g = all_relayed (newest ∷ rs)

  abbrev opening : Opening
  opening = record { number = links.dialed; place = at; packet = packet p m.token; asked = frame_bytes (restore_query m.state); got = render m.moves.restored.frames }

  abbrev counts : LinkCounts
  counts = counts_of m.tx m.rx

  abbrev x : List ℕ
  x = frame_bytes (transfer_query key)

  abbrev y : List ℕ
  y = render m.reply.frames

  abbrev there : Opening
  there = open_link b.first rs

  placed_there : Placed there links
  placed_there = subst (λ (n : Next). Placed (opening_next n there) links) ready.run.next placed

  dials_same : links'.dials ≡ m.between.dials
  dials_same = ap (λ (l : Links). l.dials) m.hung.others

  blank_start : blank {B = ℕ} links.records ≡ blank b.start.records
  blank_start = ap (λ (v : Option (List LinkRecord)). blank v) s.so_far.records ∙ blank_push b.start.records (left b.first (newest ∷ rs))

  -- ---- the old link's record

  sent_is : link_sent b.first (newest ∷ rs) ≡ link_sent b.first rs ++ newest.forwarded
  sent_is =
      ap (λ (n : Next). link_sent_next n (link_sent b.first rs ++ newest.forwarded ++ newest.ask)) ready.run.next ∙ ap (λ (v : List ℕ). link_sent b.first rs ++ newest.forwarded ++ v) ready.run.ask
      ∙ append-nil (link_sent b.first rs ++ newest.forwarded)

  got_is : link_got b.first (newest ∷ rs) ++ [] ≡ link_got b.first rs ++ newest.relayed
  got_is =
      append-nil (link_got b.first (newest ∷ rs))
      ∙ ap (λ (n : Next). link_got_next n (link_got b.first rs ++ newest.relayed ++ newest.answer)) ready.run.next ∙ ap (λ (v : List ℕ). link_got b.first rs ++ newest.relayed ++ v) ready.run.answer
      ∙ append-nil (link_got b.first rs ++ newest.relayed)

  number_is : m.rx.link ≡ there.number
  number_is = m.reply.heard.read.link ∙ s.so_far.rx_number ∙ ap (λ (n : Next). (opening_next n there).number) ready.run.next

  place_is : m.hung.place ≡ there.place
  place_is =
      let d = before links.dials m.between.dials (record { place = at; came = true }) tells.dials m.moves.came.dials (sym dials_same ∙ tells.dials_told) in
      let q = placed_there.placed d.earlier d.told in
      let found : slice_get tells.dials m.rx.link ≡ Some q.0 =
      subst (λ (v : List Dial). slice_get v m.rx.link ≡ Some q.0) (sym d.all)
      (get_front d.earlier (record { place = at; came = true } ∷ []) m.rx.link q.0 (subst (λ (i : ℕ). slice_get d.earlier i ≡ Some q.0) (sym number_is) q.1)) in
      m.hung.is_place tells.dials q.0 (sym dials_same ∙ tells.dials_told) found ∙ q.2

  sent_told : m.tx.contents ≡ push (blank links.records) (link_sent b.first rs ++ newest.forwarded ++ x)
  sent_told =
      grow (blank b.start.records) old.tx.contents m.tx.contents (link_sent b.first (newest ∷ rs)) x (link_sent b.first rs ++ newest.forwarded ++ x) s.so_far.tx m.asked.contents (ap (λ (v : List ℕ). v ++ x) sent_is)
      ∙ ap (λ (v : Option (List ℕ)). push v (link_sent b.first rs ++ newest.forwarded ++ x)) (sym blank_start)

  got_told : m.rx.taken ≡ push (blank links.records) (link_got b.first rs ++ newest.relayed ++ y)
  got_told =
      grow (blank b.start.records) old.rx.taken m.rx.taken (link_got b.first (newest ∷ rs) ++ []) y (link_got b.first rs ++ newest.relayed ++ y)
      (so_far_there b old new links links' board newest rs s f g ready kept).rx m.reply.heard.read.taken (ap (λ (v : List ℕ). v ++ y) got_is)
      ∙ ap (λ (v : Option (List ℕ)). push v (link_got b.first rs ++ newest.relayed ++ y)) (sym blank_start)

  same_record : (i j : ℕ) (u v : Place) (a c : List ℕ) → i ≡ j → u ≡ v → links_of.record_of i u counts a c ≡ links_of.record_of j v counts a c
  same_record i j u v a c e h = ap (λ (n : ℕ). links_of.record_of n u counts a c) e ∙ ap (λ (w : Place). links_of.record_of j w counts a c) h

  records_are : links'.records ≡ push links.records (record_of there counts (link_sent b.first rs ++ newest.forwarded ++ x) (link_got b.first rs ++ newest.relayed ++ y) ∷ [])
  records_are =
      let r : List ℕ → List ℕ → LinkRecord = links_of.record_of m.rx.link m.hung.place counts in
      ap (λ (l : Links). l.records) m.hung.others
      ∙ ap (λ (v : Option (List LinkRecord)). hung v r m.tx.contents m.rx.taken) (ap (λ (l : Links). l.records) m.moves.came.others)
      ∙ hung_told links.records r (link_sent b.first rs ++ newest.forwarded ++ x) (link_got b.first rs ++ newest.relayed ++ y) m.tx.contents m.rx.taken sent_told got_told
      ∙ ap (λ (one : LinkRecord). push links.records (one ∷ [])) (same_record m.rx.link there.number m.hung.place there.place (link_sent b.first rs ++ newest.forwarded ++ x) (link_got b.first rs ++ newest.relayed ++ y) number_is place_is)

  -- ---- the move

  abbrev attempt : Attempt
  attempt = record { place = at; starved = false; dial = Some (record { place = at; came = true }) }

  abbrev moving : Attempting
  moving = record { attempt = attempt; ask = x; answer = y; trials = []; next = Moved counts opening }

  so_far_moved : SoFar b.start new links' b.first (with_attempt newest moving ∷ rs) s.in_ []
  so_far_moved = move_goes_on b.start old new links links' b.first newest rs s.in_ attempt x y counts opening (so_far_there b old new links links' board newest rs s f g ready kept) (plain newest ready.run) (record {
    client = record { client_in = kept.client_in; client_out = kept.client_out };
    tx = m.moves.restored.wrote.contents ∙ ap (λ (t : Target). push t.contents (opening.packet ++ opening.asked)) m.moves.came.tx ∙ ap (λ (v : Option (List ℕ)). push v (opening.packet ++ opening.asked)) blank_start;
    rx = m.moves.restored.heard.read.taken ∙ ap (λ (o : Origin). push o.taken opening.got) m.moves.came.rx ∙ ap (λ (v : Option (List ℕ)). push v opening.got) blank_start;
    tx_number = m.moves.restored.wrote.link ∙ ap (λ (t : Target). t.link) m.moves.came.tx;
    rx_number = m.moves.restored.heard.read.link ∙ ap (λ (o : Origin). o.link) m.moves.came.rx;
    records = records_are;
  })

  abbrev replied : IsWhole y
  replied = record { fs = m.reply.frames; good = m.reply.good; bytes = refl }

  keys_here : keys_of opening ≡ option_to_list k
  keys_here =
      ap (λ (fs : List Frame). flat_map (λ h. key_read (back_of h)) fs) (frames_rendered m.moves.restored.frames m.moves.restored.good) ∙ keys_accepted m.moves.restored.frames k m.moves.restored.accepts

  pub moves_on : GoesOn b p patience at key links links' new board newest rs (tried.Moved k)
  moves_on = record {
    tried = moving;
    makes = record {
      there = refl;
      drawn = ([], append-nil x);
      came_to = inr (inl tt);
      dialed = λ d e. ap (λ (v : Dial). v.place) (sym (some_is (record { place = at; came = true }) d e));
      dials_it = ((replied, key, m.state, m.token, m.reply.accepts), refl, (refl, refl));
      dials = subst (λ (v : Option (List Dial)). Grows links.dials v (record { place = at; came = true } ∷ [])) (sym dials_same) m.moves.came.dials;
      left = tt;
      led = (refl, keys_here);
    };
    stands = stands_on b old new links links' board newest rs s f g ready kept moving so_far_moved (rose_moved b old new links links' board newest rs s f g ready kept m.reply.heard.idles m.rx.waits m.reply.heard.read.waits);
    placed = placed_hung opening m.between links' m.tx m.rx m.hung (placed_new there opening links m.between at m.moves.fresh m.moves.source m.moves.came placed_there refl refl
        (λ ds e. few_told links' tells ds (dials_same ∙ e)));
    fits = (
      ready.safe_there,
      (
        key,
        inl (
          refl,
          (
            replied,
            m.state,
            m.token,
            m.reply.accepts,
            record { packet_is = refl; asked = refl; got = record { fs = m.moves.restored.frames; good = m.moves.restored.good; bytes = refl }; key = k; accepted = m.moves.restored.accepts },
          ),
        ),
      ),
    );
  }
