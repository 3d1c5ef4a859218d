-- A trace so far with an attempt more.
use Rattle.std.proofs.Common.{◌^◌, ◌<◌, ◌≡◌, ◌⊎◌, ◌≢◌, ℕ, Bool, true, false, List, [], ◌∷◌, ◌++◌, take, Option, Some, None, refl, sym, ap, subst, ◌∙◌, append-nil, inl, inr}
use Rattle.std.specs.List.{AllByRecursion}
use Rattle.pgw_frames.specs.declared.frame.Frame.{Frame}
use Rattle.pgw_frames.specs.Frames.{Begins, IsGood, frame_bytes, render}
use Rattle.pgw_frames.proofs.Fronts.{frames_nil}
use Rattle.pgw_messages.specs.declared.params.Pair.{Pair}
use Rattle.proxy_links.specs.Links.{counts_of, Links, LinkRecord, Failing}
use Rattle.proxy_links.specs.Told.{Grows, push}
use Rattle.proxy_links.specs.declared.dialer.Dial.{Dial}
use Rattle.proxy_outside.specs.Reading.{Origin}
use Rattle.proxy_outside.specs.Writing.{Target}
use Rattle.proxy_outside.specs.declared.place.Place.{Place}
use Rattle.link_io.specs.Reading.{ReadOn}
use Rattle.link_io.specs.Writing.{Wrote}
use Rattle.link_io.proofs.Parts.{push_push, push_nil, read_none}
use Rattle.link_transfer.specs.Telling.{tags}
use Rattle.link_transfer.specs.Transfers.{Trial, OldReply}
use Rattle.session_asks.specs.Dialing.{GivesState}
use Rattle.session_model.specs.Texts.{transfer_query}
use Rattle.session_model.specs.declared.transfer.TransferKey.{TransferKey}
use Rattle.session_trace.specs.Attempts.{CameTo}
use Rattle.session_trace.specs.Openings.{IsWhole}
use Rattle.session_trace.specs.Records.{open_link, opening_next}
use Rattle.session_trace.specs.Running.{Now, Board}
use Rattle.session_trace.specs.SoFar.{SoFar}
use Rattle.session_trace.specs.Trace.{Attempt, Next, Same, Round, all_forwarded, all_relayed}
use Rattle.session_trace.specs.Transfers.{IsSafe, FitsRound, tags_of}
use Rattle.session_trace.proofs.Growth.{exchange_goes_on}
use Rattle.session_round.specs.Standing.{Begin, Stands}
use Rattle.transfer_stages.specs.Accepts.{AcceptsOld}
use Rattle.transfer_stages.specs.Taking.{end_of}
use Rattle.transfer_stages.specs.declared.stage.Cut.{Cut}
use Rattle.transfer_stages.specs.declared.stage.Said.{Said}
use Rattle.transfer_stages.specs.declared.stage.Said.TheVariants.{Given, Refuses}
use Rattle.transfer_stages.proofs.OldReply.{accepted}
use Rattle.session_moves.specs.Attempts.{Asked, Fails, Refused, StarvesNew, StarvesOld, CutsOld, KeepsOthers}
use Rattle.session_moves.specs.Going.{Ready, Attempting, with_attempt, LedTo, Makes, Fits, GoesOn, EndsBy}
use Rattle.session_moves.specs.Telling.{Placed}
use Rattle.session_moves.specs.declared.moving.Tried.{Tried}
use Rattle.session_moves.specs.declared.moving.Tried.TheVariants as tried
use Rattle.session_moves.proofs.Behind.{plain, so_far_there, rose_same, stands_on}
use Rattle.session_moves.proofs.Gifts.{led_gives_none, few_give_none}
use Rattle.session_moves.proofs.Lists.{some_is, front_begins}
use Rattle.session_moves.proofs.OnNewLink.{OnLink, left_link, lost_link}
use Rattle.session_moves.proofs.OldTypes.{same_tags, so_tags}
use Rattle.session_moves.proofs.OnOldLink.{leaves_got}
use Rattle.session_moves.proofs.Parked.{parked_ends}
use Rattle.session_moves.proofs.Places.{placed_failing, placed_came, placed_hung, placed_same}
use Rattle.session_moves.proofs.Recorded as recorded
use Rattle.session_moves.proofs.Shown.{ShowsBy}

-- ---- what was sent and what was read

module _ (p : List Pair) (key : TransferKey) (f g : List ℕ) (safe_there : IsSafe f g) where
  fits_said : (ends : Bool) (fs : List Frame) (s : Said) → AllByRecursion IsGood fs → AcceptsOld key p fs s → FitsRound p ends f g (frame_bytes (transfer_query key)) (render fs) Same
  fits_said ends fs s good accepts = (safe_there, (key, inl (refl, (record { fs = fs; good = good; bytes = refl }, inl (s, accepts)))))

  -- after want of memory by its types alone
  fits_types : (fs : List Frame) → AllByRecursion IsGood fs → tags_of fs ≡ 84 ∷ 68 ∷ 67 ∷ 90 ∷ [] → FitsRound p false f g (frame_bytes (transfer_query key)) (render fs) Same
  fits_types fs good types = (safe_there, (key, inl (refl, (record { fs = fs; good = good; bytes = refl }, inr types))))

  -- a Query that was cut, or its answer
  fits_cut : (x y : List ℕ) → (x ≡ [] → y ≡ []) → Begins x (frame_bytes (transfer_query key)) → FitsRound p true f g x y Same
  fits_cut [] y none begins = (none refl, refl)
  fits_cut (z ∷ zs) y none begins = (safe_there, (key, inr (refl, begins, refl)))

no_dial : (d : Dial) → None ≡ Some d → ⊥
no_dial d e = cc

asked_some : (key : TransferKey) (y : List ℕ) → frame_bytes (transfer_query key) ≡ [] → y ≡ []
asked_some key y e = absurd cc

nothing_left : (one : LinkRecord) → (one ∷ []) ≢ []
nothing_left one e = cc

grow : (o x y : Option (List ℕ)) (a c d : List ℕ) → x ≡ push o a → y ≡ push x c → a ++ c ≡ d → y ≡ push o d
grow o x y a c d p q e = q ∙ ap (λ (v : Option (List ℕ)). push v c) p ∙ push_push o a c ∙ ap (push o) e

module _ (b : Begin) (p : List Pair) (patience : ℕ) (at : Place) (key : TransferKey) (links links' : Links) (old new : Now) (board : Board) (newest : Round) (rs : List Round)
    (s : Stands b old links board (newest ∷ rs)) (ready : Ready newest (all_forwarded (newest ∷ rs)) (all_relayed (newest ∷ rs))) (placed : Placed (open_link b.first (newest ∷ rs)) links) (kept : KeepsOthers old new) where
  abbrev f : List ℕ
  f = all_forwarded (newest ∷ rs)

  abbrev g : List ℕ
  g = all_relayed (newest ∷ rs)

  placed_there : Placed (open_link b.first rs) links
  placed_there = subst (λ (n : Next). Placed (opening_next n (open_link b.first rs)) links) ready.run.next placed

  abbrev staying : Attempt → List ℕ → List ℕ → List LinkRecord → Attempting
  staying a x y trials = record { attempt = a; ask = x; answer = y; trials = trials; next = Same }

  so_far_staying : (a : Attempt) (x y : List ℕ) (trials : List LinkRecord) (idles : ℕ) → Wrote old.tx new.tx x → ReadOn old.rx new.rx y idles → links'.records ≡ push links.records trials
      → SoFar b.start new links' b.first (with_attempt newest (staying a x y trials) ∷ rs) s.in_ []
  so_far_staying a x y trials idles asked read records =
      exchange_goes_on b.start old new links links' b.first newest rs s.in_ a x y trials (so_far_there b old new links links' board newest rs s f g ready kept) (plain newest ready.run)
      (record { client = record { client_in = kept.client_in; client_out = kept.client_out }; asked = asked; idles = idles; answered = read; records = records })

  stands_staying : (a : Attempt) (x y : List ℕ) (trials : List LinkRecord) (idles : ℕ) → Wrote old.tx new.tx x → ReadOn old.rx new.rx y idles → links'.records ≡ push links.records trials
      → Stands b new links' board (with_attempt newest (staying a x y trials) ∷ rs)
  stands_staying a x y trials idles asked read records =
      stands_on b old new links links' board newest rs s f g ready kept (staying a x y trials) (so_far_staying a x y trials idles asked read records) (rose_same b old new links links' board newest rs s f g ready kept idles read.waits)

  stay : (t : Tried) (a : Attempt) (y : List ℕ) (trials : List LinkRecord) (idles : ℕ) → Asked key old.tx new.tx → ReadOn old.rx new.rx y idles → links'.records ≡ push links.records trials
      → Makes p patience at key links links' false newest (staying a (frame_bytes (transfer_query key)) y trials) t
      → Placed (open_link b.first rs) links'
      → Fits p false f g (staying a (frame_bytes (transfer_query key)) y trials)
      → GoesOn b p patience at key links links' new board newest rs t
  stay t a y trials idles asked read records makes there fits = record {
    tried = staying a (frame_bytes (transfer_query key)) y trials;
    makes = makes;
    stands = stands_staying a (frame_bytes (transfer_query key)) y trials idles asked read records;
    placed = there;
    fits = fits;
  }

  abbrev unmade : Bool → Attempt
  unmade starved = record { place = at; starved = starved; dial = None }

  abbrev made : Bool → Bool → Attempt
  made starved came = record { place = at; starved = starved; dial = Some (record { place = at; came = came }) }

  undialed : (starved ends : Bool) (x y : List ℕ) (t : Tried) → Begins x (frame_bytes (transfer_query key)) → CameTo p ends (unmade starved) (with_attempt newest (staying (unmade starved) x y [])) → (starved ≡ true) ⊎ (GivesState p y → ⊥)
      → LedTo t (staying (unmade starved) x y []) → links' ≡ links → Makes p patience at key links links' ends newest (staying (unmade starved) x y []) t
  undialed starved ends x y t drawn came why led e = record {
    there = refl;
    drawn = drawn;
    came_to = came;
    dialed = λ d q. absurd (no_dial d q);
    dials_it = (why, refl);
    dials = inr (ap (λ (l : Links). l.dials) e ∙ sym (push_nil links.dials));
    left = tt;
    led = led;
  }

  abbrev whole : Begins (frame_bytes (transfer_query key)) (frame_bytes (transfer_query key))
  whole = ([], append-nil (frame_bytes (transfer_query key)))

  same_records : links' ≡ links → links'.records ≡ push links.records []
  same_records e = ap (λ (l : Links). l.records) e ∙ sym (push_nil links.records)

  pub refuses : Asked key old.tx new.tx → Refused key p patience links links' old.rx new.rx → GoesOn b p patience at key links links' new board newest rs tried.Stayed
  refuses asked r =
      let y : List ℕ = render r.reply.frames in
      let w : IsWhole y = record { fs = r.reply.frames; good = r.reply.good; bytes = refl } in
      let none = led_gives_none key p r.reply.frames (end_of (Refuses r.reason)) r.reply.good ((accepted key p r.reply.frames (Refuses r.reason)).1 r.reply.accepts) (λ state token e. cc) in
      stay tried.Stayed (unmade false) y [] r.reply.heard.idles asked r.reply.heard.read (same_records r.links_are)
      (undialed false false (frame_bytes (transfer_query key)) y tried.Stayed whole (inr (inr (inr (inl (w, key, r.reason, r.reply.accepts))))) (inr none) (refl, refl) r.links_are)
      (placed_same (open_link b.first rs) links links' r.links_are placed_there)
      (fits_said p key f g ready.safe_there false r.reply.frames (Refuses r.reason) r.reply.good r.reply.accepts)

  made_dialed : (starved came : Bool) (d : Dial) → Some (record { place = at; came = came }) ≡ Some d → d.place ≡ at
  made_dialed starved came d e = ap (λ (v : Dial). v.place) (sym (some_is (record { place = at; came = came }) d e))

  gives : (state token : List ℕ) → (r : OldReply key p patience old.rx new.rx (Given state token)) → GivesState p (render r.frames)
  gives state token r = (record { fs = r.frames; good = r.good; bytes = refl }, key, state, token, r.accepts)

  dial_failed : (state token : List ℕ) → Asked key old.tx new.tx → OldReply key p patience old.rx new.rx (Given state token) → Failing links links' at → GoesOn b p patience at key links links' new board newest rs tried.Stayed
  dial_failed state token asked reply failing =
      let y : List ℕ = render reply.frames in
      stay tried.Stayed (made false false) y [] reply.heard.idles asked reply.heard.read (ap (λ (l : Links). l.records) failing.others ∙ sym (push_nil links.records))
      (record {
        there = refl;
        drawn = whole;
        came_to = inr (inr (inr (inr (inl refl))));
        dialed = made_dialed false false;
        dials_it = (gives state token reply, refl, tt);
        dials = failing.dials;
        left = tt;
        led = (refl, refl);
      })
      (placed_failing (open_link b.first rs) links links' at failing placed_there)
      (fits_said p key f g ready.safe_there false reply.frames (Given state token) reply.good reply.accepts)

  trial_left : (t : Tried) (starved : Bool) (state token : List ℕ) (P : Target → Target → Origin → Origin → Type 0) → ((y : List ℕ) (trials : List LinkRecord) → LedTo t (staying (made starved true) (frame_bytes (transfer_query key)) y trials)) → Asked key old.tx new.tx
      → OldReply key p patience old.rx new.rx (Given state token) → (l : Trial P at links links') → (o : OnLink p state token l.fresh l.tx l.source l.rx) → (starved ≡ true) ⊎ ShowsBy patience (counts_of l.tx l.rx) o.got
      → GoesOn b p patience at key links links' new board newest rs t
  trial_left t starved state token P led asked reply l on why =
      let y : List ℕ = render reply.frames in
      let told = recorded.trial_told p patience starved state token P at links links' l on why in
      stay t (made starved true) y (told.one ∷ []) reply.heard.idles asked reply.heard.read told.records
      (record {
        there = refl;
        drawn = whole;
        came_to = inr (inr (inr (inr (inr (nothing_left told.one)))));
        dialed = made_dialed starved true;
        dials_it = (gives state token reply, refl, tt);
        dials = subst (λ (v : Option (List Dial)). Grows links.dials v (record { place = at; came = true } ∷ [])) (sym (ap (λ (k : Links). k.dials) l.hung.others)) l.came.dials;
        left = (told.trial, told.why);
        led = led y (told.one ∷ []);
      })
      (placed_hung (open_link b.first rs) l.between links' l.tx l.rx l.hung (placed_came (open_link b.first rs) links l.between at l.fresh l.source l.came placed_there))
      (fits_said p key f g ready.safe_there false reply.frames (Given state token) reply.good reply.accepts)

  pub fails : patience < 2 ^ 64 → Asked key old.tx new.tx → Fails key p patience at links links' old.rx new.rx → GoesOn b p patience at key links links' new board newest rs tried.Stayed
  fails small asked r = elim r.fails [
    | inl failing ↦ dial_failed r.state r.token asked r.reply failing
    | inr l ↦ (let q = left_link key p r.state r.token patience l.fresh l.tx l.source l.rx small l.story in trial_left tried.Stayed false r.state r.token _ (λ y trials. (refl, refl)) asked r.reply l q.on (inr q.shown))
  ]

  pub starved_new : Asked key old.tx new.tx → StarvesNew key p patience at links links' old.rx new.rx → GoesOn b p patience at key links links' new board newest rs tried.Starved
  starved_new asked r =
      trial_left tried.Starved true r.state r.token _ (λ y trials. (refl, refl)) asked r.reply r.lost (lost_link key p r.state r.token patience r.lost.fresh r.lost.tx r.lost.source r.lost.rx r.lost.story) (inl refl)

  pub starved_old : Asked key old.tx new.tx → StarvesOld key p patience links links' old.rx new.rx → GoesOn b p patience at key links links' new board newest rs tried.Starved
  starved_old asked r =
      let fs : List Frame = r.0.so.frames ++ r.0.dropped in
      let types = same_tags fs ∙ sym (append-nil (tags fs)) ∙ so_tags key p r.0.waits old.rx new.rx r.0.stage r.0.dropped [] r.0.so r.0.awaits in
      stay tried.Starved (unmade true) (render fs) [] r.0.so.heard.idles asked r.0.so.heard.read (same_records r.1)
      (undialed true false (frame_bytes (transfer_query key)) (render fs) tried.Starved whole (inl (refl, refl)) (inl refl) (refl, refl) r.1)
      (placed_same (open_link b.first rs) links links' r.1 placed_there)
      (fits_types p key f g ready.safe_there fs r.0.so.good types)

  -- the call ends behind what was sent and read
  ended : (c : Cut) (x y : List ℕ) (idles : ℕ) → Wrote old.tx new.tx x → ReadOn old.rx new.rx y idles → (x ≡ [] → y ≡ []) → Begins x (frame_bytes (transfer_query key)) → (GivesState p y → ⊥) → links' ≡ links
      → EndsBy b p patience at key links links' new board newest rs (tried.Cut c)
  ended c x y idles asked read empty begins none same = record {
    tried = staying (unmade false) x y [];
    makes = undialed false true x y (tried.Cut c) begins (inr (inr (inl refl))) (inr none) (refl, refl) same;
    ends = parked_ends b new links' board (with_attempt newest (staying (unmade false) x y [])) rs (stands_staying (unmade false) x y [] idles asked read (same_records same)) ready.run.request ready.run.response;
    placed = placed_same (open_link b.first rs) links links' same placed_there;
    stays = refl;
    fits = fits_cut p key f g ready.safe_there x y empty begins;
  }

  pub cuts : (c : Cut) → CutsOld key p patience c links links' old new → EndsBy b p patience at key links links' new board newest rs (tried.Cut c)
  cuts c (inl (is, some, unread, same)) =
      ended c (take some.count (frame_bytes (transfer_query key))) [] 0 some.wrote (subst (λ (o : Origin). ReadOn old.rx o [] 0) (sym unread) (read_none old.rx)) (λ e. refl)
      (front_begins some.count (frame_bytes (transfer_query key))) (few_give_none p [] [] 84 (68 ∷ 67 ∷ 90 ∷ []) tt refl frames_nil) same
  cuts c (inr (asked, leaves, same)) =
      let got = leaves_got key p patience c old.rx new.rx leaves in
      ended c (frame_bytes (transfer_query key)) got.bytes got.idles asked got.read (asked_some key got.bytes) whole got.no_state same
