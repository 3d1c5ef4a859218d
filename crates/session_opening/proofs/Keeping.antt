-- An opening whose session is ready, stage by stage.
use Rattle.std.proofs.Common.{◌≡◌, ℕ, ◌≤◌, false, List, [], ◌∷◌, ◌++◌, Option, Some, Result, Ok, Err, inl, inr, refl, sym, ap, ◌∙◌, subst, append_assoc}
use Rattle.pgw_messages.specs.declared.params.Pair.{Pair}
use Rattle.pgw_messages.specs.declared.pod_key.PodKey.{PodKey}
use Rattle.proxy_outside.specs.Reading.{Origin}
use Rattle.proxy_outside.specs.Writing.{Target}
use Rattle.proxy_outside.specs.declared.addr.Addr.{Addr}
use Rattle.proxy_outside.specs.declared.identity.ClientKey.{ClientKey}
use Rattle.proxy_outside.specs.declared.identity.SessionNo.{SessionNo}
use Rattle.proxy_outside.specs.declared.place.Place.{Place}
use Rattle.proxy_links.specs.Links.{Links}
use Rattle.proxy_links.specs.Told.{push, blank, Grows}
use Rattle.proxy_links.specs.declared.dialer.Dial.{Dial}
use Rattle.proxy_hub.specs.Ports.{Port}
use Rattle.proxy_hub.specs.declared.command.HubCommand.TheVariants.{Admit, Assign, GiveKey, Release}
use Rattle.proxy_hub.specs.declared.fault.HubFault.{HubFault}
use Rattle.proxy_hub.specs.declared.reply.HubReply.TheVariants.{Admitted, Key, NoSession}
use Rattle.startup_route.specs.declared.step.Route.{Route}
use Rattle.session_trace.specs.Trace.{Opening, Round}
use Rattle.session_trace.specs.Openings.{Opened}
use Rattle.session_trace.specs.Journey.{keyed}
use Rattle.session_asks.specs.Asks.{Ask, ask, Alone, InTurn}
use Rattle.session_asks.specs.Admission.{Client, WantsKey, PicksPods, AfterPicks, AsksHub}
use Rattle.session_asks.specs.Between.{AsksInRounds}
use Rattle.session_admission.specs.Admitting.{AdmitsAt, GivesKeyBy}
use Rattle.session_admission.specs.declared.admission.Admission.{Admission}
use Rattle.session_admission.specs.declared.admission.Admission.TheVariants as admission
use Rattle.session_greeting.specs.Greeting.{halves}
use Rattle.session_greeting.specs.declared.greeting.Limits.{Limits}
use Rattle.session_greeting.specs.declared.login.Greeted.{Greeted}
use Rattle.session_greeting.specs.declared.login.Greeted.TheVariants as came
use Rattle.session_opening.specs.Booking.{Books}
use Rattle.session_opening.specs.Endings.{outcome}
use Rattle.session_opening.specs.Linking.{Around, Held, Settles, Assigned, FindsLink}
use Rattle.session_opening.specs.Opening.{Ready, for_session, Serves, LetsIn, AfterKey}
use Rattle.session_opening.specs.Opening as opening
use Rattle.session_opening.specs.declared.booking.Guest.{Guest}
use Rattle.session_greeting.proofs.Went.{EndsAs, EndsReady, keyed_all}
use Rattle.session_opening.proofs.Began.{began}
use Rattle.session_opening.proofs.Endings.{whole_got, ready_got}
use Rattle.session_opening.proofs.Grown.{Grown, grown_more, grown_quiet}
use Rattle.session_opening.proofs.Books.{guest_client, let_in, after_opening}
use Rattle.session_opening.proofs.Linked.{Reached, reached, reached_at, assign_grown}
use Rattle.session_opening.proofs.Shut.{guest}
use Rattle.session_opening.proofs.Stages.{Before, one_at, asked_key, admit_at, asked_admit}

-- ---- a greeting that ended in a ready

record Readied (greeted : Greeted) (place : Place) (tx : Target) (rx : Origin) (held : Held) (old new : Links) : Type 0 where
  key : Option PodKey
  waits : ℕ
  is : greeted ≡ came.Ready key waits
  kept : held ≡ record { place = place; tx = tx; rx = rx; key = key }
  links : new ≡ old

readied : (greeted : Greeted) (place : Place) (tx : Target) (rx : Origin) (held : Held) (old new : Links) → Settles place tx rx (outcome greeted) old new (Ok held) → Readied greeted place tx rx held old new
readied (came.Ready key waits) place tx rx held old new h = record { key = key; waits = waits; is = refl; kept = (let x = h.0 in cc); links = h.1 }
readied (came.Refused fields) place tx rx held old new h = absurd (let x = h.0 in cc)
readied came.Left place tx rx held old new h = absurd (let x = h.0 in cc)
readied (came.PodCut c) place tx rx held old new h = absurd (let x = h.0 in cc)
readied (came.ClientCut c) place tx rx held old new h = absurd (let x = h.0 in cc)
readied came.NoMemory place tx rx held old new h = absurd (let x = h.0 in cc)

-- ---- a link that is kept

-- asks that fit whatever rounds follow, and the bytes on both sides
pub record Kept (p : List Pair) (n : SessionNo) (key : ClientKey) (fits : List Round → List Dial → Opening → List Ask → Type 0) (old new : Around) (words words' : Option (List ℕ)) (link : Held) : Type 0 where
  pub asks : List Ask
  pub dials : List Dial
  pub first : Opening
  pub grown : Grown old new words words' asks dials
  pub fitting : (rs : List Round) (later : List Ask) → AsksInRounds n rs later → fits rs dials first (asks ++ later)
  pub opens : Opened p first
  pub there : first.place ≡ link.place
  pub records : new.links.records ≡ old.links.records
  pub tx : link.tx.contents ≡ push (blank old.links.records) (first.packet ++ first.asked)
  pub rx : link.rx.taken ≡ push (blank old.links.records) first.got
  pub tx_number : link.tx.link ≡ first.number
  pub rx_number : link.rx.link ≡ first.number
  pub is_open : 1 ≤ new.links.live
  pub taken_is : new.client_in.taken ≡ push old.client_in.taken first.asked
  pub given_is : new.client_out.contents ≡ push old.client_out.contents (keyed key first.got)

abbrev KeptBehind : Guest → List Round → List Dial → Opening → List Ask → Type 0
KeptBehind g rs dials o as_ = InTurn (PicksPods g.tenant dials) (AfterPicks (guest_client g false) g.session (Some o) rs) as_

kept_link : (g : Guest) (p : List Pair) (waited : ℕ) (limits : Limits) (old new : Around) (w : Option (List ℕ)) (held : Held) (hub : Port) (links : Links) (place : Place) (tx : Target) (rx : Origin) → Reached g old (reached_at old hub links) place tx rx
    → Assigned g p waited limits place tx rx (reached_at old hub links) new (Ok held) → Kept p g.session g.key (KeptBehind g) old new w w held
kept_link g p waited limits old new w held hub links place tx rx f a =
    let one : Around = reached_at old hub links in
    let s = a.serves in
    let b = began p g.key limits waited (halves old.client_in old.client_out tx rx) (halves new.client_in new.client_out s.tx_then s.rx_then) s.greeted s.begins in
    let r = readied s.greeted place s.tx_then s.rx_then held links new.links s.settles in
    let ends : EndsReady g.key r.key b.asked b.got b.taken b.given = subst (λ (x : Greeted). EndsAs x g.key b.asked b.got b.taken b.given) r.is b.ends in
    let o : Opening = record { number = s.rx_then.link; place = place; packet = b.packet; asked = b.asked; got = b.got } in
    let l = let_in g o r.key r.waits b.asked b.taken b.given a.hub new.hub old.moments new.moments ends (subst (λ (x : Greeted). Books g x a.hub new.hub old.moments new.moments) r.is s.books) in
    let rx_kept : s.rx_then.link ≡ rx.link = s.rx_same in
    let tx_kept : s.tx_then.link ≡ tx.link = s.tx_same in
    let given_all : b.given ≡ keyed g.key b.got = ends.by.given_is ∙ sym (keyed_all g.key (ends.by.passed ++ ends.by.last ∷ []) ends.by.good) ∙ ap (keyed g.key) (sym ends.by.got_is) in
    record {
      asks = f.asks ++ ask (Assign g.session place) (Some a.reply) ∷ l.booked.asks;
      dials = f.dials;
      first = o;
      grown = grown_quiet old one new w w w f.asks (ask (Assign g.session place) (Some a.reply) ∷ l.booked.asks) f.dials (f.grown w)
          (assign_grown _ one new w a.hub g.session place a.reply a.asked l.booked (ap (λ (x : Links). x.dials) r.links));
      fitting = λ rs later rounds. record {
        front = f.asks;
        back = ask (Assign g.session place) (Some a.reply) ∷ l.booked.asks ++ later;
        whole = append_assoc f.asks (ask (Assign g.session place) (Some a.reply) ∷ l.booked.asks) later;
        begins = f.picks;
        ends = record {
          reply = Some a.reply;
          fitting = a.suits;
          more = l.booked.asks ++ later;
          asks = refl;
          behind = record { front = l.booked.asks; back = later; whole = refl; begins = after_opening g o rs l.booked.asks l.ready l.booked.fitting; ends = rounds };
        };
      };
      opens = record {
        packet = b.ready r.key r.waits r.is;
        login = record { fs = ends.logins; good = ends.good; bytes = ends.whole };
        greeting = whole_got g.key _ b.got b.given ends.by;
        ready = ready_got g.key b.got b.given ends.by;
      };
      there = sym (ap (λ (x : Held). x.place) r.kept);
      records = ap (λ (x : Links). x.records) r.links ∙ f.fresh_there.kept;
      tx = ap (λ (x : Held). x.tx.contents) r.kept ∙ b.tx ∙ ap (λ (v : Option (List ℕ)). push v (b.packet ++ b.asked)) f.fresh_there.tx_blank;
      rx = ap (λ (x : Held). x.rx.taken) r.kept ∙ b.rx ∙ ap (λ (v : Option (List ℕ)). push v b.got) f.fresh_there.rx_blank;
      tx_number = ap (λ (x : Held). x.tx.link) r.kept ∙ tx_kept ∙ f.fresh_there.same ∙ sym rx_kept;
      rx_number = ap (λ (x : Held). x.rx.link) r.kept;
      is_open = subst (λ (x : Links). 1 ≤ x.live) (sym r.links) f.fresh_there.is_open;
      taken_is = b.client_in ∙ ap (push old.client_in.taken) (sym ends.all);
      given_is = b.client_out ∙ ap (push old.client_out.contents) given_all;
    }

kept_found : (g : Guest) (p : List Pair) (waited : ℕ) (limits : Limits) (old new : Around) (w : Option (List ℕ)) (held : Held) → FindsLink g p waited limits old new (Ok held) → Kept p g.session g.key (KeptBehind g) old new w w held
kept_found g p waited limits old new w held (inr m) = absurd (let x = m.is in cc)
kept_found g p waited limits old new w held (inl f) =
    let at = reached g p waited limits old new (Ok held) f in
    elim f.takes [
      | inl a ↦ kept_link g p waited limits old new w held f.hub f.links f.place f.tx f.rx at a
      | inr u ↦ absurd (let x = u.is in cc)
    ]

-- ---- one stage before another

kept_one : (p : List Pair) (n : SessionNo) (key : ClientKey) (fits fits' : List Round → List Dial → Opening → List Ask → Type 0) (old one new : Around) (w w' w'' : Option (List ℕ)) (a : Ask) (link : Held) → Before old one w w' a
    → ((rs : List Round) (ds : List Dial) (o : Opening) (as_ : List Ask) → fits rs ds o as_ → fits' rs ds o (a ∷ as_)) → Kept p n key fits one new w' w'' link → Kept p n key fits' old new w w'' link
kept_one p n key fits fits' old one new w w' w'' a link b lift k = record {
  asks = a ∷ k.asks;
  dials = k.dials;
  first = k.first;
  grown = grown_more old one new w w' w'' (a ∷ []) k.asks [] k.dials b.grown k.grown;
  fitting = λ rs later rounds. lift rs k.dials k.first (k.asks ++ later) (k.fitting rs later rounds);
  opens = k.opens;
  there = k.there;
  records = k.records ∙ ap (λ (x : Links). x.records) b.links;
  tx = k.tx ∙ ap (λ (x : Links). push (blank x.records) (k.first.packet ++ k.first.asked)) b.links;
  rx = k.rx ∙ ap (λ (x : Links). push (blank x.records) k.first.got) b.links;
  tx_number = k.tx_number;
  rx_number = k.rx_number;
  is_open = k.is_open;
  taken_is = k.taken_is ∙ ap (λ x. push x.taken k.first.asked) b.client_in;
  given_is = k.given_is ∙ ap (λ x. push x.contents (keyed key k.first.got)) b.client_out;
}

-- ---- the key

abbrev client_with_key : Addr → Route → SessionNo → ClientKey → Client
client_with_key peer route n key = record { peer = peer; tenant = route.tenant; session = Some n; key = Some key; auth_refused = false }

abbrev KeptKeyed : Addr → Route → SessionNo → ClientKey → List Round → List Dial → Opening → List Ask → Type 0
KeptKeyed peer route n key rs dials o as_ = WantsKey (client_with_key peer route n key) n dials (Some o) rs as_

kept_key : (peer : Addr) (n : SessionNo) (route : Route) (waited : ℕ) (limits : Limits) (old new : Around) (hub : Port) (words words' : Option (List ℕ)) (word : ℕ) (key : ClientKey) (link : Held) → GivesKeyBy n peer word old.hub hub (Ok key)
    → Grows words words' (word ∷ []) → FindsLink (guest peer route n key) route.params waited limits (one_at old hub) new (Ok link) → Kept route.params n key (KeptKeyed peer route n key) old new words words' link
kept_key peer n route waited limits old new hub words words' word key link (inl asked) drawn finds =
    kept_one route.params n key (KeptBehind (guest peer route n key)) (KeptKeyed peer route n key) old (one_at old hub) new words words' words' (ask (GiveKey n peer word) (Some (Key key))) link
    (asked_key old hub words words' n peer word (Some (Key key)) asked drawn)
    (λ rs ds o as_ b. record { word = word; reply = Some (Key key); more = as_; asks = refl; behind = (refl, b) })
    (kept_found (guest peer route n key) route.params waited limits (one_at old hub) new words' link finds)
kept_key peer n route waited limits old new hub words words' word key link (inr asked) drawn finds =
    kept_one route.params n key (KeptBehind (guest peer route n key)) (KeptKeyed peer route n key) old (one_at old hub) new words words' words' (ask (GiveKey n peer word) (Some NoSession)) link
    (asked_key old hub words words' n peer word (Some NoSession) asked.1 drawn)
    (λ rs ds o as_ b. record { word = word; reply = Some NoSession; more = as_; asks = refl; behind = (ap Some asked.0, b) })
    (kept_found (guest peer route n key) route.params waited limits (one_at old hub) new words' link finds)

record KeptFor (peer : Addr) (n : SessionNo) (route : Route) (old new : Around) (words words' : Option (List ℕ)) (r : Ready) : Type 0 where
  number : r.session ≡ n
  kept : Kept route.params n r.key (KeptKeyed peer route n r.key) old new words words' r.link

kept_answer : (peer : Addr) (n : SessionNo) (route : Route) (waited : ℕ) (limits : Limits) (old new : Around) (hub : Port) (words words' : Option (List ℕ)) (word : ℕ) (r : Ready) (answer : Result ClientKey HubFault) → GivesKeyBy n peer word old.hub hub answer
    → Grows words words' (word ∷ []) → AfterKey peer n route waited limits (one_at old hub) new answer (Ok r) → KeptFor peer n route old new words words' r
kept_answer peer n route waited limits old new hub words words' word r (Ok key) asked drawn (Ok link, finds, is) =
    let same : r ≡ record { session = n; key = key; link = link } = cc in
    subst (λ (x : Ready). KeptFor peer n route old new words words' x) (sym same) (record { number = refl; kept = kept_key peer n route waited limits old new hub words words' word key link asked drawn finds })
kept_answer peer n route waited limits old new hub words words' word r (Ok key) asked drawn (Err e, finds, is) = absurd (cc)
kept_answer peer n route waited limits old new hub words words' word r (Err f) asked drawn h = absurd (let x = h.0 in cc)

-- ---- the admission

abbrev KeptAsked : Addr → Route → SessionNo → ClientKey → List Round → List Dial → Opening → List Ask → Type 0
KeptAsked peer route n key rs dials o as_ = (release : List Ask) → Alone (Release n) release → AsksHub (client_with_key peer route n key) dials (Some o) rs (as_ ++ release)

pub record KeptIn (peer : Addr) (route : Route) (old new : Around) (words words' : Option (List ℕ)) (r : Ready) : Type 0 where
  pub kept : Kept route.params r.session r.key (KeptAsked peer route r.session r.key) old new words words' r.link

kept_admission : (peer : Addr) (route : Route) (waited : ℕ) (limits : Limits) (old new : Around) (hub : Port) (moments words words' : Option (List ℕ)) (now : ℕ) (r : Ready) (a : Admission) → AdmitsAt peer route.tenant now old.hub hub a
    → Grows old.moments moments (now ∷ []) → opening.AfterAdmit peer route waited limits (admit_at old hub moments) new words words' a (Ok r) → KeptIn peer route old new words words' r
kept_admission peer route waited limits old new hub moments words words' now r (admission.Admitted n) asked moment (between, s, same) =
    let k = kept_answer peer n route waited limits (admit_at old hub moments) between s.hub words words' s.gives.word r s.answer s.gives.asked s.gives.drawn s.behind in
    subst (λ (x : Around). KeptIn peer route old x words words' r) (sym same) (record {
      kept = subst (λ (m : SessionNo). Kept route.params m r.key (KeptAsked peer route m r.key) old between words words' r.link) (sym k.number)
          (kept_one route.params n r.key (KeptKeyed peer route n r.key) (KeptAsked peer route n r.key) old (admit_at old hub moments) between words words words' (ask (Admit peer route.tenant now) (Some (Admitted n))) r.link
          (asked_admit old hub moments words peer route now (Some (Admitted n)) asked moment)
          (λ rs ds o as_ b release alone. record {
            now = now;
            reply = Some (Admitted n);
            fitting = tt;
            more = as_ ++ release;
            asks = refl;
            behind = (refl, record { front = as_; back = release; whole = refl; begins = b; ends = alone });
          })
          k.kept);
    })
kept_admission peer route waited limits old new hub moments words words' now r (admission.Refused cause) asked moment h = absurd (let x = h.0 in cc)
kept_admission peer route waited limits old new hub moments words words' now r (admission.Fault f) asked moment h = absurd (let x = h.0 in cc)

pub kept : (peer : Addr) (route : Route) (waited : ℕ) (limits : Limits) (old new : Around) (words words' : Option (List ℕ)) (r : Ready) → LetsIn peer route waited limits old new words words' (Ok r) → KeptIn peer route old new words words' r
kept peer route waited limits old new words words' r l = kept_admission peer route waited limits old new l.hub l.moments words words' l.admits.now r l.admission l.admits.asked l.admits.moment l.behind
