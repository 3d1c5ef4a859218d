-- An opening that came to no session, stage by stage.
use Rattle.std.proofs.Common.{◌≡◌, ◌⊎◌, ℕ, false, List, [], ◌∷◌, ◌++◌, Option, Some, None, Result, Ok, Err, inl, inr, refl, sym, ap, ◌∙◌, subst, append-nil}
use Rattle.pgw_messages.specs.declared.params.Pair.{Pair}
use Rattle.proxy_outside.specs.declared.addr.Addr.{Addr}
use Rattle.proxy_outside.specs.declared.identity.ClientKey.{ClientKey}
use Rattle.proxy_outside.specs.declared.identity.SessionNo.{SessionNo}
use Rattle.proxy_links.specs.Links.{Links, LinkCounts, LinkRecord}
use Rattle.proxy_links.specs.Told.{push, Grows}
use Rattle.proxy_links.specs.declared.dialer.Dial.{Dial}
use Rattle.link_io.proofs.Parts.{push_nil}
use Rattle.proxy_hub.specs.Ports.{Port}
use Rattle.proxy_hub.specs.declared.command.HubCommand.TheVariants.{Admit, GiveKey, Release}
use Rattle.proxy_hub.specs.declared.fault.HubFault.{HubFault}
use Rattle.proxy_hub.specs.declared.reply.HubReply.{HubReply}
use Rattle.proxy_hub.specs.declared.reply.HubReply.TheVariants.{Admitted, No, Key, NoSession}
use Rattle.startup_route.specs.declared.rejection.Rejection.{Rejection}
use Rattle.startup_route.specs.declared.step.Route.{Route}
use Rattle.session_trace.specs.Trace.{Opening}
use Rattle.session_trace.specs.Records.{record_of}
use Rattle.session_asks.specs.Asks.{Ask, ask, Alone, InTurn, Fitting, moments_in, words_in}
use Rattle.session_asks.specs.Admission.{Client, WantsKey, PicksPods, AfterPicks, AsksHub, AfterAdmit}
use Rattle.session_admission.specs.Asking.{AsksOn}
use Rattle.session_admission.specs.Admitting.{AdmitsAt, GivesKeyBy}
use Rattle.session_admission.specs.declared.admission.Admission.{Admission}
use Rattle.session_admission.specs.declared.admission.Admission.TheVariants as admission
use Rattle.session_greeting.specs.declared.greeting.Limits.{Limits}
use Rattle.session_opening.specs.Endings.{fault_ending, rejection_of}
use Rattle.session_opening.specs.Linking.{Around, FindsLink}
use Rattle.session_opening.specs.Opening.{Ready, ended, for_session, Serves, LetsIn, Releases, AfterKey}
use Rattle.session_opening.specs.Opening as opening
use Rattle.session_opening.specs.declared.booking.Guest.{Guest}
use Rattle.session_opening.specs.declared.ending.Ending.{Ending}
use Rattle.session_opening.specs.declared.ending.Ending.TheVariants as why
use Rattle.session_opening.specs.declared.opening.Ended.{Ended}
use Rattle.session_opening.specs.Shown.{IsCounted, client_of}
use Rattle.session_opening.proofs.Grown.{Grown, grown_more, grows_none, grows_same}
use Rattle.session_opening.proofs.Stages.{Before, one_at, asked_key, admit_at, asked_admit}
use Rattle.session_opening.proofs.Linked.{Bytes, Hung}
use Rattle.session_opening.proofs.Missed.{Missed, no_link}

-- the record of the link that was opened, and what the client was given of it
abbrev pub ShowsTrace : ClientKey → List Pair → Option Opening → LinkCounts → List LinkRecord → List ℕ → List ℕ → Ending → Type 0
ShowsTrace key p None counts records taken given e = (records ≡ []) × (given ≡ [])
ShowsTrace key p (Some o) counts records taken given e = (records ≡ record_of o counts (o.packet ++ o.asked) o.got ∷ []) × Bytes key p o e taken given

-- an end: asks that fit, and the bytes on both sides
pub record Shut (p : List Pair) (fits : List Dial → Option Opening → List Ask → Type 0) (old new : Around) (words words' : Option (List ℕ)) (e : Ended) : Type 0 where
  pub asks : List Ask
  pub dials : List Dial
  pub opened : Option Opening
  pub grown : Grown old new words words' asks dials
  pub fitting : fits dials opened asks
  pub key : ClientKey
  pub is_key : (k : ClientKey) → e.key ≡ Some k → key ≡ k
  pub counts : LinkCounts
  pub records : List LinkRecord
  pub taken : List ℕ
  pub given : List ℕ
  pub records_are : new.links.records ≡ push old.links.records records
  pub taken_is : new.client_in.taken ≡ push old.client_in.taken taken
  pub given_is : new.client_out.contents ≡ push old.client_out.contents given
  pub trace : IsCounted old.links new.links → ShowsTrace key p opened counts records taken given e.why
  pub quiet : (x : Rejection) → rejection_of e.why ≡ Some x → (given ≡ []) × (new.client_out.faults ≡ old.client_out.faults)

-- ---- with a key

abbrev pub guest : Addr → Route → SessionNo → ClientKey → Guest
guest peer route n key = record { peer = peer; tenant = route.tenant; session = n; key = key }

abbrev with_key_ends : SessionNo → ClientKey → Ending → Ended
with_key_ends n key e = ended (Some n) (Some key) e

-- the picks and what came behind them
abbrev Behind : Addr → Route → SessionNo → Ended → List Dial → Option Opening → List Ask → Type 0
Behind peer route n e dials opened as_ = InTurn (PicksPods route.tenant dials) (AfterPicks (client_of peer route.tenant e) n opened []) as_

hung_shut : (peer : Addr) (route : Route) (n : SessionNo) (key : ClientKey) (old new : Around) (w : Option (List ℕ)) (e : Ending) → Hung (guest peer route n key) route.params old new e
    → Shut route.params (Behind peer route n (with_key_ends n key e)) old new w w (with_key_ends n key e)
hung_shut peer route n key old new w e h = record {
  asks = h.asks;
  dials = h.dials;
  opened = Some h.o;
  grown = h.grown w;
  fitting = h.fits;
  key = key;
  is_key = λ k is. cc;
  counts = h.counts;
  records = record { number = h.o.number; place = h.place; sent = h.o.packet ++ h.o.asked; got = h.o.got; counts = h.counts } ∷ [];
  taken = h.taken;
  given = h.given;
  records_are = h.records;
  taken_is = h.client_in;
  given_is = h.client_out;
  trace = λ counted.
      (ap (λ place. record { number = h.o.number; place = place; sent = h.o.packet ++ h.o.asked; got = h.o.got; counts = h.counts } ∷ []) (h.there counted), h.bytes);
  quiet = h.quiet;
}

abbrev no_counts_yet : LinkCounts
no_counts_yet = record { tx_faults = 0; rx_faults = 0; waits = 0; ended = false }

missed_shut : (peer : Addr) (route : Route) (n : SessionNo) (key : ClientKey) (old new : Around) (w : Option (List ℕ)) (e : Ending) → Missed (guest peer route n key) old new e
    → Shut route.params (Behind peer route n (with_key_ends n key e)) old new w w (with_key_ends n key e)
missed_shut peer route n key old new w e m = record {
  asks = m.asks;
  dials = m.dials;
  opened = None;
  grown = m.grown w;
  fitting = m.fits;
  key = key;
  is_key = λ k is. cc;
  counts = no_counts_yet;
  records = [];
  taken = [];
  given = [];
  records_are = m.records ∙ sym (push_nil old.links.records);
  taken_is = ap (λ x. x.taken) m.client_in ∙ sym (push_nil old.client_in.taken);
  given_is = ap (λ x. x.contents) m.client_out ∙ sym (push_nil old.client_out.contents);
  trace = λ counted. (refl, refl);
  quiet = λ x is. (refl, ap (λ x. x.faults) m.client_out);
}

found_shut : (peer : Addr) (route : Route) (n : SessionNo) (key : ClientKey) (old new : Around) (w : Option (List ℕ)) (e : Ending) → Hung (guest peer route n key) route.params old new e ⊎ Missed (guest peer route n key) old new e
    → Shut route.params (Behind peer route n (with_key_ends n key e)) old new w w (with_key_ends n key e)
found_shut peer route n key old new w e (inl h) = hung_shut peer route n key old new w e h
found_shut peer route n key old new w e (inr m) = missed_shut peer route n key old new w e m

-- ---- one stage before another

behind_one : (p : List Pair) (fits fits' : List Dial → Option Opening → List Ask → Type 0) (old one new : Around) (w w' w'' : Option (List ℕ)) (a : Ask) (e : Ended) → Before old one w w' a
    → ((ds : List Dial) (o : Option Opening) (as_ : List Ask) → fits ds o as_ → fits' ds o (a ∷ as_)) → Shut p fits one new w' w'' e → Shut p fits' old new w w'' e
behind_one p fits fits' old one new w w' w'' a e b lift s = record {
  asks = a ∷ s.asks;
  dials = s.dials;
  opened = s.opened;
  grown = grown_more old one new w w' w'' (a ∷ []) s.asks [] s.dials b.grown s.grown;
  fitting = lift s.dials s.opened s.asks s.fitting;
  key = s.key;
  is_key = s.is_key;
  counts = s.counts;
  records = s.records;
  taken = s.taken;
  given = s.given;
  records_are = s.records_are ∙ ap (λ (x : Links). push x.records s.records) b.links;
  taken_is = s.taken_is ∙ ap (λ x. push x.taken s.taken) b.client_in;
  given_is = s.given_is ∙ ap (λ x. push x.contents s.given) b.client_out;
  trace = λ counted. s.trace (subst (λ (x : Links). IsCounted x new.links) (sym b.links) counted);
  quiet = λ x is. let q = s.quiet x is in (q.0, q.1 ∙ ap (λ x. x.faults) b.client_out);
}

-- nothing but one ask
only_one : (p : List Pair) (fits : List Dial → Option Opening → List Ask → Type 0) (old new : Around) (w w' : Option (List ℕ)) (a : Ask) (e : Ended) → Before old new w w' a → e.key ≡ None → fits [] None (a ∷ []) → Shut p fits old new w w' e
only_one p fits old new w w' a e b none is = record {
  asks = a ∷ [];
  dials = [];
  opened = None;
  grown = b.grown;
  fitting = is;
  key = record { process = 0; secret = 0 };
  is_key = λ k some. absurd (cc);
  counts = no_counts_yet;
  records = [];
  taken = [];
  given = [];
  records_are = ap (λ (x : Links). x.records) b.links ∙ sym (push_nil old.links.records);
  taken_is = ap (λ x. x.taken) b.client_in ∙ sym (push_nil old.client_in.taken);
  given_is = ap (λ x. x.contents) b.client_out ∙ sym (push_nil old.client_out.contents);
  trace = λ counted. (refl, refl);
  quiet = λ x some. (refl, ap (λ x. x.faults) b.client_out);
}

-- ---- the key

abbrev Keyed : Addr → Route → SessionNo → Ended → List Dial → Option Opening → List Ask → Type 0
Keyed peer route n e dials opened as_ = WantsKey (client_of peer route.tenant e) n dials opened [] as_

-- a key was given, or the one that would have been
got_key : (peer : Addr) (n : SessionNo) (route : Route) (waited : ℕ) (limits : Limits) (old new : Around) (hub : Port) (words words' : Option (List ℕ)) (word : ℕ) (key : ClientKey) (e : Ending) → GivesKeyBy n peer word old.hub hub (Ok key)
    → Grows words words' (word ∷ []) → FindsLink (guest peer route n key) route.params waited limits (one_at old hub) new (Err e)
    → Shut route.params (Keyed peer route n (with_key_ends n key e)) old new words words' (with_key_ends n key e)
got_key peer n route waited limits old new hub words words' word key e (inl asked) drawn finds =
    behind_one route.params (Behind peer route n (with_key_ends n key e)) (Keyed peer route n (with_key_ends n key e)) old (one_at old hub) new words words' words' (ask (GiveKey n peer word) (Some (Key key))) (with_key_ends n key e)
    (asked_key old hub words words' n peer word (Some (Key key)) asked drawn)
    (λ ds o as_ b. record { word = word; reply = Some (Key key); more = as_; asks = refl; behind = (refl, b) })
    (found_shut peer route n key (one_at old hub) new words' e (no_link (guest peer route n key) route.params waited limits (one_at old hub) new e finds))
got_key peer n route waited limits old new hub words words' word key e (inr asked) drawn finds =
    behind_one route.params (Behind peer route n (with_key_ends n key e)) (Keyed peer route n (with_key_ends n key e)) old (one_at old hub) new words words' words' (ask (GiveKey n peer word) (Some NoSession)) (with_key_ends n key e)
    (asked_key old hub words words' n peer word (Some NoSession) asked.1 drawn)
    (λ ds o as_ b. record { word = word; reply = Some NoSession; more = as_; asks = refl; behind = (ap Some asked.0, b) })
    (found_shut peer route n key (one_at old hub) new words' e (no_link (guest peer route n key) route.params waited limits (one_at old hub) new e finds))

record Served (peer : Addr) (n : SessionNo) (route : Route) (old new : Around) (words words' : Option (List ℕ)) (e : Ended) : Type 0 where
  shut : Shut route.params (Keyed peer route n e) old new words words' e
  number : e.session ≡ Some n

by_key : (peer : Addr) (n : SessionNo) (route : Route) (waited : ℕ) (limits : Limits) (old new : Around) (hub : Port) (words words' : Option (List ℕ)) (word : ℕ) (e : Ended) (answer : Result ClientKey HubFault) → GivesKeyBy n peer word old.hub hub answer
    → Grows words words' (word ∷ []) → AfterKey peer n route waited limits (one_at old hub) new answer (Err e) → Served peer n route old new words words' e
by_key peer n route waited limits old new hub words words' word e (Ok key) asked drawn (Ok link, finds, is) = absurd (cc)
by_key peer n route waited limits old new hub words words' word e (Ok key) asked drawn (Err x, finds, is) =
    let same : e ≡ with_key_ends n key x = cc in
    subst (λ (y : Ended). Served peer n route old new words words' y) (sym same) (record { shut = got_key peer n route waited limits old new hub words words' word key x asked drawn finds; number = refl })
by_key peer n route waited limits old new hub words words' word e (Err f) asked drawn (is, same) =
    let ends : e ≡ ended (Some n) None (fault_ending f) = cc in
    subst (λ (y : Ended). Served peer n route old new words words' y) (sym ends)
    (subst (λ (x : Around). Served peer n route old x words words' (ended (Some n) None (fault_ending f))) (sym same) (record {
      shut = only_one route.params (Keyed peer route n (ended (Some n) None (fault_ending f))) old (one_at old hub) words words' (ask (GiveKey n peer word) None) (ended (Some n) None (fault_ending f))
          (asked_key old hub words words' n peer word None asked.0 drawn) refl
          (record { word = word; reply = None; more = []; asks = refl; behind = (refl, record { none = refl; unopened = refl; no_round = refl }, refl) });
      number = refl;
    }))

served : (peer : Addr) (n : SessionNo) (route : Route) (waited : ℕ) (limits : Limits) (old new : Around) (words words' : Option (List ℕ)) (e : Ended) → Serves peer n route waited limits old new words words' (Err e) → Served peer n route old new words words' e
served peer n route waited limits old new words words' e s = by_key peer n route waited limits old new s.hub words words' s.gives.word e s.answer s.gives.asked s.gives.drawn s.behind

-- ---- the release

released : (p : List Pair) (before : List Dial → Option Opening → List Ask → Type 0) (n : SessionNo) (old between new : Around) (w w' : Option (List ℕ)) (e : Ended) → Shut p before old between w w' e → Releases n between new (Err e)
    → Shut p (λ ds o as_. InTurn (before ds o) (Alone (Release n)) as_) old new w w' e
released p before n old between new w w' e s (asks_, others) = record {
  asks = s.asks ++ asks_.asks;
  dials = s.dials;
  opened = s.opened;
  grown = subst (λ (v : List Dial). Grown old new w w' (s.asks ++ asks_.asks) v) (append-nil s.dials) (grown_more old between new w w' w' s.asks asks_.asks s.dials [] s.grown (record {
    asked = asks_.asked;
    dialed = grows_same between.links.dials new.links.dials (ap (λ (x : Around). x.links.dials) others);
    moments = subst (λ (as_ : List Ask). Grows between.moments new.moments (moments_in as_)) (sym asks_.fitting.alone) (grows_same between.moments new.moments (ap (λ (x : Around). x.moments) others));
    drawn = subst (λ (as_ : List Ask). Grows w' w' (words_in as_)) (sym asks_.fitting.alone) (grows_none w');
  }));
  fitting = record { front = s.asks; back = asks_.asks; whole = refl; begins = s.fitting; ends = asks_.fitting };
  key = s.key;
  is_key = s.is_key;
  counts = s.counts;
  records = s.records;
  taken = s.taken;
  given = s.given;
  records_are = ap (λ (x : Around). x.links.records) others ∙ s.records_are;
  taken_is = ap (λ (x : Around). x.client_in.taken) others ∙ s.taken_is;
  given_is = ap (λ (x : Around). x.client_out.contents) others ∙ s.given_is;
  trace = λ counted. s.trace (subst (λ (x : Links). IsCounted old.links x) (ap (λ (x : Around). x.links) others) counted);
  quiet = λ x is. let q = s.quiet x is in (q.0, ap (λ (x : Around). x.client_out.faults) others ∙ q.1);
}

-- ---- the admission

abbrev pub Asked : Addr → Route → Ended → List Dial → Option Opening → List Ask → Type 0
Asked peer route e dials opened as_ = AsksHub (client_of peer route.tenant e) dials opened [] as_

-- who isn't let in
turned_away : (peer : Addr) (route : Route) (old new : Around) (hub : Port) (moments words words' : Option (List ℕ)) (now : ℕ) (reply : Option HubReply) (e : Ended) (x : Ending) → AsksOn old.hub hub (ask (Admit peer route.tenant now) reply ∷ [])
    → Grows old.moments moments (now ∷ []) → Fitting (Admit peer route.tenant now) reply → ((c : Client) → c.session ≡ None → c.key ≡ None → AfterAdmit c [] None [] reply [])
    → e ≡ ended None None x → new ≡ admit_at old hub moments → words' ≡ words → Shut route.params (Asked peer route e) old new words words' e
turned_away peer route old new hub moments words words' now reply e x asked moment fitting behind is same drawn =
    subst (λ (y : Ended). Shut route.params (Asked peer route y) old new words words' y) (sym is)
    (subst (λ (a : Around). Shut route.params (Asked peer route (ended None None x)) old a words words' (ended None None x)) (sym same)
    (subst (λ (w : Option (List ℕ)). Shut route.params (Asked peer route (ended None None x)) old (admit_at old hub moments) words w (ended None None x)) (sym drawn)
    (only_one route.params (Asked peer route (ended None None x)) old (admit_at old hub moments) words words (ask (Admit peer route.tenant now) reply) (ended None None x)
    (asked_admit old hub moments words peer route now reply asked moment) refl
    (record { now = now; reply = reply; fitting = fitting; more = []; asks = refl; behind = behind (client_of peer route.tenant (ended None None x)) refl refl }))))

by_admission : (peer : Addr) (route : Route) (waited : ℕ) (limits : Limits) (old new : Around) (hub : Port) (moments words words' : Option (List ℕ)) (now : ℕ) (e : Ended) (a : Admission) → AdmitsAt peer route.tenant now old.hub hub a
    → Grows old.moments moments (now ∷ []) → opening.AfterAdmit peer route waited limits (admit_at old hub moments) new words words' a (Err e) → Shut route.params (Asked peer route e) old new words words' e
by_admission peer route waited limits old new hub moments words words' now e (admission.Admitted n) asked moment (between, serves, releases) =
    let s = served peer n route waited limits (admit_at old hub moments) between words words' e serves in
    behind_one route.params (λ ds o as_. InTurn (Keyed peer route n e ds o) (Alone (Release n)) as_) (Asked peer route e) old (admit_at old hub moments) new words words words' (ask (Admit peer route.tenant now) (Some (Admitted n))) e
    (asked_admit old hub moments words peer route now (Some (Admitted n)) asked moment)
    (λ ds o as_ b. record { now = now; reply = Some (Admitted n); fitting = tt; more = as_; asks = refl; behind = (s.number, b) })
    (released route.params (Keyed peer route n e) n (admit_at old hub moments) between new words words' e s.shut releases)
by_admission peer route waited limits old new hub moments words words' now e (admission.Refused cause) asked moment (is, same, drawn) =
    turned_away peer route old new hub moments words words' now (Some (No cause)) e (why.Refused cause) asked moment tt
    (λ c a b. (a, b, record { none = refl; unopened = refl; no_round = refl }, refl)) (let x = is in cc) same drawn
by_admission peer route waited limits old new hub moments words words' now e (admission.Fault f) asked moment (is, same, drawn) =
    turned_away peer route old new hub moments words words' now None e (fault_ending f) asked.0 moment tt
    (λ c a b. (a, b, record { none = refl; unopened = refl; no_round = refl }, refl)) (let x = is in cc) same drawn

pub shut : (peer : Addr) (route : Route) (waited : ℕ) (limits : Limits) (old new : Around) (words words' : Option (List ℕ)) (e : Ended) → LetsIn peer route waited limits old new words words' (Err e) → Shut route.params (Asked peer route e) old new words words' e
shut peer route waited limits old new words words' e l = by_admission peer route waited limits old new l.hub l.moments words words' l.admits.now e l.admission l.admits.asked l.admits.moment l.behind
