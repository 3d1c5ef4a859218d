-- The link of an opening, from its dial to where it is hung up or kept.
use Rattle.std.proofs.Common.{◌≡◌, ◌⊎◌, ℕ, ◌+◌, ◌≤◌, true, false, List, [], ◌∷◌, ◌++◌, Option, Some, None, Result, Ok, Err, inl, inr, refl, sym, ap, ◌∙◌, subst, arith, append-nil}
use Rattle.pgw_frames.specs.Frames.{Begins}
use Rattle.pgw_messages.specs.declared.params.Pair.{Pair}
use Rattle.pgw_messages.specs.declared.pod_key.PodKey.{PodKey}
use Rattle.proxy_outside.specs.Reading.{Origin}
use Rattle.proxy_outside.specs.Writing.{Target}
use Rattle.proxy_outside.specs.declared.identity.ClientKey.{ClientKey}
use Rattle.proxy_outside.specs.declared.place.Place.{Place}
use Rattle.proxy_links.specs.Links.{Links, LinkCounts, LinkRecord, Came, HangsUp, counts_of, record_of, hung}
use Rattle.proxy_links.specs.Told.{push, blank}
use Rattle.proxy_links.specs.declared.dialer.Dial.{Dial}
use Rattle.link_io.proofs.Parts.{push_nil}
use Rattle.proxy_hub.specs.Ports.{Port}
use Rattle.proxy_hub.specs.declared.command.HubCommand.TheVariants.{Assign}
use Rattle.proxy_hub.specs.declared.fault.HubFault.{HubFault}
use Rattle.proxy_hub.specs.declared.fault.HubFault.TheVariants as fault
use Rattle.proxy_hub.specs.declared.reply.HubReply.{HubReply}
use Rattle.proxy_outside.specs.declared.identity.SessionNo.{SessionNo}
use Rattle.pgw_messages.specs.Startup.{startup_packet}
use Rattle.startup_route.specs.declared.rejection.Rejection.{Rejection}
use Rattle.session_trace.specs.Trace.{Opening}
use Rattle.session_trace.specs.Forwarded.{EndsInTerminate}
use Rattle.session_trace.specs.Journey.{keyed}
use Rattle.session_trace.specs.Openings.{OpensIn}
use Rattle.session_trace.specs.Relayed.{UpToFault}
use Rattle.session_asks.specs.Asks.{Ask, ask, InTurn, words_in}
use Rattle.session_asks.specs.Admission.{PicksPods, AfterPicks}
use Rattle.session_admission.specs.Asking.{AsksOn}
use Rattle.session_admission.specs.Dialing.{FailedDials}
use Rattle.session_greeting.specs.Greeting.{halves}
use Rattle.session_greeting.specs.declared.greeting.Limits.{Limits}
use Rattle.session_greeting.specs.declared.login.Greeted.{Greeted}
use Rattle.session_greeting.specs.declared.login.Greeted.TheVariants as came
use Rattle.session_opening.specs.Endings.{fault_ending, outcome, rejection_of}
use Rattle.session_opening.specs.Linking.{Around, Held, Assigned, Unassigned, Placed, Settles}
use Rattle.session_opening.specs.declared.booking.Guest.{Guest}
use Rattle.session_opening.specs.declared.ending.Ending.{Ending}
use Rattle.session_opening.specs.declared.ending.Ending.TheVariants as why
use Rattle.session_opening.specs.Shown.{IsCounted, is_auth_refused, is_left}
use Rattle.session_greeting.proofs.Went.{EndsAs, begins_none}
use Rattle.session_opening.proofs.Began.{began}
use Rattle.session_opening.proofs.Endings.{up_to_fault}
use Rattle.session_opening.proofs.Grown.{Grown, then_came, grown_more, grown_quiet, still_grown, picks_still, grows_none, grows_same, grows_as}
use Rattle.session_opening.proofs.Placed.{hung_there}
use Rattle.session_opening.proofs.Books.{Booked, guest_client, ends_early}

-- ---- a link that was hung up

-- what its opening shows
pub record Bytes (key : ClientKey) (p : List Pair) (o : Opening) (e : Ending) (taken given : List ℕ) : Type 0 where
  pub opens : OpensIn p o
  pub forwards : Begins o.asked taken
  pub passes : Begins given (keyed key o.got)
  pub auth : is_auth_refused e ≡ true → UpToFault key o.got given
  pub bye : is_left e ≡ true → (o.asked ≡ taken) ⊎ EndsInTerminate o.asked

pub record Hung (g : Guest) (p : List Pair) (old new : Around) (e : Ending) : Type 0 where
  pub o : Opening
  pub asks : List Ask
  pub dials : List Dial
  pub counts : LinkCounts
  pub place : Place
  pub taken : List ℕ
  pub given : List ℕ
  pub grown : (w : Option (List ℕ)) → Grown old new w w asks dials
  pub fits : InTurn (PicksPods g.tenant dials) (AfterPicks (guest_client g (is_auth_refused e)) g.session (Some o) []) asks
  pub records : new.links.records ≡ push old.links.records (record_of o.number place counts (o.packet ++ o.asked) o.got ∷ [])
  pub there : IsCounted old.links new.links → place ≡ o.place
  pub client_in : new.client_in.taken ≡ push old.client_in.taken taken
  pub client_out : new.client_out.contents ≡ push old.client_out.contents given
  pub bytes : Bytes g.key p o e taken given
  pub quiet : (x : Rejection) → rejection_of e ≡ Some x → (given ≡ []) × (new.client_out.faults ≡ old.client_out.faults)

hung_new : (o : Option (List LinkRecord)) (f : List ℕ → List ℕ → LinkRecord) (sent_ got : List ℕ) → hung o f (push (blank o) sent_) (push (blank o) got) ≡ push o (f sent_ got ∷ [])
hung_new None f sent_ got = refl
hung_new (Some rs) f sent_ got = refl

-- the record of a link that was hung up
hung_record : (links new : Links) (t : Target) (r : Origin) (sent_ got : List ℕ) (h : HangsUp links new t r) → t.contents ≡ push (blank links.records) sent_ → r.taken ≡ push (blank links.records) got
    → new.records ≡ push links.records (record_of r.link h.place (counts_of t r) sent_ got ∷ [])
hung_record links new t r sent_ got h a b =
    ap (λ (x : Links). x.records) h.others
    ∙ ap (λ (x : Option (List ℕ)). hung links.records (record_of r.link h.place (counts_of t r)) x r.taken) a
    ∙ ap (λ (x : Option (List ℕ)). hung links.records (record_of r.link h.place (counts_of t r)) (push (blank links.records) sent_) x) b
    ∙ hung_new links.records (record_of r.link h.place (counts_of t r)) sent_ got

-- a new link tells as much as the records do
pub record Fresh (old links : Links) (tx : Target) (rx : Origin) : Type 0 where
  pub tx_blank : tx.contents ≡ blank old.records
  pub rx_blank : rx.taken ≡ blank old.records
  pub same : tx.link ≡ rx.link
  pub kept : links.records ≡ old.records
  pub is_open : 1 ≤ links.live

fresh : (old between links : Links) (ds : List Dial) (place : Place) (tx : Target) (rx : Origin) → FailedDials old between ds → Came between links place tx rx → Fresh old links tx rx
fresh old between links ds place tx rx failed c =
    let t = then_came old between links ds place tx rx failed c in
    let kept : between.records ≡ old.records = sym (ap (λ (x : Links). x.records) c.others) ∙ t.records in
    record {
      tx_blank = ap (λ (x : Target). x.contents) c.tx ∙ ap blank kept;
      rx_blank = ap (λ (x : Origin). x.taken) c.rx ∙ ap blank kept;
      same = ap (λ (x : Target). x.link) c.tx ∙ sym (ap (λ (x : Origin). x.link) c.rx);
      kept = t.records;
      is_open = let e = ap (λ (x : Links). x.live) c.others in omega (arith, e);
    }

-- ---- stages

-- the pods that were picked up to a link, and the links then
pub record Reached (g : Guest) (old one : Around) (place : Place) (tx : Target) (rx : Origin) : Type 0 where
  pub asks : List Ask
  pub dials : List Dial
  pub picks : PicksPods g.tenant dials asks
  pub grown : (w : Option (List ℕ)) → Grown old one w w asks dials
  pub fresh_there : Fresh old.links one.links tx rx
  pub there : (new : Links) (t' : Target) (r' : Origin) (h : HangsUp one.links new t' r') → r'.link ≡ rx.link → IsCounted old.links new → h.place ≡ place

abbrev pub reached_at : Around → Port → Links → Around
reached_at old hub links = record { client_in = old.client_in; client_out = old.client_out; hub = hub; links = links; moments = old.moments }

pub reached : (g : Guest) (p : List Pair) (waited : ℕ) (limits : Limits) (old new : Around) (r : Result Held Ending) (f : Placed g p waited limits old new r) → Reached g old (reached_at old f.hub f.links) f.place f.tx f.rx
reached g p waited limits old new r f =
    let ds : List Dial = f.reaches.dials ++ record { place = f.place; came = true } ∷ [] in
    let t = then_came old.links f.reaches.between f.links f.reaches.dials f.place f.tx f.rx f.reaches.before f.reaches.came in
    record {
      asks = f.reaches.asks;
      dials = ds;
      picks = record { picks = f.reaches.picks; few = let n = f.reaches.few in omega arith };
      grown = λ w. still_grown old (reached_at old f.hub f.links) w f.reaches.asks ds (picks_still g.tenant [] ds f.reaches.asks f.reaches.picks) f.reaches.asked t.dialed refl;
      fresh_there = fresh old.links f.reaches.between f.links f.reaches.dials f.place f.tx f.rx f.reaches.before f.reaches.came;
      there = λ new t' r' h same counted. hung_there old.links f.reaches.between f.links new f.reaches.dials f.place f.tx t' f.rx r' h f.reaches.before f.reaches.came same counted;
    }

-- ---- the port refused to ask for the place

never_auth : (f : HubFault) → is_auth_refused (fault_ending f) ≡ false
never_auth fault.NoMemory = refl
never_auth (fault.JournalFull most) = refl

never_left : (f : HubFault) → is_left (fault_ending f) ≡ false
never_left fault.NoMemory = refl
never_left (fault.JournalFull most) = refl

no_bytes : (key : ClientKey) (p : List Pair) (o : Opening) (f : HubFault) → o.packet ≡ [] → o.asked ≡ [] → Bytes key p o (fault_ending f) [] []
no_bytes key p o f no_packet none = record {
  opens = inr (subst (λ (v : List ℕ). Begins v (startup_packet p)) (sym no_packet) (begins_none (startup_packet p)), none);
  forwards = subst (λ (v : List ℕ). Begins v []) (sym none) (begins_none []);
  passes = begins_none (keyed key o.got);
  auth = λ e. absurd (let n = never_auth f in cc);
  bye = λ e. inl none;
}

unassigned : (g : Guest) (p : List Pair) (old new : Around) (e : Ending) (hub : Port) (links : Links) (place : Place) (tx : Target) (rx : Origin) → Reached g old (reached_at old hub links) place tx rx
    → Unassigned g place tx rx (reached_at old hub links) new (Err e) → Hung g p old new e
unassigned g p old new e hub links place tx rx f u =
    let one : Around = reached_at old hub links in
    let o : Opening = record { number = rx.link; place = place; packet = []; asked = []; got = [] } in
    let is : e ≡ fault_ending u.fault = (let x = u.is in cc) in
    let blank_is : blank old.links.records ≡ push (blank links.records) [] = ap blank (sym f.fresh_there.kept) ∙ sym (push_nil (blank links.records)) in
    record {
      o = o;
      asks = f.asks ++ ask (Assign g.session place) None ∷ [];
      dials = f.dials;
      counts = counts_of tx rx;
      place = u.hung.place;
      taken = [];
      given = [];
      grown = λ w. grown_quiet old one new w w w f.asks (ask (Assign g.session place) None ∷ []) f.dials (f.grown w)
          (still_grown one new w (ask (Assign g.session place) None ∷ []) [] (record { moments = refl; words = refl }) u.asked
          (grows_same links.dials new.links.dials (ap (λ (x : Links). x.dials) u.hung.others)) (ap (λ (x : Around). x.moments) u.others));
      fits = record {
        front = f.asks;
        back = ask (Assign g.session place) None ∷ [];
        whole = refl;
        begins = f.picks;
        ends = record { reply = None; fitting = tt; more = []; asks = refl; behind = (refl, record { packet = refl; asked = refl; got = refl }, refl) };
      };
      records =
          hung_record links new.links tx rx [] [] u.hung (f.fresh_there.tx_blank ∙ blank_is) (f.fresh_there.rx_blank ∙ blank_is)
          ∙ ap (λ (v : Option (List LinkRecord)). push v (record_of rx.link u.hung.place (counts_of tx rx) [] [] ∷ [])) f.fresh_there.kept;
      there = λ counted. f.there new.links tx rx u.hung refl counted;
      client_in = ap (λ (x : Around). x.client_in.taken) u.others ∙ sym (push_nil old.client_in.taken);
      client_out = ap (λ (x : Around). x.client_out.contents) u.others ∙ sym (push_nil old.client_out.contents);
      bytes = subst (λ (x : Ending). Bytes g.key p o x [] []) (sym is) (no_bytes g.key p o u.fault refl refl);
      quiet = λ x y. (refl, ap (λ (z : Around). z.client_out.faults) u.others);
    }

-- ---- a greeting that led to no session

record Settled (greeted : Greeted) (e : Ending) (tx : Target) (rx : Origin) (old new : Links) : Type 0 where
  is : outcome greeted ≡ Err e
  hung_up : HangsUp old new tx rx

settled : (greeted : Greeted) (e : Ending) (place : Place) (tx : Target) (rx : Origin) (old new : Links) (x : Result (Option PodKey) Ending) → outcome greeted ≡ x → Settles place tx rx x old new (Err e) → Settled greeted e tx rx old new
settled greeted e place tx rx old new (Ok key) is h = absurd (let x = h.0 in cc)
settled greeted e place tx rx old new (Err f) is h = let same : f ≡ e = (let x = h.0 in cc) in record { is = is ∙ ap Err same; hung_up = h.1 }

-- what the end says of the bytes
ends_bytes : (key : ClientKey) (p : List Pair) (o : Opening) (greeted : Greeted) (e : Ending) (taken given : List ℕ) → outcome greeted ≡ Err e → OpensIn p o → Begins o.asked taken → Begins given (keyed key o.got)
    → EndsAs greeted key o.asked o.got taken given → Bytes key p o e taken given
ends_bytes key p o (came.Ready pod_key waits) e taken given is opens forwards passes ends = absurd (cc)
ends_bytes key p o (came.Refused fields) e taken given is opens forwards passes ends =
    let same : why.AuthRefused fields ≡ e = cc in
    subst (λ (x : Ending). Bytes key p o x taken given) same (record { opens = opens; forwards = forwards; passes = passes; auth = λ x. up_to_fault key fields o.got given ends; bye = λ x. absurd (cc) })
ends_bytes key p o came.Left e taken given is opens forwards passes ends =
    let same : why.Left ≡ e = cc in
    subst (λ (x : Ending). Bytes key p o x taken given) same (record { opens = opens; forwards = forwards; passes = passes; auth = λ x. absurd (cc); bye = λ x. inl ends.all })
ends_bytes key p o (came.PodCut c) e taken given is opens forwards passes ends =
    let same : why.PodCut c ≡ e = cc in
    subst (λ (x : Ending). Bytes key p o x taken given) same (record { opens = opens; forwards = forwards; passes = passes; auth = λ x. absurd (cc); bye = λ x. absurd (cc) })
ends_bytes key p o (came.ClientCut c) e taken given is opens forwards passes ends =
    let same : why.ClientCut c ≡ e = cc in
    subst (λ (x : Ending). Bytes key p o x taken given) same (record { opens = opens; forwards = forwards; passes = passes; auth = λ x. absurd (cc); bye = λ x. absurd (cc) })
ends_bytes key p o came.NoMemory e taken given is opens forwards passes ends =
    let same : why.NoMemory ≡ e = cc in
    subst (λ (x : Ending). Bytes key p o x taken given) same (record { opens = opens; forwards = forwards; passes = passes; auth = λ x. absurd (cc); bye = λ x. absurd (cc) })

-- behind a greeting nothing is told
never_told : (greeted : Greeted) (e : Ending) (x : Rejection) → outcome greeted ≡ Err e → rejection_of e ≡ Some x → ⊥
never_told (came.Ready key waits) e x is told = cc
never_told (came.Refused fields) e x is told = let same : why.AuthRefused fields ≡ e = cc in let none : rejection_of e ≡ None = ap rejection_of (sym same) in cc
never_told came.Left e x is told = let same : why.Left ≡ e = cc in let none : rejection_of e ≡ None = ap rejection_of (sym same) in cc
never_told (came.PodCut c) e x is told = let same : why.PodCut c ≡ e = cc in let none : rejection_of e ≡ None = ap rejection_of (sym same) in cc
never_told (came.ClientCut c) e x is told = let same : why.ClientCut c ≡ e = cc in let none : rejection_of e ≡ None = ap rejection_of (sym same) in cc
never_told came.NoMemory e x is told = let same : why.NoMemory ≡ e = cc in let none : rejection_of e ≡ None = ap rejection_of (sym same) in cc

-- asks that were booked, and no dial
pub booked_grown : (fits : List Ask → Type 0) (old new : Around) (w : Option (List ℕ)) (b : Booked fits old.hub new.hub old.moments new.moments) → new.links.dials ≡ old.links.dials → Grown old new w w b.asks []
booked_grown fits old new w b same = record {
  asked = b.asked;
  dialed = grows_same old.links.dials new.links.dials same;
  moments = b.moments;
  drawn = grows_as w w [] (words_in b.asks) (sym b.no_words) (grows_none w);
}

abbrev pub assigned_at : Around → Port → Around
assigned_at old hub = record { client_in = old.client_in; client_out = old.client_out; hub = hub; links = old.links; moments = old.moments }

-- the ask for the place, and what was booked behind it
pub assign_grown : (fits : List Ask → Type 0) (one new : Around) (w : Option (List ℕ)) (hub : Port) (n : SessionNo) (place : Place) (reply : HubReply) → AsksOn one.hub hub (ask (Assign n place) (Some reply) ∷ [])
    → (b : Booked fits hub new.hub one.moments new.moments) → new.links.dials ≡ one.links.dials → Grown one new w w (ask (Assign n place) (Some reply) ∷ b.asks) []
assign_grown fits one new w hub n place reply asked b same =
    grown_more one (assigned_at one hub) new w w w (ask (Assign n place) (Some reply) ∷ []) b.asks [] []
    (still_grown one (assigned_at one hub) w (ask (Assign n place) (Some reply) ∷ []) [] (record { moments = refl; words = refl }) asked (grows_none one.links.dials) refl)
    (booked_grown fits (assigned_at one hub) new w b same)

assigned : (g : Guest) (p : List Pair) (waited : ℕ) (limits : Limits) (old new : Around) (e : Ending) (hub : Port) (links : Links) (place : Place) (tx : Target) (rx : Origin) → Reached g old (reached_at old hub links) place tx rx
    → Assigned g p waited limits place tx rx (reached_at old hub links) new (Err e) → Hung g p old new e
assigned g p waited limits old new e hub links place tx rx f a =
    let one : Around = reached_at old hub links in
    let s = a.serves in
    let b = began p g.key limits waited (halves old.client_in old.client_out tx rx) (halves new.client_in new.client_out s.tx_then s.rx_then) s.greeted s.begins in
    let ended = settled s.greeted e place s.tx_then s.rx_then links new.links (outcome s.greeted) refl s.settles in
    let o : Opening = record { number = s.rx_then.link; place = place; packet = b.packet; asked = b.asked; got = b.got } in
    let booked = ends_early g o s.greeted e b.asked b.taken b.given a.hub new.hub old.moments new.moments ended.is b.ends s.books in
    let number : s.rx_then.link ≡ rx.link = s.rx_same in
    let blank_is : blank old.links.records ≡ blank links.records = ap blank (sym f.fresh_there.kept) in
    record {
      o = o;
      asks = f.asks ++ ask (Assign g.session place) (Some a.reply) ∷ booked.asks;
      dials = f.dials;
      counts = counts_of s.tx_then s.rx_then;
      place = ended.hung_up.place;
      taken = b.taken;
      given = b.given;
      grown = λ w. grown_quiet old one new w w w f.asks (ask (Assign g.session place) (Some a.reply) ∷ booked.asks) f.dials (f.grown w)
          (assign_grown _ one new w a.hub g.session place a.reply a.asked booked (ap (λ (x : Links). x.dials) ended.hung_up.others));
      fits = record {
        front = f.asks;
        back = ask (Assign g.session place) (Some a.reply) ∷ booked.asks;
        whole = refl;
        begins = f.picks;
        ends = record {
          reply = Some a.reply;
          fitting = a.suits;
          more = booked.asks;
          asks = refl;
          behind = record { front = booked.asks; back = []; whole = sym (append-nil booked.asks); begins = booked.fitting; ends = refl };
        };
      };
      records =
          hung_record links new.links s.tx_then s.rx_then (b.packet ++ b.asked) b.got ended.hung_up
          (b.tx ∙ ap (λ (v : Option (List ℕ)). push v (b.packet ++ b.asked)) (f.fresh_there.tx_blank ∙ blank_is))
          (b.rx ∙ ap (λ (v : Option (List ℕ)). push v b.got) (f.fresh_there.rx_blank ∙ blank_is))
          ∙ ap (λ (v : Option (List LinkRecord)). push v (record_of s.rx_then.link ended.hung_up.place (counts_of s.tx_then s.rx_then) (b.packet ++ b.asked) b.got ∷ [])) f.fresh_there.kept;
      there = λ counted. f.there new.links s.tx_then s.rx_then ended.hung_up number counted;
      client_in = b.client_in;
      client_out = b.client_out;
      bytes = ends_bytes g.key p o s.greeted e b.taken b.given ended.is b.opens b.forwards b.passes b.ends;
      quiet = λ x y. absurd (never_told s.greeted e x ended.is y);
    }

pub hung_by : (g : Guest) (p : List Pair) (waited : ℕ) (limits : Limits) (old new : Around) (e : Ending) → Placed g p waited limits old new (Err e) → Hung g p old new e
hung_by g p waited limits old new e f =
    let at = reached g p waited limits old new (Err e) f in
    elim f.takes [
      | inl a ↦ assigned g p waited limits old new e f.hub f.links f.place f.tx f.rx at a
      | inr u ↦ unassigned g p old new e f.hub f.links f.place f.tx f.rx at u
    ]
