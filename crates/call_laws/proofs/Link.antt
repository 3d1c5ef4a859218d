-- The link of a session that is ready, and that the client's sink tells no fewer faults behind its opening.
use Rattle.std.proofs.Common.{◌≡◌, ◌≤◌, ℕ, List, Option, Result, Ok, Err, inl, inr, sym, ap, subst, ◌∙◌}
use Rattle.pgw_messages.specs.declared.params.Pair.{Pair}
use Rattle.pgw_messages.specs.declared.pod_key.PodKey.{PodKey}
use Rattle.proxy_outside.specs.Reading.{Origin}
use Rattle.proxy_outside.specs.Writing.{Target}
use Rattle.proxy_outside.specs.declared.addr.Addr.{Addr}
use Rattle.proxy_outside.specs.declared.identity.ClientKey.{ClientKey}
use Rattle.proxy_outside.specs.declared.identity.SessionNo.{SessionNo}
use Rattle.proxy_outside.specs.declared.place.Place.{Place}
use Rattle.proxy_hub.specs.Ports.{Port}
use Rattle.proxy_hub.specs.declared.fault.HubFault.{HubFault}
use Rattle.proxy_links.specs.Links.{Links, Came}
use Rattle.proxy_links.specs.declared.dialer.Dial.{Dial}
use Rattle.startup_route.specs.declared.step.Route.{Route}
use Rattle.session_admission.specs.Dialing.{FailedDials}
use Rattle.session_admission.specs.declared.admission.Admission.{Admission}
use Rattle.session_admission.specs.declared.admission.Admission.TheVariants as admission
use Rattle.session_greeting.specs.Greeting.{halves}
use Rattle.session_greeting.specs.declared.greeting.Limits.{Limits}
use Rattle.session_opening.specs.Endings.{outcome}
use Rattle.session_opening.specs.Linking.{Around, Held, Settles, Assigned, Placed, FindsLink}
use Rattle.session_opening.specs.Opening.{Ready, Opens, Closes, LetsIn, AfterKey, AfterAdmit}
use Rattle.session_opening.specs.declared.ending.Ending.{Ending}
use Rattle.session_opening.specs.declared.opening.Ended.{Ended}
use Rattle.session_opening.proofs.Shut.{guest}
use Rattle.session_opening.proofs.Sinks.{sink_faults}

-- ---- the link

-- dials that failed, and the one that led to the link
pub record Linked (old new : Around) (link : Held) : Type 0 where
  pub between : Links
  pub dials : List Dial
  pub failed : FailedDials old.links between dials
  pub tx : Target
  pub rx : Origin
  pub came : Came between new.links link.place tx rx
  pub number : link.rx.link ≡ rx.link
  pub faults : old.client_out.faults ≤ new.client_out.faults

record Kept (place : Place) (rx : Origin) (link : Held) (old new : Links) : Type 0 where
  there : place ≡ link.place
  number : link.rx.link ≡ rx.link
  links : new ≡ old

kept : (place : Place) (tx : Target) (rx : Origin) (x : Result (Option PodKey) Ending) (old new : Links) (link : Held) → Settles place tx rx x old new (Ok link) → Kept place rx link old new
kept place tx rx (Ok key) old new link h =
    let same : link ≡ record { place = place; tx = tx; rx = rx; key = key } = (let x = h.0 in cc) in
    record { there = sym (ap (λ (l : Held). l.place) same); number = ap (λ (l : Held). l.rx.link) same; links = h.1 }
kept place tx rx (Err e) old new link h = absurd (let x = h.0 in cc)

module _ (peer : Addr) (route : Route) (n : SessionNo) (key : ClientKey) (p : List Pair) (waited : ℕ) (limits : Limits) (old new : Around) (link : Held) where
  assigned : (f : Placed (guest peer route n key) p waited limits old new (Ok link)) → Assigned (guest peer route n key) p waited limits f.place f.tx f.rx (record old { hub = f.hub; links = f.links }) new (Ok link) → Linked old new link
  assigned f a =
      let s = a.serves in
      let k = kept f.place s.tx_then s.rx_then (outcome s.greeted) f.links new.links link s.settles in
      record {
        between = f.reaches.between;
        dials = f.reaches.dials;
        failed = f.reaches.before;
        tx = f.tx;
        rx = f.rx;
        came = subst (λ (x : Links). Came f.reaches.between x link.place f.tx f.rx) (sym k.links) (subst (λ (x : Place). Came f.reaches.between f.links x f.tx f.rx) k.there f.reaches.came);
        number = k.number ∙ s.rx_same;
        faults = sink_faults p key limits waited (halves old.client_in old.client_out f.tx f.rx) (halves new.client_in new.client_out s.tx_then s.rx_then) s.greeted s.begins;
      }

  found : FindsLink (guest peer route n key) p waited limits old new (Ok link) → Linked old new link
  found (inl f) = elim f.takes [ inl a ↦ assigned f a | inr u ↦ absurd (let x = u.is in cc) ]
  found (inr m) = absurd (let x = m.is in cc)

-- ---- stage by stage

keyed : (peer : Addr) (n : SessionNo) (route : Route) (waited : ℕ) (limits : Limits) (old new : Around) (answer : Result ClientKey HubFault) (r : Ready) → AfterKey peer n route waited limits old new answer (Ok r) → Linked old new r.link
keyed peer n route waited limits old new (Ok key) r (Ok link, finds, is) =
    let same : r ≡ record { session = n; key = key; link = link } = cc in
    subst (λ (x : Ready). Linked old new x.link) (sym same) (found peer route n key route.params waited limits old new link finds)
keyed peer n route waited limits old new (Ok key) r (Err e, finds, is) = absurd (cc)
keyed peer n route waited limits old new (Err f) r h = absurd (let x = h.0 in cc)

-- the hub, the clock and the dialer alone were asked before
earlier : (old new : Around) (hub : Port) (moments : Option (List ℕ)) (link : Held) → Linked (record old { hub = hub; moments = moments }) new link → Linked old new link
earlier old new hub moments link l = record { between = l.between; dials = l.dials; failed = l.failed; tx = l.tx; rx = l.rx; came = l.came; number = l.number; faults = l.faults }

admitted : (peer : Addr) (route : Route) (waited : ℕ) (limits : Limits) (old new : Around) (words words' : Option (List ℕ)) (a : Admission) (r : Ready) → AfterAdmit peer route waited limits old new words words' a (Ok r) → Linked old new r.link
admitted peer route waited limits old new words words' (admission.Admitted n) r (between, s, same) =
    let l = keyed peer n route waited limits (record old { hub = s.hub }) between s.answer r s.behind in
    subst (λ (x : Around). Linked old x r.link) (sym same) (earlier old between s.hub old.moments r.link l)
admitted peer route waited limits old new words words' (admission.Refused cause) r h = absurd (let x = h.0 in cc)
admitted peer route waited limits old new words words' (admission.Fault f) r h = absurd (let x = h.0 in cc)

pub linked : (peer : Addr) (route : Route) (waited : ℕ) (limits : Limits) (old new : Around) (words words' : Option (List ℕ)) (r : Ready) → Opens peer route waited limits old new words words' (Ok r) → Linked old new r.link
linked peer route waited limits old new words words' r o = by_came o.came o.lets_in o.closes
  where
    by_came : (came : Result Ready Ended) → LetsIn peer route waited limits old o.between words words' came → Closes o.between new came (Ok r) → Linked old new r.link
    by_came (Err e) l (w, tells, is, others) = absurd (cc)
    by_came (Ok ready) l c =
        let same : r ≡ ready = (let x = c.0 in cc) in
        subst (λ (x : Around). Linked old x r.link) (sym c.1)
        (subst (λ (x : Ready). Linked old o.between x.link) (sym same)
        (earlier old o.between l.hub l.moments ready.link (admitted peer route waited limits (record old { hub = l.hub; moments = l.moments }) o.between words words' l.admission ready l.behind)))
