-- What a request to cancel shows of hub and dialer.
use Rattle.std.proofs.Common.{◌≡◌, ◌⊎◌, ℕ, Bool, true, false, List, [], ◌∷◌, take, drop, Option, Some, None, Result, Ok, Err, inl, inr, refl, sym, ap, ◌∙◌, subst, arith, append-nil}
use Rattle.std.proofs.lemmas.List.{take-append-drop}
use Rattle.pgw_frames.specs.Frames.{Begins}
use Rattle.pgw_messages.specs.declared.pod_key.PodKey.{PodKey}
use Rattle.proxy_outside.specs.Reading.{Origin}
use Rattle.proxy_outside.specs.Writing.{Target}
use Rattle.proxy_outside.specs.declared.addr.Addr.{Addr}
use Rattle.proxy_outside.specs.declared.identity.ClientKey.{ClientKey}
use Rattle.proxy_outside.specs.declared.place.Place.{Place}
use Rattle.proxy_links.specs.Links.{Links, LinkRecord, counts_of, record_of, hung}
use Rattle.proxy_links.specs.Told.{push, blank, Grows}
use Rattle.proxy_links.specs.declared.dialer.Dial.{Dial}
use Rattle.link_io.specs.Writing.{WritesAll}
use Rattle.link_io.proofs.Parts.{push_nil}
use Rattle.proxy_hub.specs.Ports.{Port}
use Rattle.proxy_hub.specs.declared.command.HubCommand.{HubCommand}
use Rattle.proxy_hub.specs.declared.command.HubCommand.TheVariants.{Find}
use Rattle.proxy_hub.specs.declared.fault.HubFault.{HubFault}
use Rattle.proxy_hub.specs.declared.reply.HubReply.{HubReply}
use Rattle.proxy_hub.specs.declared.reply.HubReply.TheVariants.{Found, NoKey}
use Rattle.session_asks.specs.Fits.{Outside}
use Rattle.session_asks.specs.Fits as fits
use Rattle.session_cancel.specs.Cancelling.{cancel_request, SendsOn, Sends, Cancels}
use Rattle.session_entry.specs.Receiving.{Asks, AsksNothing}

-- ---- the link of the request

-- what was written of it: all, or not all where a fault was counted
record Part (old new : Target) (bytes : List ℕ) : Type 0 where
  sent : List ℕ
  contents : new.contents ≡ push old.contents sent
  begins : Begins sent bytes
  whole : (sent ≡ bytes) ⊎ (new.faults ≡ 0 → ⊥)

part_of : (b : Bool) (old new : Target) (bytes : List ℕ) → WritesAll b old new bytes → Part old new bytes
part_of true old new bytes w = record { sent = bytes; contents = w.contents; begins = ([], append-nil bytes); whole = inl refl }
part_of false old new bytes w = record {
  sent = take w.count bytes;
  contents = w.wrote.contents;
  begins = (drop w.count bytes, take-append-drop w.count bytes);
  whole = inr (λ e. let r = w.rose in omega arith);
}

hung_new : (o : Option (List LinkRecord)) (f : List ℕ → List ℕ → LinkRecord) (sent : List ℕ) → hung o f (push (blank o) sent) (blank o) ≡ push o (f sent [] ∷ [])
hung_new None f sent = refl
hung_new (Some rs) f sent = refl

-- a dial for the request, and the record of its link
record Sent (place : Place) (key : PodKey) (links links' : Links) : Type 0 where
  dial : Dial
  records : List LinkRecord
  dials : Grows links.dials links'.dials (dial ∷ [])
  there : dial.place ≡ place
  sends : fits.Sends (cancel_request key) dial records
  told : links'.records ≡ push links.records records

sent_on : (place : Place) (key : PodKey) (links links' : Links) → SendsOn place key links links' → Sent place key links links'
sent_on place key links links' s =
    let p = part_of s.whole s.tx s.tx' (cancel_request key) s.wrote in
    let l : LinkRecord = record_of s.rx.link s.hung.place (counts_of s.tx' s.rx) p.sent [] in
    let others = s.hung.others in
    let came = s.came.others in
    let kept : s.between.records ≡ links.records = ap (λ (x : Links). x.records) came in
    let contents : s.tx'.contents ≡ push (blank links.records) p.sent = p.contents ∙ ap (λ (x : Target). push x.contents p.sent) s.came.tx in
    let taken : s.rx.taken ≡ blank links.records = ap (λ (x : Origin). x.taken) s.came.rx in
    record {
      dial = record { place = place; came = true };
      records = l ∷ [];
      dials = subst (λ (x : Option (List Dial)). Grows links.dials x (record { place = place; came = true } ∷ [])) (sym (ap (λ (x : Links). x.dials) others)) s.came.dials;
      there = refl;
      sends = record { came = inr (l, refl, p.begins, p.whole) };
      told =
          ap (λ (x : Links). x.records) others
          ∙ ap (λ (x : Option (List LinkRecord)). hung x (record_of s.rx.link s.hung.place (counts_of s.tx' s.rx)) s.tx'.contents s.rx.taken) kept
          ∙ ap (λ (x : Option (List ℕ)). hung links.records (record_of s.rx.link s.hung.place (counts_of s.tx' s.rx)) x s.rx.taken) contents
          ∙ ap (λ (x : Option (List ℕ)). hung links.records (record_of s.rx.link s.hung.place (counts_of s.tx' s.rx)) (push (blank links.records) p.sent) x) taken
          ∙ hung_new links.records (record_of s.rx.link s.hung.place (counts_of s.tx' s.rx)) p.sent;
    }

sent : (place : Place) (key : PodKey) (links links' : Links) → Sends place key links links' → Sent place key links links'
sent place key links links' (inl f) = record {
  dial = record { place = place; came = false };
  records = [];
  dials = f.dials;
  there = refl;
  sends = record { came = inl refl };
  told = ap (λ (x : Links). x.records) f.others ∙ sym (push_nil links.records);
}
sent place key links links' (inr s) = sent_on place key links links' s

-- ---- what a call shows

abbrev outside : Port → Port → List (HubCommand × HubReply) → List Dial → Outside
outside hub hub' asked dials = record { asked = asked; refused_before = hub.refusals; refused_now = hub'.refusals; dials = dials; moments = []; words = [] }

same_dials : (links links' : Links) → links' ≡ links → Grows links.dials links'.dials []
same_dials links links' e = inr (ap (λ (x : Links). x.dials) e ∙ sym (push_nil links.dials))

same_records : (links links' : Links) → links' ≡ links → links'.records ≡ push links.records []
same_records links links' e = ap (λ (x : Links). x.records) e ∙ sym (push_nil links.records)

pub nothing : (hub hub' : Port) (links links' : Links) → hub' ≡ hub → links' ≡ links → AsksNothing hub hub' links links'
nothing hub hub' links links' h e = record {
  outside = outside hub hub' [] [];
  shows = record {
    desk = ap (λ (x : Port). x.desk) h;
    asked = ap (λ (x : Port). x.asked) h ∙ sym (append-nil hub.asked);
    refused_before = refl;
    refused_now = refl;
    dials = same_dials links links' e;
    told = same_records links links' e;
  };
  fits = record { asked = refl; dials = refl; moments = refl; words = refl };
}

pub asks : (peer : Addr) (key : ClientKey) (hub hub' : Port) (links links' : Links) (r : Result (Unit {0}) HubFault) → Cancels peer key hub hub' links links' r → Asks peer key hub hub' links links'
asks peer key hub hub' links links' (Ok u) (inl (place, pod_key, found, sends)) =
    let s = sent place pod_key links links' sends in
    record {
      outside = outside hub hub' ((Find key peer, Found place pod_key) ∷ []) (s.dial ∷ []);
      records = s.records;
      shows = record { desk = found.0; asked = found.1; refused_before = refl; refused_now = refl; dials = s.dials; told = s.told };
      fits = record {
        reply = Some (Found place pod_key);
        asked = record { listed = refl; missing = let e = found.2 in omega arith };
        behind = (s.dial, refl, s.there, s.sends);
        moments = refl;
        words = refl;
      };
    }
asks peer key hub hub' links links' (Ok u) (inr (none, e)) = record {
  outside = outside hub hub' ((Find key peer, NoKey) ∷ []) [];
  records = [];
  shows = record { desk = none.0; asked = none.1; refused_before = refl; refused_now = refl; dials = same_dials links links' e; told = same_records links links' e };
  fits = record {
    reply = Some NoKey;
    asked = record { listed = refl; missing = let m = none.2 in omega arith };
    behind = (refl, refl);
    moments = refl;
    words = refl;
  };
}
asks peer key hub hub' links links' (Err f) (refused, e) = record {
  outside = outside hub hub' [] [];
  records = [];
  shows = record { desk = refused.0; asked = refused.1 ∙ sym (append-nil hub.asked); refused_before = refl; refused_now = refl; dials = same_dials links links' e; told = same_records links links' e };
  fits = record {
    reply = None;
    asked = record { listed = refl; missing = let m = refused.2 in omega arith };
    behind = (refl, refl);
    moments = refl;
    words = refl;
  };
}
