-- What a ready session's opening leaves for its rounds.
use Rattle.std.proofs.Common.{◌≡◌, ℕ, List, Option, Some, Result, Ok, Err, refl, sym, ap, ◌∙◌, subst, append_assoc, append-nil}
use Rattle.proxy_outside.specs.declared.addr.Addr.{Addr}
use Rattle.proxy_links.specs.Told.{push, blank}
use Rattle.link_io.proofs.Parts.{push_nil}
use Rattle.startup_route.specs.declared.step.Route.{Route}
use Rattle.session_asks.specs.Asks.{Ask, answered, moments_in, words_in}
use Rattle.session_asks.specs.Admission.{AsksHub}
use Rattle.session_greeting.specs.declared.greeting.Limits.{Limits}
use Rattle.session_opening.specs.Linking.{Around}
use Rattle.session_opening.specs.Opening.{Ready, Opens, Closes, LetsIn}
use Rattle.session_opening.specs.declared.opening.Ended.{Ended}
use Rattle.session_opening.specs.OpenCalls.{ReadyFits, client_with}
use Rattle.session_opening.proofs.Keeping.{KeptIn, kept}

fits : (peer : Addr) (route : Route) (old new : Around) (words words' : Option (List ℕ)) (r : Ready) → KeptIn peer route old new words words' r → ReadyFits peer route old new words words' r
fits peer route old new words words' r i =
    let k = i.kept in
    record {
      first = k.first;
      opens = k.opens;
      there = k.there;
      outside = record { asked = answered k.asks; refused_before = old.hub.refusals; refused_now = new.hub.refusals; dials = k.dials; moments = moments_in k.asks; words = words_in k.asks };
      shows = record {
        around_hub = record {
          desk = k.grown.asked.desk;
          asked = k.grown.asked.listed;
          refused_before = refl;
          refused_now = refl;
          dials = k.grown.dialed;
          told = k.records ∙ sym (push_nil old.links.records);
        };
        moments = k.grown.moments;
        words_are = k.grown.drawn;
        taken_is = k.taken_is;
        given_is = k.given_is;
      };
      asks = k.asks;
      asked = record { listed = refl; missing = k.grown.asked.missing };
      moments = refl;
      words_are = refl;
      asks_go_on = λ rs later release rounds alone.
          subst (λ (v : List Ask). AsksHub (client_with peer route r) k.dials (Some k.first) rs v) (append_assoc k.asks later release) (k.fitting rs later rounds release alone);
      alike = k.tx_number ∙ sym k.rx_number;
      is_open = k.is_open;
      so_far = λ request response. record {
        tx = k.tx;
        rx = k.rx ∙ ap (push (blank old.links.records)) (sym (append-nil k.first.got));
        tx_number = k.tx_number;
        rx_number = k.rx_number;
        records = k.records ∙ sym (push_nil old.links.records);
        forwards = sym (push_nil new.client_in.taken);
        relays = sym (push_nil new.client_out.contents);
      };
    }

pub ready_fits : (peer : Addr) (route : Route) (waited : ℕ) (limits : Limits) (old new : Around) (words words' : Option (List ℕ)) (r : Ready) → Opens peer route waited limits old new words words' (Ok r) → ReadyFits peer route old new words words' r
ready_fits peer route waited limits old new words words' r o = by_came o.came o.lets_in o.closes
  where
    by_came : (came : Result Ready Ended) → LetsIn peer route waited limits old o.between words words' came → Closes o.between new came (Ok r) → ReadyFits peer route old new words words' r
    by_came (Err e) l (w, tells, is, others) = absurd (cc)
    by_came (Ok ready) l c =
        let same : r ≡ ready = (let x = c.0 in cc) in
        subst (λ (x : Around). ReadyFits peer route old x words words' r) (sym c.1)
        (fits peer route old o.between words words' r (kept peer route waited limits old o.between words words' r (subst (λ (x : Ready). LetsIn peer route waited limits old o.between words words' (Ok x)) (sym same) l)))
