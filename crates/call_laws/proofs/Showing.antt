-- What was asked, dialed, taken and given from a session's opening to its end.
use Rattle.std.proofs.Common.{◌≡◌, ℕ, List, ◌++◌, Option, Some, refl, sym, ap, subst, ◌∙◌, arith, append-nil}
use Rattle.pgw_messages.specs.declared.params.Pair.{Pair}
use Rattle.proxy_outside.specs.declared.addr.Addr.{Addr}
use Rattle.proxy_hub.specs.declared.command.HubCommand.{HubCommand}
use Rattle.proxy_hub.specs.declared.command.HubCommand.TheVariants.{Release}
use Rattle.proxy_hub.specs.declared.reply.HubReply.{HubReply}
use Rattle.proxy_links.specs.Links.{LinkRecord}
use Rattle.proxy_links.specs.Told.{push, Grows}
use Rattle.link_io.proofs.Parts.{push_push}
use Rattle.startup_route.specs.declared.step.Route.{Route}
use Rattle.session_admission.specs.Asking.{AsksOn}
use Rattle.session_admission.proofs.Asked.{asked_more}
use Rattle.session_asks.specs.Asks.{Ask, Alone, answered, moments_in, words_in}
use Rattle.session_asks.specs.Between.{AsksInRounds}
use Rattle.session_asks.specs.Dialing.{dials_in, DialsInRounds, DrawsInRounds}
use Rattle.session_asks.specs.Fits.{Outside, IsAsked, FitsHub}
use Rattle.session_trace.specs.Journey.{keyed}
use Rattle.session_trace.specs.Trace.{Round}
use Rattle.session_opening.specs.Linking.{Around}
use Rattle.session_opening.specs.Opening.{Ready}
use Rattle.session_opening.specs.OpenCalls.{ReadyFits, client_with}
use Rattle.session_opening.specs.Shown.{Shows}
use Rattle.session_opening.proofs.Grown.{grows_more, grows_as, Still}
use Rattle.call_laws.proofs.Still.{moments_more, words_more, still_both, still_rounds, still_release}

-- what was asked behind the opening
pub record Later (n : Ready) (old new : Around) (rs : List Round) : Type 0 where
  pub rounds : List Ask
  pub fit : AsksInRounds n.session rs rounds
  pub release : List Ask
  pub released : Alone (Release n.session) release
  pub asked : AsksOn old.hub new.hub (rounds ++ release)

-- what the lists grew by
pub record Grew (old new : Around) (words words' : Option (List ℕ)) (p : List Pair) (rs : List Round) (taken given : List ℕ) : Type 0 where
  pub dials : Grows old.links.dials new.links.dials (dials_in rs)
  pub dials_it : DialsInRounds p rs
  pub drawn : List ℕ
  pub words_are : Grows words words' drawn
  pub draws : DrawsInRounds rs drawn
  pub taken_is : new.client_in.taken ≡ push old.client_in.taken taken
  pub given_is : new.client_out.contents ≡ push old.client_out.contents given
  pub moments : new.moments ≡ old.moments

module _ (peer : Addr) (route : Route) (old between new : Around) (words words' words'' : Option (List ℕ)) (r : Ready) (rs : List Round) (taken given : List ℕ) (records : List LinkRecord) (f : ReadyFits peer route old between words words' r) (l : Later r between new rs)
    (g : Grew between new words' words'' route.params rs taken given) (told : new.links.records ≡ push old.links.records records) where
  abbrev behind : List Ask
  behind = l.rounds ++ l.release

  abbrev all : List Ask
  all = f.asks ++ behind

  still : Still behind
  still = still_both l.rounds l.release behind refl (still_rounds r.session rs l.rounds l.fit) (still_release r.session l.release l.released)

  moments_all : moments_in all ≡ moments_in f.asks
  moments_all = moments_more f.asks behind ∙ ap (λ (v : List ℕ). moments_in f.asks ++ v) still.moments ∙ append-nil (moments_in f.asks)

  words_all : words_in all ≡ words_in f.asks
  words_all = words_more f.asks behind ∙ ap (λ (v : List ℕ). words_in f.asks ++ v) still.words ∙ append-nil (words_in f.asks)

  asked_opening : AsksOn old.hub between.hub f.asks
  asked_opening = record {
    desk = f.shows.around_hub.desk;
    listed = f.shows.around_hub.asked ∙ ap (λ (v : List (HubCommand × HubReply)). old.hub.asked ++ v) f.asked.listed;
    missing = let a = f.asked.missing in let x = f.shows.around_hub.refused_before in let y = f.shows.around_hub.refused_now in omega (arith, a, x, y);
  }

  asked_all : AsksOn old.hub new.hub all
  asked_all = asked_more old.hub between.hub new.hub f.asks behind asked_opening l.asked

  abbrev pub outside : Outside
  outside = record {
    asked = answered all;
    refused_before = old.hub.refusals;
    refused_now = new.hub.refusals;
    dials = f.outside.dials ++ dials_in rs;
    moments = moments_in all;
    words = words_in all ++ g.drawn;
  }

  pub made : IsAsked outside all
  made = record { listed = refl; missing = asked_all.missing }

  pub shows : Shows old new words words'' (f.first.asked ++ taken) (keyed r.key f.first.got ++ given) records outside
  shows = record {
    around_hub = record {
      desk = asked_all.desk;
      asked = asked_all.listed;
      refused_before = refl;
      refused_now = refl;
      dials = grows_more old.links.dials between.links.dials new.links.dials f.outside.dials (dials_in rs) f.shows.around_hub.dials g.dials;
      told = told;
    };
    moments = subst (λ (v : Option (List ℕ)). Grows old.moments v (moments_in all)) (sym g.moments) (grows_as old.moments between.moments f.outside.moments (moments_in all) (f.moments ∙ sym moments_all) f.shows.moments);
    words_are = grows_as words words'' (f.outside.words ++ g.drawn) (words_in all ++ g.drawn) (ap (λ (v : List ℕ). v ++ g.drawn) (f.words_are ∙ sym words_all)) (grows_more words words' words'' f.outside.words g.drawn f.shows.words_are g.words_are);
    taken_is = g.taken_is ∙ ap (λ (v : Option (List ℕ)). push v taken) f.shows.taken_is ∙ push_push old.client_in.taken f.first.asked taken;
    given_is = g.given_is ∙ ap (λ (v : Option (List ℕ)). push v given) f.shows.given_is ∙ push_push old.client_out.contents (keyed r.key f.first.got) given;
  }

  pub asks : FitsHub route.params (client_with peer route r) outside (Some f.first) rs
  asks = record {
    asks = all;
    asked = made;
    first_dials = f.outside.dials;
    asks_hub = f.asks_go_on rs l.rounds l.release l.fit l.released;
    dials = refl;
    dials_it = g.dials_it;
    moments = refl;
    later_words = g.drawn;
    words = refl;
    draws = g.draws;
  }
