-- Stages of an opening that change the hub alone: the admission, and the key.
use Rattle.std.proofs.Common.{◌≡◌, ℕ, List, [], ◌∷◌, Option, refl}
use Rattle.proxy_outside.specs.declared.addr.Addr.{Addr}
use Rattle.proxy_outside.specs.declared.identity.SessionNo.{SessionNo}
use Rattle.proxy_links.specs.Told.{Grows}
use Rattle.proxy_hub.specs.Ports.{Port}
use Rattle.proxy_hub.specs.declared.command.HubCommand.TheVariants.{Admit, GiveKey}
use Rattle.proxy_hub.specs.declared.reply.HubReply.{HubReply}
use Rattle.startup_route.specs.declared.step.Route.{Route}
use Rattle.session_asks.specs.Asks.{Ask, ask}
use Rattle.session_admission.specs.Asking.{AsksOn}
use Rattle.session_opening.specs.Linking.{Around}
use Rattle.session_opening.proofs.Grown.{Grown, grows_none}

-- what was asked before, at which nothing else changed
pub record Before (old one : Around) (words words' : Option (List ℕ)) (a : Ask) : Type 0 where
  pub grown : Grown old one words words' (a ∷ []) []
  pub links : one.links ≡ old.links
  pub client_in : one.client_in ≡ old.client_in
  pub client_out : one.client_out ≡ old.client_out

abbrev pub one_at : Around → Port → Around
one_at old hub = record { client_in = old.client_in; client_out = old.client_out; hub = hub; links = old.links; moments = old.moments }

pub asked_key : (old : Around) (hub : Port) (words words' : Option (List ℕ)) (n : SessionNo) (peer : Addr) (word : ℕ) (reply : Option HubReply) → AsksOn old.hub hub (ask (GiveKey n peer word) reply ∷ []) → Grows words words' (word ∷ [])
    → Before old (one_at old hub) words words' (ask (GiveKey n peer word) reply)
asked_key old hub words words' n peer word reply asked drawn = record {
  grown = record { asked = asked; dialed = grows_none old.links.dials; moments = grows_none old.moments; drawn = drawn };
  links = refl;
  client_in = refl;
  client_out = refl;
}

abbrev pub admit_at : Around → Port → Option (List ℕ) → Around
admit_at old hub moments = record { client_in = old.client_in; client_out = old.client_out; hub = hub; links = old.links; moments = moments }

pub asked_admit : (old : Around) (hub : Port) (moments words : Option (List ℕ)) (peer : Addr) (route : Route) (now : ℕ) (reply : Option HubReply) → AsksOn old.hub hub (ask (Admit peer route.tenant now) reply ∷ []) → Grows old.moments moments (now ∷ [])
    → Before old (admit_at old hub moments) words words (ask (Admit peer route.tenant now) reply)
asked_admit old hub moments words peer route now reply asked moment = record {
  grown = record { asked = asked; dialed = grows_none old.links.dials; moments = moment; drawn = grows_none words };
  links = refl;
  client_in = refl;
  client_out = refl;
}
