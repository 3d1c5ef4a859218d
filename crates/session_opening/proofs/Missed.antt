-- An opening to which no link came.
use Rattle.std.proofs.Common.{◌≡◌, ◌⊎◌, ℕ, List, [], ◌∷◌, Option, Some, None, Err, inl, inr, refl, sym, ap, arith, append-nil}
use Rattle.pgw_messages.specs.declared.params.Pair.{Pair}
use Rattle.proxy_links.specs.declared.dialer.Dial.{Dial}
use Rattle.proxy_hub.specs.declared.command.HubCommand.TheVariants.{Pick}
use Rattle.proxy_hub.specs.declared.reply.HubReply.TheVariants.{No}
use Rattle.session_asks.specs.Asks.{Ask, ask, InTurn}
use Rattle.session_asks.specs.Admission.{PicksPods, AfterPicks}
use Rattle.session_admission.specs.Dialing.{InVain}
use Rattle.session_greeting.specs.declared.greeting.Limits.{Limits}
use Rattle.session_opening.specs.Linking.{Around, Missing, FindsLink}
use Rattle.session_opening.specs.declared.booking.Guest.{Guest}
use Rattle.session_opening.specs.declared.ending.Ending.{Ending}
use Rattle.session_opening.specs.Shown.{is_auth_refused}
use Rattle.session_opening.proofs.Grown.{Grown, failed_dials, picks_still, still_grown}
use Rattle.session_opening.proofs.Books.{guest_client}
use Rattle.session_opening.proofs.Linked.{Hung, hung_by}

pub record Missed (g : Guest) (old new : Around) (e : Ending) : Type 0 where
  pub asks : List Ask
  pub dials : List Dial
  pub grown : (w : Option (List ℕ)) → Grown old new w w asks dials
  pub fits : InTurn (PicksPods g.tenant dials) (AfterPicks (guest_client g (is_auth_refused e)) g.session None []) asks
  pub records : new.links.records ≡ old.links.records
  pub client_in : new.client_in ≡ old.client_in
  pub client_out : new.client_out ≡ old.client_out

picked_none : (g : Guest) (old new : Around) (e : Ending) (dials : List Dial) (asks : List Ask) → new ≡ record old { hub = new.hub; links = new.links } → PicksPods g.tenant dials asks
    → InVain g.tenant [] old.hub new.hub old.links new.links dials asks → Missed g old new e
picked_none g old new e dials asks others picks v =
    let t = failed_dials old.links new.links dials v.dialed in
    record {
      asks = asks;
      dials = dials;
      grown = λ w. still_grown old new w asks dials (picks_still g.tenant [] dials asks v.picks) v.asked t.dialed (ap (λ (x : Around). x.moments) others);
      fits = record { front = asks; back = []; whole = sym (append-nil asks); begins = picks; ends = (refl, refl) };
      records = t.records;
      client_in = ap (λ (x : Around). x.client_in) others;
      client_out = ap (λ (x : Around). x.client_out) others;
    }

missed_by : (g : Guest) (old new : Around) (e : Ending) → Missing g old new (Err e) → Missed g old new e
missed_by g old new e m = elim m.unplaced [
  | inl all ↦ picked_none g old new e all.1.dials all.1.asks m.others (record { picks = all.1.vain.picks; few = let f = all.1.few in omega arith }) all.1.vain
  | inr (inl none) ↦
      picked_none g old new e [] (ask (Pick g.tenant None None) (Some (No none.0)) ∷ []) m.others
      (record { picks = inr (record { reply = Some (No none.0); none = tt; alone = refl }); few = omega arith })
      (record { picks = inr (record { reply = Some (No none.0); none = tt; alone = refl }); asked = none.2; dialed = none.3 })
  | inr (inr stopped) ↦
      picked_none g old new e stopped.2.dials stopped.2.asks m.others (record { picks = stopped.2.vain.picks; few = let f = stopped.2.few in omega arith }) stopped.2.vain
]

pub no_link : (g : Guest) (p : List Pair) (waited : ℕ) (limits : Limits) (old new : Around) (e : Ending) → FindsLink g p waited limits old new (Err e) → Hung g p old new e ⊎ Missed g old new e
no_link g p waited limits old new e (inl f) = inl (hung_by g p waited limits old new e f)
no_link g p waited limits old new e (inr m) = inr (missed_by g old new e m)
