-- What is asked to book a move.
use Rattle.std.proofs.Common.{◌≡◌, ◌+◌, ℕ, List, [], ◌∷◌, ◌++◌, Option, Some, None, refl, sym, subst, ap, ◌∙◌, arith, append-nil}
use Rattle.std.specs.Prelude.{Ok, Err, option_to_list}
use Rattle.pgw_messages.specs.declared.pod_key.PodKey.{PodKey}
use Rattle.proxy_hub.specs.Ports.{Port, Asks}
use Rattle.proxy_hub.specs.declared.command.HubCommand.{HubCommand}
use Rattle.proxy_hub.specs.declared.command.HubCommand.TheVariants.{Assign, Bind}
use Rattle.proxy_hub.specs.declared.fault.HubFault.{HubFault}
use Rattle.proxy_hub.specs.declared.reply.HubReply.{HubReply}
use Rattle.proxy_links.specs.Board.{raised}
use Rattle.proxy_outside.specs.declared.identity.SessionNo.{SessionNo}
use Rattle.proxy_outside.specs.declared.place.Place.{Place}
use Rattle.session_admission.specs.Asking.{AsksOn}
use Rattle.session_admission.proofs.Asked.{asked_one, asked_none, asked_more}
use Rattle.session_asks.specs.Asks.{Ask, ask, Alone, InTurn}
use Rattle.session_asks.specs.Between.{Binds}
use Rattle.session_rounds.specs.Asking.{missed_in, is_missed}
use Rattle.session_rounds.proofs.Asked.{missed_append, count_more}
use Rattle.session_course.specs.Booking.{AsksSome, AsksOne, BindsKey, BooksMove}

one_missed : (u v m : ℕ) → v ≡ raised u m → v ≡ raised u (m + 0)
one_missed u v m e = omega (arith, e)

pub answered_so : (old new : Port) (c : HubCommand) (r s : HubReply) (u v : ℕ) → r ≡ s → Asks old new c (Ok r) → v ≡ raised u (is_missed (Some s)) → AsksOne c old new u v
answered_so old new c r s u v is a e =
    let b : Asks old new c (Ok s) = subst (λ (x : HubReply). Asks old new c (Ok x)) is a in
    record {
      asks = ask c (Some s) ∷ [];
      asked = asked_one old new c s b;
      fitting = record { reply = Some s; fitting = b.3; alone = refl };
      unbooked = one_missed u v (is_missed (Some s)) e;
    }

pub refused_so : (old new : Port) (c : HubCommand) (f : HubFault) (u v : ℕ) → Asks old new c (Err f) → v ≡ raised u 1 → AsksOne c old new u v
refused_so old new c f u v a e = record {
  asks = ask c None ∷ [];
  asked = asked_none old new c f a;
  fitting = record { reply = None; fitting = tt; alone = refl };
  unbooked = one_missed u v 1 e;
}

pub asked_nothing : (p : Port) → AsksOn p p []
asked_nothing p = record { desk = refl; listed = sym (append-nil p.asked); missing = omega arith }

pub binds_one : (n : SessionNo) (given : Option PodKey) (k : PodKey) (old new : Port) (u v : ℕ) → given ≡ Some k → AsksOne (Bind n k) old new u v → BindsKey n given old new u v
binds_one n given k old new u v is a =
    subst (λ (x : Option PodKey). BindsKey n x old new u v) (sym is)
    (record {
      asks = a.asks;
      asked = a.asked;
      fitting = record { front = a.asks; back = []; whole = sym (append-nil a.asks); begins = a.fitting; ends = refl };
      unbooked = a.unbooked;
    })

pub binds_none : (n : SessionNo) (given : Option PodKey) (p : Port) (u : ℕ) → given ≡ None → BindsKey n given p p u u
binds_none n given p u is =
    subst (λ (x : Option PodKey). BindsKey n x p p u u) (sym is) (record { asks = []; asked = asked_nothing p; fitting = refl; unbooked = omega arith })

pub books : (n : SessionNo) (place : Place) (key : Option PodKey) (one two three : Port) (u v w : ℕ) → AsksOne (Assign n place) one two u v → BindsKey n key two three v w → BooksMove n place key one three u w
books n place key one two three u v w a b = record {
  asks = a.asks ++ b.asks;
  asked = asked_more one two three a.asks b.asks a.asked b.asked;
  fitting = record { front = a.asks; back = b.asks; whole = refl; begins = a.fitting; ends = b.fitting };
  unbooked = count_more u v w (missed_in a.asks) (missed_in b.asks) _ a.unbooked b.unbooked (missed_append a.asks b.asks);
}
