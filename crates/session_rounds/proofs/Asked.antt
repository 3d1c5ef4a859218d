-- What is asked behind one round more.
use Rattle.std.proofs.Common.{◌≡◌, ℕ, ◌+◌, List, [], ◌∷◌, ◌++◌, Option, Some, None, refl, sym, ap, subst, ◌∙◌, arith, append-nil, inl, inr}
use Rattle.std.specs.Prelude.{Ok}
use Rattle.proxy_hub.specs.Ports.{Port, Asks}
use Rattle.proxy_hub.specs.declared.command.HubCommand.TheVariants.{Target}
use Rattle.proxy_hub.specs.declared.reply.HubReply.{HubReply}
use Rattle.proxy_hub.specs.declared.reply.HubReply.TheVariants.{MoveTo}
use Rattle.proxy_links.specs.Board.{raised}
use Rattle.proxy_outside.specs.declared.identity.SessionNo.{SessionNo}
use Rattle.proxy_outside.specs.declared.place.Place.{Place}
use Rattle.session_admission.specs.Asking.{AsksOn}
use Rattle.session_admission.proofs.Asked.{asked_one, asked_more}
use Rattle.session_asks.specs.Asks.{Ask, ask}
use Rattle.session_asks.specs.Between.{NamesNone, IsDue, AsksTarget, AsksAfter}
use Rattle.session_trace.specs.Trace.{Attempt, Round, all_forwarded, all_relayed}
use Rattle.session_rounds.specs.Asking.{Since, Asked, AskedIn, AskedFor, AimsAt, AimsNowhere, missed_in, is_missed}

pub missed_append : (xs ys : List Ask) → missed_in (xs ++ ys) ≡ missed_in xs + missed_in ys
missed_append [] ys = omega arith
missed_append (x ∷ xs) ys = let more = missed_append xs ys in omega arith

pub count_more : (u v w m n all : ℕ) → v ≡ raised u m → w ≡ raised v n → all ≡ m + n → w ≡ raised u all
count_more u v w m n all p q e = omega (arith, p, q, e)

pub asked_on : (o : Since) (mid now : Port) (u v : ℕ) (xs ys : List Ask) → Asked o mid u xs → AsksOn mid now ys → v ≡ raised u (missed_in ys) → Asked o now v (xs ++ ys)
asked_on o mid now u v xs ys a on e = record {
  on = asked_more o.port mid now xs ys a.on on;
  counts = count_more o.unbooked u v (missed_in xs) (missed_in ys) _ a.counts e (missed_append xs ys);
}

-- ---- by what is due

by_attempt : (n : SessionNo) (r : Round) (rs : List Round) (as_ : List Ask) → r.attempt ≡ None → AsksTarget n (all_forwarded (r ∷ rs)) (all_relayed (r ∷ rs)) r None as_ → AsksAfter n r rs as_
by_attempt n r rs as_ e a = subst (λ (v : Option Attempt). AsksTarget n (all_forwarded (r ∷ rs)) (all_relayed (r ∷ rs)) r v as_) (sym e) a

pub nothing_asked : (n : SessionNo) (o : Since) (now : Port) (u : ℕ) (r : Round) (rs : List Round) → r.attempt ≡ None → (IsDue (all_forwarded (r ∷ rs)) (all_relayed (r ∷ rs)) r → ⊥)
    → AskedIn n o now u rs → AskedIn n o now u (r ∷ rs)
nothing_asked n o now u r rs none not_due a = record {
  asks = a.asks;
  asked = a.asked;
  fit = record { front = a.asks; back = []; whole = sym (append-nil a.asks); begins = a.fit; ends = by_attempt n r rs [] none (inr (not_due, refl)) };
}

pub stays_out : (n : SessionNo) (o : Since) (mid now : Port) (u v : ℕ) (r : Round) (rs : List Round) → r.attempt ≡ None → IsDue (all_forwarded (r ∷ rs)) (all_relayed (r ∷ rs)) r
    → AimsNowhere n mid now u v → AskedIn n o mid u rs → AskedIn n o now v (r ∷ rs)
stays_out n o mid now u v r rs none due aim a =
    let last : Ask = ask (Target n) aim.reply in
    record {
      asks = a.asks ++ last ∷ [];
      asked = asked_on o mid now u v a.asks (last ∷ []) a.asked aim.asked (let e = aim.unbooked in omega (arith, e));
      fit = record { front = a.asks; back = last ∷ []; whole = refl; begins = a.fit; ends = by_attempt n r rs (last ∷ []) none (inl (due, record { reply = aim.reply; none = aim.none; alone = refl })) };
    }

at_once : (u v : ℕ) (before : ℕ) (m : ℕ) → v ≡ u → u ≡ raised before m → v ≡ raised before (m + 0)
at_once u v before m e c = omega (arith, e, c)

pub asked_for : (n : SessionNo) (place : Place) (o : Since) (mid now : Port) (u v : ℕ) (rs : List Round) → AimsAt n place mid now u v → AskedIn n o mid u rs → AskedFor n place o now v rs
asked_for n place o mid now u v rs aim a =
    let last : Ask = ask (Target n) (Some (MoveTo place)) in
    record {
      asks = a.asks;
      asked = record {
        on = asked_more o.port mid now a.asks (last ∷ []) a.asked.on aim.asked;
        counts = at_once u v o.unbooked (missed_in a.asks) aim.unbooked a.asked.counts ∙ ap (raised o.unbooked) (sym (missed_append a.asks (last ∷ [])));
      };
      fit = a.fit;
    }

-- ---- what was answered

pub nowhere_said : (n : SessionNo) (old new : Port) (u v : ℕ) (r s : HubReply) → r ≡ s → NamesNone (Some s) → Asks old new (Target n) (Ok r) → v ≡ raised u (is_missed (Some s)) → AimsNowhere n old new u v
nowhere_said n old new u v r s is none a e = record {
  reply = Some s;
  none = none;
  asked = asked_one old new (Target n) s (subst (λ (x : HubReply). Asks old new (Target n) (Ok x)) is a);
  unbooked = e;
}
