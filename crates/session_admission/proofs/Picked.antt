-- Picks and dials, one after another.
use Rattle.std.proofs.Common.{◌≡◌, ◌≤◌, true, false, List, [], ◌∷◌, ◌++◌, length, Option, Some, None, refl, sym, ap, subst, arith, length-append, inl, inr}
use Rattle.proxy_outside.specs.Reading.{Origin}
use Rattle.proxy_outside.specs.Writing.{Target}
use Rattle.proxy_outside.specs.declared.identity.PodNo.{PodNo}
use Rattle.proxy_outside.specs.declared.identity.TenantId.{TenantId}
use Rattle.proxy_outside.specs.declared.place.Place.{Place}
use Rattle.counted_desk.specs.Seats.{DeskId}
use Rattle.proxy_links.specs.Links.{Links, Came, Failing}
use Rattle.proxy_links.specs.declared.dialer.Dial.{Dial}
use Rattle.proxy_hub.specs.Ports.{Port, Tells}
use Rattle.proxy_hub.specs.declared.command.HubCommand.TheVariants.{Pick}
use Rattle.proxy_hub.specs.declared.fault.HubFault.{HubFault}
use Rattle.proxy_hub.specs.declared.reply.HubReply.{HubReply}
use Rattle.proxy_hub.specs.declared.reply.HubReply.TheVariants.{Picked, No}
use Rattle.proxy_hub.specs.declared.reply.Refusal.{Refusal}
use Rattle.session_asks.specs.Asks.{Ask, ask}
use Rattle.session_asks.specs.Admission.{first_of, second_of}
use Rattle.session_admission.specs.Asking.{AsksOn}
use Rattle.session_admission.specs.Dialing.{InVain, Few, EndsWith, Reaches, Fails, Stops, Finds}
use Rattle.session_admission.specs.declared.dialing.Found.{Found}
use Rattle.session_admission.specs.declared.dialing.Found.TheVariants.{Link, DialFault, Refused, Fault}
use Rattle.session_admission.proofs.Asked.{asked_more}

abbrev dial : Place → Dial
dial place = record { place = place; came = false }

abbrev pick : TenantId → List PodNo → Option HubReply → Ask
pick t failed reply = ask (Pick t (first_of failed) (second_of failed)) reply

-- ---- the last try

pub link_came : (t : TenantId) (failed : List PodNo) (old new : Port) (links links' : Links) (place : Place) (tx : Target) (rx : Origin) → length failed ≤ 2
    → AsksOn old new (pick t failed (Some (Picked place)) ∷ []) → Came links links' place tx rx → Reaches t failed old new links links' place tx rx
link_came t failed old new links links' place tx rx few asked came = record {
  dials = [];
  asks = pick t failed (Some (Picked place)) ∷ [];
  between = links;
  picks = ([], record { asks = refl }, (refl, refl), inl refl);
  few = omega (arith, few);
  asked = asked;
  before = refl;
  came = came;
}

pub none_left : (t : TenantId) (failed : List PodNo) (old new : Port) (links links' : Links) (why : Refusal) → 1 ≤ length failed → length failed ≤ 3
    → AsksOn old new (pick t failed (Some (No why)) ∷ []) → links' ≡ links → Fails t failed old new links links'
none_left t failed old new links links' why some few asked same = record {
  dials = [];
  asks = pick t failed (Some (No why)) ∷ [];
  vain = record { picks = inr (record { reply = Some (No why); none = tt; alone = refl }); asked = asked; dialed = same };
  few = omega (arith, few);
  some = omega (arith, some);
  enough = inr (why, ([], _, refl));
}

pub pick_refused : (t : TenantId) (failed : List PodNo) (old new : Port) (links links' : Links) (f : HubFault) → length failed ≤ 3
    → AsksOn old new (pick t failed None ∷ []) → Tells f old.desk.most → links' ≡ links → Stops t failed old new links links' f
pick_refused t failed old new links links' f few asked tells same = record {
  dials = [];
  asks = pick t failed None ∷ [];
  vain = record { picks = inr (record { reply = None; none = tt; alone = refl }); asked = asked; dialed = same };
  few = omega (arith, few);
  ends = ([], _, refl);
  tells = tells;
}

-- the third dial failed
third_failed : (t : TenantId) (one two : PodNo) (old new : Port) (links links' : Links) (place : Place)
    → AsksOn old new (pick t (one ∷ two ∷ []) (Some (Picked place)) ∷ []) → Failing links links' place → Fails t (one ∷ two ∷ []) old new links links'
third_failed t one two old new links links' place asked failing = record {
  dials = dial place ∷ [];
  asks = pick t (one ∷ two ∷ []) (Some (Picked place)) ∷ [];
  vain = record { picks = ([], record { asks = refl }, tt, inl refl); asked = asked; dialed = (refl, (links', failing, refl)) };
  few = omega arith;
  some = omega arith;
  enough = inl (omega arith);
}

-- ---- a dial that failed, and what came behind it

ends_behind : (reply : Option HubReply) (a : Ask) (as_ : List Ask) → EndsWith reply as_ → EndsWith reply (a ∷ as_)
ends_behind reply a as_ (front, c, e) = (a ∷ front, c, ap (λ (v : List Ask). a ∷ v) e)

few_behind : (failed : List PodNo) (place : Place) (ds : List Dial) → Few (failed ++ place.pod ∷ []) ds → Few failed (dial place ∷ ds)
few_behind failed place ds h = omega (arith, length-append failed (place.pod ∷ []), h)

vain_behind : (t : TenantId) (failed : List PodNo) (old mid new : Port) (links between links' : Links) (place : Place) (ds : List Dial) (as_ : List Ask)
    → AsksOn old mid (pick t failed (Some (Picked place)) ∷ []) → Failing links between place → InVain t (failed ++ place.pod ∷ []) mid new between links' ds as_
    → InVain t failed old new links links' (dial place ∷ ds) (pick t failed (Some (Picked place)) ∷ as_)
vain_behind t failed old mid new links between links' place ds as_ asked failing v = record {
  picks = (as_, record { asks = refl }, tt, v.picks);
  asked = asked_more old mid new (pick t failed (Some (Picked place)) ∷ []) as_ asked v.asked;
  dialed = (refl, (between, failing, v.dialed));
}

not_first : (failed : List PodNo) (p : PodNo) → (failed ++ p ∷ []) ≡ [] → ⊥
not_first failed p e = let none = ap length e in omega (arith, length-append failed (p ∷ []), none)

found_behind : {T R : Type 0} (target : T → Target) (origin : R → Origin) (t : TenantId) (failed : List PodNo) (old mid new : Port) (links between links' : Links) (place : Place) (o : Found T R)
    → AsksOn old mid (pick t failed (Some (Picked place)) ∷ []) → Failing links between place → Finds target origin t (failed ++ place.pod ∷ []) mid new between links' o → Finds target origin t failed old new links links' o
found_behind target origin t failed old mid new links between links' place (Link at tx rx) asked failing h = record {
  dials = dial place ∷ h.dials;
  asks = pick t failed (Some (Picked place)) ∷ h.asks;
  between = h.between;
  picks = (h.asks, record { asks = refl }, tt, h.picks);
  few = few_behind failed place (h.dials ++ record { place = at; came = true } ∷ []) h.few;
  asked = asked_more old mid new (pick t failed (Some (Picked place)) ∷ []) h.asks asked h.asked;
  before = (refl, (between, failing, h.before));
  came = h.came;
}
found_behind target origin t failed old mid new links between links' place DialFault asked failing h = record {
  dials = dial place ∷ h.dials;
  asks = pick t failed (Some (Picked place)) ∷ h.asks;
  vain = vain_behind t failed old mid new links between links' place h.dials h.asks asked failing h.vain;
  few = few_behind failed place h.dials h.few;
  some = omega arith;
  enough = elim h.enough [
    | inl all ↦ inl (omega (arith, length-append failed (place.pod ∷ []), all))
    | inr none ↦ inr (none.0, ends_behind (Some (No none.0)) (pick t failed (Some (Picked place))) h.asks none.1)
  ];
}
found_behind target origin t failed old mid new links between links' place (Refused why) asked failing h = absurd (not_first failed place.pod h.0)
found_behind target origin t failed old mid new links between links' place (Fault f) asked failing h = record {
  dials = dial place ∷ h.dials;
  asks = pick t failed (Some (Picked place)) ∷ h.asks;
  vain = vain_behind t failed old mid new links between links' place h.dials h.asks asked failing h.vain;
  few = few_behind failed place h.dials h.few;
  ends = ends_behind None (pick t failed (Some (Picked place))) h.asks h.ends;
  tells = subst (λ (d : DeskId). Tells f d.most) asked.desk h.tells;
}

-- ---- as a try tells it

-- the dial of a pod failed
abbrev pub FailedAt : TenantId → List PodNo → Port → Port → Links → Links → PodNo → Type 0
FailedAt t failed old new links links' pod = (place : Place) × (place.pod ≡ pod) × AsksOn old new (pick t failed (Some (Picked place)) ∷ []) × Failing links links' place

pub third_failed_at : (t : TenantId) (one two : PodNo) (old new : Port) (links links' : Links) (pod : PodNo) → FailedAt t (one ∷ two ∷ []) old new links links' pod → Fails t (one ∷ two ∷ []) old new links links'
third_failed_at t one two old new links links' pod (place, e, asked, failing) = third_failed t one two old new links links' place asked failing

pub found_at : {T R : Type 0} (target : T → Target) (origin : R → Origin) (t : TenantId) (failed : List PodNo) (old mid new : Port) (links between links' : Links) (pod : PodNo) (o : Found T R)
    → FailedAt t failed old mid links between pod → Finds target origin t (failed ++ pod ∷ []) mid new between links' o → Finds target origin t failed old new links links' o
found_at target origin t failed old mid new links between links' pod o (place, e, asked, failing) h =
    found_behind target origin t failed old mid new links between links' place o asked failing (subst (λ (n : PodNo). Finds target origin t (failed ++ n ∷ []) mid new between links' o) (sym e) h)
