-- What is asked behind a greeting, as a call's asks have it.
use Rattle.std.proofs.Common.{◌≡◌, ℕ, Bool, true, false, ◌&&◌, List, [], ◌∷◌, ◌++◌, Option, Some, inl, inr, refl, sym, ap, ◌∙◌, subst}
use Rattle.std.specs.Prelude.{option_to_list, Err}
use Rattle.std.specs.List.{list_any}
use Rattle.pgw_messages.specs.declared.pod_key.PodKey.{PodKey}
use Rattle.pgw_frames.specs.Frames.{frames}
use Rattle.proxy_links.specs.Told.{Grows}
use Rattle.proxy_hub.specs.Ports.{Port}
use Rattle.session_model.specs.Heard.{has_ready}
use Rattle.session_trace.specs.Trace.{Opening, Round}
use Rattle.session_asks.specs.Asks.{Ask, InTurn, moments_in, words_in}
use Rattle.session_asks.specs.Between.{Binds}
use Rattle.session_asks.specs.Greetings.{keys_of, refuses_login, is_login_code}
use Rattle.session_asks.specs.Admission.{Client, EndsEarly, AfterOpening}
use Rattle.session_asks.specs.Admission as call
use Rattle.session_admission.specs.Asking.{AsksOn}
use Rattle.session_admission.proofs.Asked.{asked_more}
use Rattle.session_greeting.specs.declared.login.Greeted.{Greeted}
use Rattle.session_greeting.specs.declared.login.Greeted.TheVariants as came
use Rattle.session_opening.specs.Booking.{Reports, Accepts, Silent, Denies, Books}
use Rattle.session_opening.specs.Endings.{outcome}
use Rattle.session_opening.specs.declared.booking.Guest.{Guest}
use Rattle.session_opening.specs.declared.ending.Ending.{Ending}
use Rattle.session_opening.specs.declared.ending.Ending.TheVariants.{AuthRefused, Left, PodCut, ClientCut, NoMemory}
use Rattle.session_opening.proofs.Booked.{asked_nothing}
use Rattle.session_opening.specs.Shown.{is_auth_refused}
use Rattle.session_greeting.proofs.Went.{EndsAs}
use Rattle.session_opening.proofs.Endings.{keys_got, refused_got, has_got}
use Rattle.session_opening.proofs.Grown.{binds_still, grows_same, grows_as}

-- asks that fit this, with the moments that they tell and no word
pub record Booked (fits : List Ask → Type 0) (old new : Port) (given given' : Option (List ℕ)) : Type 0 where
  pub asks : List Ask
  pub asked : AsksOn old new asks
  pub moments : Grows given given' (moments_in asks)
  pub no_words : words_in asks ≡ []
  pub fitting : fits asks

abbrev pub guest_client : Guest → Bool → Client
guest_client g refused = record { peer = g.peer; tenant = g.tenant; session = Some g.session; key = Some g.key; auth_refused = refused }

silent : (fits : List Ask → Type 0) (old new : Port) (given given' : Option (List ℕ)) → fits [] → Silent old new given given' → Booked fits old new given given'
silent fits old new given given' none s = record {
  asks = [];
  asked = subst (λ (x : Port). AsksOn old x []) (sym s.0) (asked_nothing old);
  moments = grows_same given given' s.1;
  no_words = refl;
  fitting = none;
}

reports : (g : Guest) (ok refused : Bool) (old new : Port) (given given' : Option (List ℕ)) → Reports g ok old new given given' → Booked (call.Reports (guest_client g refused) ok) old new given given'
reports g ok refused old new given given' r = record {
  asks = r.told.asks;
  asked = r.told.asked;
  moments = grows_as given given' (r.now ∷ []) (moments_in r.told.asks) (ap moments_in (sym r.told.fitting.alone)) r.moment;
  no_words = ap words_in r.told.fitting.alone;
  fitting = (r.now, r.told.fitting);
}

-- a login that failed
refused : (g : Guest) (o : Opening) (b : Bool) (old new : Port) (given given' : Option (List ℕ)) → Denies g b old new given given' → Booked (EndsEarly (guest_client g true) b g.session o) old new given given'
refused g o true old new given given' r = reports g false true old new given given' r
refused g o false old new given given' s = silent (EndsEarly (guest_client g true) false g.session o) old new given given' (inl refl) s

-- where no session is ready
pub ends_early : (g : Guest) (o : Opening) (greeted : Greeted) (e : Ending) (asked taken given : List ℕ) (old new : Port) (m m' : Option (List ℕ)) → outcome greeted ≡ Err e → EndsAs greeted g.key asked o.got taken given
    → Books g greeted old new m m' → Booked (EndsEarly (guest_client g (is_auth_refused e)) (is_auth_refused e && refuses_login o) g.session o) old new m m'
ends_early g o (came.Ready key waits) e asked taken given old new m m' is ends b = absurd (cc)
ends_early g o (came.Refused fields) e asked taken given old new m m' is ends b =
    let why : AuthRefused fields ≡ e = cc in
    let same : list_any is_login_code fields ≡ refuses_login o = sym (refused_got g.key fields o.got given ends) in
    let booked = refused g o (list_any is_login_code fields) old new m m' b in
    subst (λ (x : Ending). Booked (EndsEarly (guest_client g (is_auth_refused x)) (is_auth_refused x && refuses_login o) g.session o) old new m m') why
    (subst (λ (x : Bool). Booked (EndsEarly (guest_client g true) x g.session o) old new m m') same booked)
ends_early g o came.Left e asked taken given old new m m' is ends s =
    let why : Left ≡ e = cc in
    subst (λ (x : Ending). Booked (EndsEarly (guest_client g (is_auth_refused x)) (is_auth_refused x && refuses_login o) g.session o) old new m m') why
    (silent (EndsEarly (guest_client g false) false g.session o) old new m m' (inl refl) s)
ends_early g o (came.PodCut c) e asked taken given old new m m' is ends s =
    let why : PodCut c ≡ e = cc in
    subst (λ (x : Ending). Booked (EndsEarly (guest_client g (is_auth_refused x)) (is_auth_refused x && refuses_login o) g.session o) old new m m') why
    (silent (EndsEarly (guest_client g false) false g.session o) old new m m' (inl refl) s)
ends_early g o (came.ClientCut c) e asked taken given old new m m' is ends s =
    let why : ClientCut c ≡ e = cc in
    subst (λ (x : Ending). Booked (EndsEarly (guest_client g (is_auth_refused x)) (is_auth_refused x && refuses_login o) g.session o) old new m m') why
    (silent (EndsEarly (guest_client g false) false g.session o) old new m m' (inl refl) s)
ends_early g o came.NoMemory e asked taken given old new m m' is ends s =
    let why : NoMemory ≡ e = cc in
    subst (λ (x : Ending). Booked (EndsEarly (guest_client g (is_auth_refused x)) (is_auth_refused x && refuses_login o) g.session o) old new m m') why
    (silent (EndsEarly (guest_client g false) false g.session o) old new m m' (inl refl) s)

-- ---- where one is

lets_in : (g : Guest) (keys : List PodKey) (old new : Port) (m m' : Option (List ℕ)) → Accepts g keys old new m m' → Booked (InTurn (call.Reports (guest_client g false) true) (Binds g.session keys)) old new m m'
lets_in g keys old new m m' l =
    let r = reports g true false old l.between m m' l.reports in
    let s = binds_still g.session keys l.binds.asks l.binds.fitting in
    let one : r.asks ≡ _ ∷ [] = r.fitting.1.alone in
    let all : moments_in (r.asks ++ l.binds.asks) ≡ moments_in r.asks =
    ap (λ (v : List Ask). moments_in (v ++ l.binds.asks)) one ∙ ap (λ (v : List ℕ). r.fitting.0 ∷ v) s.moments ∙ sym (ap moments_in one) in
    record {
      asks = r.asks ++ l.binds.asks;
      asked = asked_more old l.between new r.asks l.binds.asks r.asked l.binds.asked;
      moments = grows_as m m' (moments_in r.asks) (moments_in (r.asks ++ l.binds.asks)) (sym all) r.moments;
      no_words = ap (λ (v : List Ask). words_in (v ++ l.binds.asks)) one ∙ s.words;
      fitting = record { front = r.asks; back = l.binds.asks; whole = refl; begins = r.fitting; ends = l.binds.fitting };
    }

-- whatever rounds follow
pub record LetIn (g : Guest) (o : Opening) (old new : Port) (m m' : Option (List ℕ)) : Type 0 where
  pub booked : Booked (call.LetsIn (guest_client g false) g.session o) old new m m'
  pub ready : has_ready (frames o.got) ≡ true

pub let_in : (g : Guest) (o : Opening) (key : Option PodKey) (waits : ℕ) (asked taken given : List ℕ) (old new : Port) (m m' : Option (List ℕ)) → EndsAs (came.Ready key waits) g.key asked o.got taken given
    → Books g (came.Ready key waits) old new m m' → LetIn g o old new m m'
let_in g o key waits asked taken given old new m m' ends b =
    let same : option_to_list key ≡ keys_of o = sym (keys_got g.key o.got given ends.by ∙ ends.keys) in
    record {
      booked = subst (λ (ks : List PodKey). Booked (InTurn (call.Reports (guest_client g false) true) (Binds g.session ks)) old new m m') same (lets_in g (option_to_list key) old new m m' b);
      ready = has_got g.key o.got given ends.by;
    }

-- behind an opening whose session is ready
pub after_opening : (g : Guest) (o : Opening) (rs : List Round) (as_ : List Ask) → has_ready (frames o.got) ≡ true → call.LetsIn (guest_client g false) g.session o as_ → AfterOpening (guest_client g false) g.session o rs as_
after_opening g o [] as_ ready l = inr (ready, l)
after_opening g o (r ∷ rs) as_ ready l = l
