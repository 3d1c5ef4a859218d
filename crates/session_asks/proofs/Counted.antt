-- How often a place is named in the asks up to the first round: never.
use Rattle.std.proofs.Common.{◌≡◌, ℕ, ◌+◌, Bool, true, false, List, [], ◌∷◌, ◌++◌, Option, Some, None, refl, sym, ap, ◌∙◌, arith, append_assoc, inl, inr}
use Rattle.pgw_messages.specs.declared.pod_key.PodKey.{PodKey}
use Rattle.proxy_outside.specs.declared.identity.PodNo.{PodNo}
use Rattle.proxy_outside.specs.declared.identity.SessionNo.{SessionNo}
use Rattle.proxy_outside.specs.declared.identity.TenantId.{TenantId}
use Rattle.proxy_outside.specs.declared.place.Place.{Place}
use Rattle.proxy_links.specs.declared.dialer.Dial.{Dial}
use Rattle.proxy_hub.specs.declared.command.HubCommand.{HubCommand}
use Rattle.proxy_hub.specs.declared.command.HubCommand.TheVariants.{Assign, Bind, Pick, Report, Release}
use Rattle.proxy_hub.specs.declared.reply.HubReply.{HubReply}
use Rattle.proxy_hub.specs.declared.reply.HubReply.TheVariants as say
use Rattle.proxy_hub.specs.Ports.{IsDone, IsDoneOrNoSession, Suits}
use Rattle.session_trace.specs.Trace.{Opening}
use Rattle.session_asks.specs.Asks.{Ask, ask, answer_to, answered, Alone, InTurn, Fitting}
use Rattle.session_asks.specs.Between.{names_place, places_named, Binds}
use Rattle.session_asks.specs.Admission.{Client, PicksNone, Picks, Reports, LetsIn, EndsEarly, first_of, second_of}

-- how often a place is named in these asks
abbrev pub named : List Ask → ℕ
named as_ = places_named (answered as_)

places_append : (xs ys : List (HubCommand × HubReply)) → places_named (xs ++ ys) ≡ places_named xs + places_named ys
places_append [] ys = omega arith
places_append (x ∷ xs) ys = let more = places_append xs ys in omega arith

pub answered_append : (xs ys : List Ask) → answered (xs ++ ys) ≡ answered xs ++ answered ys
answered_append [] ys = refl
answered_append (x ∷ xs) ys =
    ap (λ (v : List (HubCommand × HubReply)). answer_to x.command x.reply ++ v) (answered_append xs ys) ∙ sym (append_assoc (answer_to x.command x.reply) (answered xs) (answered ys))

pub named_append : (xs ys : List Ask) → named (xs ++ ys) ≡ named xs + named ys
named_append xs ys = ap places_named (answered_append xs ys) ∙ places_append (answered xs) (answered ys)

-- an ask whose reply names no place
pub named_cons : (a : Ask) (as_ : List Ask) → named (a ∷ []) ≡ 0 → named (a ∷ as_) ≡ named as_
named_cons a as_ e = let both = named_append (a ∷ []) as_ in omega arith

pub in_turn : (before behind : List Ask → Type 0) (as_ : List Ask) (j k : ℕ) → ((xs : List Ask) → before xs → named xs ≡ j) → ((ys : List Ask) → behind ys → named ys ≡ k) → InTurn before behind as_ → named as_ ≡ j + k
in_turn before behind as_ j k f g t =
    let parts = ap named t.whole in
    let both = named_append t.front t.back in
    let front = f t.front t.begins in
    let back = g t.back t.ends in
    omega arith

-- ---- one command alone

-- a reply that can't be MoveTo names no place
pub no_move : (P : HubReply → Type 0) → ((place : Place) → P (say.MoveTo place) → ⊥) → (r : HubReply) → P r → names_place r ≡ 0
no_move P none (say.MoveTo place) h = absurd (none place h)
no_move P none say.Done h = refl
no_move P none (say.Stale version) h = refl
no_move P none (say.Admitted n) h = refl
no_move P none (say.No why) h = refl
no_move P none (say.Key key) h = refl
no_move P none (say.Picked place) h = refl
no_move P none say.Stay h = refl
no_move P none (say.Moves moves) h = refl
no_move P none (say.Found place key) h = refl
no_move P none say.NoKey h = refl
no_move P none say.NoSession h = refl

pub fitting_names : (c : HubCommand) → ((r : HubReply) → Suits c r → names_place r ≡ 0) → (reply : Option HubReply) → Fitting c reply → named (ask c reply ∷ []) ≡ 0
fitting_names c f None h = refl
fitting_names c f (Some r) h = let none = f r h in omega arith

alone_names : (c : HubCommand) → ((r : HubReply) → Suits c r → names_place r ≡ 0) → (as_ : List Ask) → Alone c as_ → named as_ ≡ 0
alone_names c f as_ a = ap named a.alone ∙ fitting_names c f a.reply a.fitting

pub assigns_names : (n : SessionNo) (o : Opening) (as_ : List Ask) → Alone (Assign n o.place) as_ → named as_ ≡ 0
assigns_names n o as_ a = alone_names (Assign n o.place) (no_move IsDoneOrNoSession (λ place h. h)) as_ a

pub assign_reply : (n : SessionNo) (o : Opening) (reply : Option HubReply) → Fitting (Assign n o.place) reply → named (ask (Assign n o.place) reply ∷ []) ≡ 0
assign_reply n o reply h = fitting_names (Assign n o.place) (no_move IsDoneOrNoSession (λ place h. h)) reply h

pub releases_names : (n : SessionNo) (as_ : List Ask) → Alone (Release n) as_ → named as_ ≡ 0
releases_names n as_ a = alone_names (Release n) (no_move IsDoneOrNoSession (λ place h. h)) as_ a

pub binds_names : (n : SessionNo) (ks : List PodKey) (as_ : List Ask) → Binds n ks as_ → named as_ ≡ 0
binds_names n [] as_ b = ap named b
binds_names n (k ∷ ks) as_ b = in_turn (Alone (Bind n k)) (Binds n ks) as_ 0 0 (alone_names (Bind n k) (no_move IsDoneOrNoSession (λ place h. h))) (binds_names n ks) b

reports_names : (c : Client) (ok : Bool) (as_ : List Ask) → Reports c ok as_ → named as_ ≡ 0
reports_names c ok as_ r = alone_names (Report c.peer c.tenant ok r.0) (no_move IsDone (λ place h. h)) as_ r.1

-- ---- the login

pub lets_in_names : (c : Client) (n : SessionNo) (o : Opening) (as_ : List Ask) → LetsIn c n o as_ → named as_ ≡ 0
lets_in_names c n o as_ l = in_turn (Reports c true) (Binds n _) as_ 0 0 (reports_names c true) (binds_names n _) l

pub early_names : (c : Client) (b : Bool) (n : SessionNo) (o : Opening) (as_ : List Ask) → EndsEarly c b n o as_ → named as_ ≡ 0
early_names c true n o as_ e = reports_names c false as_ e
early_names c false n o as_ (inl none) = ap named none
early_names c false n o as_ (inr l) = lets_in_names c n o as_ l.1

-- ---- the picks

none_names : (c : HubCommand) (reply : Option HubReply) → PicksNone reply → named (ask c reply ∷ []) ≡ 0
none_names c None h = refl
none_names c (Some r) h = let none = no_move (λ (x : HubReply). PicksNone (Some x)) (λ place e. e) r h in omega arith

pub picks_names : (t : TenantId) (failed : List PodNo) (ds : List Dial) (as_ : List Ask) → Picks t failed ds as_ → named as_ ≡ 0
picks_names t failed [] as_ (inl none) = ap named none
picks_names t failed [] as_ (inr l) = ap named l.alone ∙ none_names (Pick t (first_of failed) (second_of failed)) l.reply l.none
picks_names t failed (d ∷ ds) as_ p =
    ap named p.1.asks ∙ named_cons (ask (Pick t (first_of failed) (second_of failed)) (Some (say.Picked d.place))) p.0 refl ∙ picks_names t (failed ++ d.place.pod ∷ []) ds p.0 p.3
