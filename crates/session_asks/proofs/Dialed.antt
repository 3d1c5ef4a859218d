-- No pod is dialed but those that the hub named.
use Rattle.std.proofs.Common.{◌≡◌, ℕ, List, [], ◌∷◌, ◌++◌, Option, Some, None, refl, sym, ap, ◌∙◌, subst, append_assoc, append-nil, inl, inr}
use Rattle.pgw_messages.specs.declared.params.Pair.{Pair}
use Rattle.proxy_outside.specs.declared.identity.PodNo.{PodNo}
use Rattle.proxy_outside.specs.declared.identity.SessionNo.{SessionNo}
use Rattle.proxy_outside.specs.declared.identity.TenantId.{TenantId}
use Rattle.proxy_outside.specs.declared.place.Place.{Place}
use Rattle.proxy_links.specs.declared.dialer.Dial.{Dial}
use Rattle.proxy_hub.specs.declared.command.HubCommand.{HubCommand}
use Rattle.proxy_hub.specs.declared.command.HubCommand.TheVariants.{Admit, Release}
use Rattle.proxy_hub.specs.declared.reply.HubReply.{HubReply}
use Rattle.proxy_hub.specs.declared.reply.HubReply.TheVariants as say
use Rattle.session_trace.specs.Trace.{Opening, Attempt, Round, all_forwarded, all_relayed}
use Rattle.session_asks.specs.Asks.{Ask, ask, answered, Alone, InTurn, Fitting}
use Rattle.session_asks.specs.Between.{AsksTarget, AsksAfter, AsksInRounds}
use Rattle.session_asks.specs.Dialing.{dials_of, dials_in, DialsFor, DialsInRounds}
use Rattle.session_asks.specs.Admission.{Client, Picks, PicksPods, AfterOpening, AfterAssign, AfterPicks, AfterKey, WantsKey, AfterAdmit}
use Rattle.session_asks.specs.Laws.{place_in, places_in, GoTo, DialsAreNamed}
use Rattle.session_asks.proofs.Counted.{answered_append}

-- the places that these asks name
abbrev named : List Ask → List Place
named as_ = places_in (answered as_)

places_append : (xs ys : List (HubCommand × HubReply)) → places_in (xs ++ ys) ≡ places_in xs ++ places_in ys
places_append [] ys = refl
places_append (x ∷ xs) ys = ap (λ (v : List Place). place_in x.1 ++ v) (places_append xs ys) ∙ sym (append_assoc (place_in x.1) (places_in xs) (places_in ys))

named_append : (xs ys : List Ask) → named (xs ++ ys) ≡ named xs ++ named ys
named_append xs ys = ap places_in (answered_append xs ys) ∙ places_append (answered xs) (answered ys)

go_skip : (ds : List Dial) (p : Place) (ps : List Place) → GoTo ds ps → GoTo ds (p ∷ ps)
go_skip [] p ps h = tt
go_skip (d ∷ ds) p ps h = inr h

go_append : (ds es : List Dial) (ps qs : List Place) → GoTo ds ps → GoTo es qs → GoTo (ds ++ es) (ps ++ qs)
go_append [] es [] qs h k = k
go_append [] es (p ∷ ps) qs h k = go_skip es p (ps ++ qs) (go_append [] es ps qs tt k)
go_append (d ∷ ds) es [] qs h k = absurd h
go_append (d ∷ ds) es (p ∷ ps) qs (inl h) k = inl (h.0, go_append ds es ps qs h.1 k)
go_append (d ∷ ds) es (p ∷ ps) qs (inr h) k = inr (go_append (d ∷ ds) es ps qs h k)

go_turn : (before behind : List Ask → Type 0) (ds es : List Dial) (as_ : List Ask) → ((xs : List Ask) → before xs → GoTo ds (named xs)) → ((ys : List Ask) → behind ys → GoTo es (named ys)) → InTurn before behind as_ → GoTo (ds ++ es) (named as_)
go_turn before behind ds es as_ f g t =
    subst (λ (v : List Place). GoTo (ds ++ es) v) (sym (ap named t.whole ∙ named_append t.front t.back)) (go_append ds es (named t.front) (named t.back) (f t.front t.begins) (g t.back t.ends))

go_behind : (ds : List Dial) (a : Ask) (as_ : List Ask) → GoTo ds (named as_) → GoTo ds (named (a ∷ as_))
go_behind ds a as_ h = subst (λ (v : List Place). GoTo ds v) (sym (named_append (a ∷ []) as_)) (go_append [] ds (named (a ∷ [])) (named as_) tt h)

go_asks : (ds : List Dial) (a : Ask) (more as_ : List Ask) → as_ ≡ a ∷ more → GoTo ds (named more) → GoTo ds (named as_)
go_asks ds a more as_ e h = subst (λ (v : List Ask). GoTo ds (named v)) (sym e) (go_behind ds a more h)

go_first : (d : Dial) (ds : List Dial) (p : Place) (c : HubCommand) (r : HubReply) (more as_ : List Ask) → place_in r ≡ p ∷ [] → as_ ≡ ask c (Some r) ∷ more → d.place ≡ p → GoTo ds (named more) → GoTo (d ∷ ds) (named as_)
go_first d ds p c r more as_ names e there h =
    subst (λ (v : List Ask). GoTo (d ∷ ds) (named v)) (sym e)
    (subst (λ (v : List Place). GoTo (d ∷ ds) v) (sym (named_append (ask c (Some r) ∷ []) more))
    (subst (λ (v : List Place). GoTo (d ∷ ds) (v ++ [] ++ named more)) (sym names) (inl (there, h))))

no_dials : (rs : List Round) (ps : List Place) → rs ≡ [] → GoTo (dials_in rs) ps
no_dials rs ps e = subst (λ (v : List Round). GoTo (dials_in v) ps) (sym e) tt

-- ---- between rounds

by_dial : (p : List Pair) (n : SessionNo) (f g : List ℕ) (r : Round) (a : Attempt) (o : Option Dial) (as_ : List Ask) → a.dial ≡ o → DialsFor p r (Some a) → AsksTarget n f g r (Some a) as_ → GoTo (dials_of (Some a)) (named as_)
by_dial p n f g r a None as_ e h t = subst (λ (v : Option Dial). GoTo (dials_of (Some (record a { dial = v }))) (named as_)) (sym e) tt
by_dial p n f g r a (Some d) as_ e h t =
    let there = subst (λ (v : Option Dial). DialsFor p r (Some (record a { dial = v }))) e h in
    subst (λ (v : Option Dial). GoTo (dials_of (Some (record a { dial = v }))) (named as_)) (sym e) (go_first d [] a.place _ (say.MoveTo a.place) t.1.booked as_ refl t.1.asks there.1 tt)

by_attempt : (p : List Pair) (n : SessionNo) (f g : List ℕ) (r : Round) (o : Option Attempt) (as_ : List Ask) → DialsFor p r o → AsksTarget n f g r o as_ → GoTo (dials_of o) (named as_)
by_attempt p n f g r None as_ h t = tt
by_attempt p n f g r (Some a) as_ h t = by_dial p n f g r a a.dial as_ refl h t

in_rounds : (p : List Pair) (n : SessionNo) (rs : List Round) (as_ : List Ask) → DialsInRounds p rs → AsksInRounds n rs as_ → GoTo (dials_in rs) (named as_)
in_rounds p n [] as_ h t = tt
in_rounds p n (r ∷ rs) as_ h t =
    go_turn (AsksInRounds n rs) (AsksAfter n r rs) (dials_in rs) (dials_of r.attempt) as_ (λ xs x. in_rounds p n rs xs h.1 x)
    (λ ys y. by_attempt p n (all_forwarded (r ∷ rs)) (all_relayed (r ∷ rs)) r r.attempt ys h.0 y) t

-- ---- up to the first round

picks_go : (t : TenantId) (failed : List PodNo) (ds : List Dial) (as_ : List Ask) → Picks t failed ds as_ → GoTo ds (named as_)
picks_go t failed [] as_ h = tt
picks_go t failed (d ∷ ds) as_ h = go_first d ds d.place _ (say.Picked d.place) h.0 as_ refl h.1.asks refl (picks_go t (failed ++ d.place.pod ∷ []) ds h.0 h.3)

assigned_go : (p : List Pair) (c : Client) (n : SessionNo) (o : Opening) (rs : List Round) (reply : Option HubReply) (as_ : List Ask) → DialsInRounds p rs → AfterAssign c n o rs reply as_ → GoTo (dials_in rs) (named as_)
assigned_go p c n o rs (Some r) as_ h a = go_turn (AfterOpening c n o rs) (AsksInRounds n rs) [] (dials_in rs) as_ (λ xs x. tt) (λ ys y. in_rounds p n rs ys h y) a
assigned_go p c n o rs None as_ h a = no_dials rs (named as_) a.0

opened_go : (p : List Pair) (c : Client) (n : SessionNo) (opened : Option Opening) (rs : List Round) (as_ : List Ask) → DialsInRounds p rs → AfterPicks c n opened rs as_ → GoTo (dials_in rs) (named as_)
opened_go p c n None rs as_ h a = no_dials rs (named as_) a.0
opened_go p c n (Some o) rs as_ h a = go_asks (dials_in rs) _ a.more as_ a.asks (assigned_go p c n o rs a.reply a.more h a.behind)

served_go : (p : List Pair) (c : Client) (n : SessionNo) (dials : List Dial) (opened : Option Opening) (rs : List Round) (as_ : List Ask)
    → DialsInRounds p rs → InTurn (PicksPods c.tenant dials) (AfterPicks c n opened rs) as_ → GoTo (dials ++ dials_in rs) (named as_)
served_go p c n dials opened rs as_ h t =
    go_turn (PicksPods c.tenant dials) (AfterPicks c n opened rs) dials (dials_in rs) as_ (λ xs x. picks_go c.tenant [] dials xs x.picks) (λ ys y. opened_go p c n opened rs ys h y) t

-- ---- the whole call

undialed_go : (dials : List Dial) (rs : List Round) (ps : List Place) → dials ≡ [] → rs ≡ [] → GoTo (dials ++ dials_in rs) ps
undialed_go dials rs ps e f = subst (λ (v : List Dial). GoTo (v ++ dials_in rs) ps) (sym e) (no_dials rs ps f)

key_go : (p : List Pair) (c : Client) (n : SessionNo) (word : ℕ) (dials : List Dial) (opened : Option Opening) (rs : List Round) (reply : Option HubReply) (more : List Ask)
    → DialsInRounds p rs → AfterKey c n word dials opened rs reply more → GoTo (dials ++ dials_in rs) (named more)
key_go p c n word dials opened rs None more h a = undialed_go dials rs (named more) a.1.none a.1.no_round
key_go p c n word dials opened rs (Some (say.Key key)) more h a = served_go p c n dials opened rs more h a.1
key_go p c n word dials opened rs (Some say.NoSession) more h a = served_go p c n dials opened rs more h a.1
key_go p c n word dials opened rs (Some say.Done) more h a = absurd a
key_go p c n word dials opened rs (Some (say.Stale version)) more h a = absurd a
key_go p c n word dials opened rs (Some (say.Admitted m)) more h a = absurd a
key_go p c n word dials opened rs (Some (say.No why)) more h a = absurd a
key_go p c n word dials opened rs (Some (say.Picked place)) more h a = absurd a
key_go p c n word dials opened rs (Some (say.MoveTo place)) more h a = absurd a
key_go p c n word dials opened rs (Some say.Stay) more h a = absurd a
key_go p c n word dials opened rs (Some (say.Moves moves)) more h a = absurd a
key_go p c n word dials opened rs (Some (say.Found place key)) more h a = absurd a
key_go p c n word dials opened rs (Some say.NoKey) more h a = absurd a

wants_go : (p : List Pair) (c : Client) (n : SessionNo) (dials : List Dial) (opened : Option Opening) (rs : List Round) (as_ : List Ask) → DialsInRounds p rs → WantsKey c n dials opened rs as_ → GoTo (dials ++ dials_in rs) (named as_)
wants_go p c n dials opened rs as_ h a = go_asks (dials ++ dials_in rs) _ a.more as_ a.asks (key_go p c n a.word dials opened rs a.reply a.more h a.behind)

all_dials : (ds : List Dial) (ps : List Place) → GoTo (ds ++ []) ps → GoTo ds ps
all_dials ds ps h = subst (λ (v : List Dial). GoTo v ps) (append-nil ds) h

admit_go : (p : List Pair) (c : Client) (now : ℕ) (dials : List Dial) (opened : Option Opening) (rs : List Round) (reply : Option HubReply) (more : List Ask)
    → Fitting (Admit c.peer c.tenant now) reply → DialsInRounds p rs → AfterAdmit c dials opened rs reply more → GoTo (dials ++ dials_in rs) (named more)
admit_go p c now dials opened rs None more f h a = undialed_go dials rs (named more) a.2.none a.2.no_round
admit_go p c now dials opened rs (Some (say.No why)) more f h a = undialed_go dials rs (named more) a.2.none a.2.no_round
admit_go p c now dials opened rs (Some (say.Admitted n)) more f h a =
    all_dials (dials ++ dials_in rs) (named more) (go_turn (WantsKey c n dials opened rs) (Alone (Release n)) (dials ++ dials_in rs) [] more (λ xs x. wants_go p c n dials opened rs xs h x) (λ ys y. tt) a.1)
admit_go p c now dials opened rs (Some say.Done) more f h a = absurd f
admit_go p c now dials opened rs (Some (say.Stale version)) more f h a = absurd f
admit_go p c now dials opened rs (Some (say.Key key)) more f h a = absurd f
admit_go p c now dials opened rs (Some (say.Picked place)) more f h a = absurd f
admit_go p c now dials opened rs (Some (say.MoveTo place)) more f h a = absurd f
admit_go p c now dials opened rs (Some say.Stay) more f h a = absurd f
admit_go p c now dials opened rs (Some (say.Moves moves)) more f h a = absurd f
admit_go p c now dials opened rs (Some (say.Found place key)) more f h a = absurd f
admit_go p c now dials opened rs (Some say.NoKey) more f h a = absurd f
admit_go p c now dials opened rs (Some say.NoSession) more f h a = absurd f

pub dials_named : DialsAreNamed
dials_named p c o opened rs fits =
    let h = fits.asks_hub in
    subst (λ (ds : List Dial). GoTo ds (places_in o.asked)) (sym fits.dials)
    (subst (λ (v : List (HubCommand × HubReply)). GoTo (fits.first_dials ++ dials_in rs) (places_in v)) (sym fits.asked.listed)
    (go_asks (fits.first_dials ++ dials_in rs) _ h.more fits.asks h.asks (admit_go p c h.now fits.first_dials opened rs h.reply h.more h.fitting fits.dials_it h.behind)))
