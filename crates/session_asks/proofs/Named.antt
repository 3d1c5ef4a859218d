-- There are as many attempts as places that the hub named.
use Rattle.std.specs.Prelude.{◌&&◌}
use Rattle.std.proofs.Common.{◌≡◌, ℕ, List, [], ◌∷◌, Option, Some, None, refl, ap, ◌∙◌, arith, inl, inr}
use Rattle.proxy_links.specs.declared.dialer.Dial.{Dial}
use Rattle.proxy_outside.specs.declared.identity.SessionNo.{SessionNo}
use Rattle.proxy_hub.specs.declared.command.HubCommand.TheVariants.{Admit, GiveKey, Assign, Target, Release}
use Rattle.proxy_hub.specs.declared.reply.HubReply.{HubReply}
use Rattle.proxy_hub.specs.declared.reply.HubReply.TheVariants as say
use Rattle.session_trace.specs.Trace.{Next, Same, Moved, Opening, Attempt, Round, all_forwarded, all_relayed}
use Rattle.session_asks.specs.Greetings.{keys_of, refuses_login}
use Rattle.session_asks.specs.Asks.{Ask, ask, Alone, InTurn, Fitting}
use Rattle.session_asks.specs.Between.{Binds, Books, NamesNone, AsksTarget, AsksAfter, AsksInRounds, one_attempt, attempts_in, places_named}
use Rattle.session_asks.specs.Admission.{Client, AfterOpening, AfterAssign, AfterPicks, PicksPods, AfterKey, WantsKey, AfterAdmit}
use Rattle.session_asks.specs.Laws.{AttemptsAreNamed}
use Rattle.session_asks.proofs.Counted.{named, named_append, named_cons, no_move, in_turn, assigns_names, assign_reply, releases_names, binds_names, lets_in_names, early_names, picks_names}

-- ---- between rounds

books_names : (n : SessionNo) (next : Next) (as_ : List Ask) → Books n next as_ → named as_ ≡ 0
books_names n Same as_ b = ap named b
books_names n (Moved c o) as_ b = in_turn (Alone (Assign n o.place)) (Binds n (keys_of o)) as_ 0 0 (assigns_names n o) (binds_names n (keys_of o)) b

stays_names : (n : SessionNo) (reply : Option HubReply) → NamesNone reply → named (ask (Target n) reply ∷ []) ≡ 0
stays_names n None h = refl
stays_names n (Some r) h = let none = no_move (λ (x : HubReply). NamesNone (Some x)) (λ place e. e) r h in omega arith

target_names : (n : SessionNo) (f g : List ℕ) (r : Round) (o : Option Attempt) (as_ : List Ask) → AsksTarget n f g r o as_ → named as_ ≡ one_attempt o
target_names n f g r (Some a) as_ t =
    let whole = ap named t.1.asks in
    let both = named_append (ask (Target n) (Some (say.MoveTo a.place)) ∷ []) t.1.booked in
    let none = books_names n r.next t.1.booked t.1.books in
    omega arith
target_names n f g r None as_ (inl s) = ap named s.1.alone ∙ stays_names n s.1.reply s.1.none
target_names n f g r None as_ (inr s) = ap named s.1

pub rounds_names : (n : SessionNo) (rs : List Round) (as_ : List Ask) → AsksInRounds n rs as_ → named as_ ≡ attempts_in rs
rounds_names n [] as_ h = ap named h
rounds_names n (r ∷ rs) as_ h =
    in_turn (AsksInRounds n rs) (AsksAfter n r rs) as_ (attempts_in rs) (one_attempt r.attempt) (rounds_names n rs)
    (target_names n (all_forwarded (r ∷ rs)) (all_relayed (r ∷ rs)) r r.attempt) h

-- ---- behind the picks

opening_names : (c : Client) (n : SessionNo) (o : Opening) (rs : List Round) (as_ : List Ask) → AfterOpening c n o rs as_ → named as_ ≡ 0
opening_names c n o [] as_ h = early_names c (c.auth_refused && refuses_login o) n o as_ h
opening_names c n o (r ∷ rs) as_ h = lets_in_names c n o as_ h

none_in : (rs : List Round) → rs ≡ [] → attempts_in rs ≡ 0
none_in rs e = ap attempts_in e

assigned_names : (c : Client) (n : SessionNo) (o : Opening) (rs : List Round) (reply : Option HubReply) (as_ : List Ask) → AfterAssign c n o rs reply as_ → named as_ ≡ attempts_in rs
assigned_names c n o rs (Some r) as_ h = in_turn (AfterOpening c n o rs) (AsksInRounds n rs) as_ 0 (attempts_in rs) (opening_names c n o rs) (rounds_names n rs) h ∙ omega arith
assigned_names c n o rs None as_ h = let none = none_in rs h.0 in let e = ap named h.2 in omega arith

pick_names : (c : Client) (n : SessionNo) (opened : Option Opening) (rs : List Round) (as_ : List Ask) → AfterPicks c n opened rs as_ → named as_ ≡ attempts_in rs
pick_names c n None rs as_ h = let none = none_in rs h.0 in let e = ap named h.1 in omega arith
pick_names c n (Some o) rs as_ h =
    ap named h.asks ∙ named_cons (ask (Assign n o.place) h.reply) h.more (assign_reply n o h.reply h.fitting) ∙ assigned_names c n o rs h.reply h.more h.behind

served_names : (c : Client) (n : SessionNo) (dials : List Dial) (opened : Option Opening) (rs : List Round) (as_ : List Ask)
    → InTurn (PicksPods c.tenant dials) (AfterPicks c n opened rs) as_ → named as_ ≡ attempts_in rs
served_names c n dials opened rs as_ h =
    in_turn (PicksPods c.tenant dials) (AfterPicks c n opened rs) as_ 0 (attempts_in rs) (λ xs p. picks_names c.tenant [] dials xs p.picks) (pick_names c n opened rs) h ∙ omega arith

-- ---- the whole call

key_names : (c : Client) (n : SessionNo) (word : ℕ) (dials : List Dial) (opened : Option Opening) (rs : List Round) (reply : Option HubReply) (more : List Ask)
    → AfterKey c n word dials opened rs reply more → named (ask (GiveKey n c.peer word) reply ∷ more) ≡ attempts_in rs
key_names c n word dials opened rs None more h = let none = none_in rs h.1.no_round in let e = ap named h.2 in omega arith
key_names c n word dials opened rs (Some (say.Key key)) more h = named_cons (ask (GiveKey n c.peer word) (Some (say.Key key))) more refl ∙ served_names c n dials opened rs more h.1
key_names c n word dials opened rs (Some say.NoSession) more h = named_cons (ask (GiveKey n c.peer word) (Some say.NoSession)) more refl ∙ served_names c n dials opened rs more h.1
key_names c n word dials opened rs (Some say.Done) more h = absurd h
key_names c n word dials opened rs (Some (say.Stale version)) more h = absurd h
key_names c n word dials opened rs (Some (say.Admitted m)) more h = absurd h
key_names c n word dials opened rs (Some (say.No why)) more h = absurd h
key_names c n word dials opened rs (Some (say.Picked place)) more h = absurd h
key_names c n word dials opened rs (Some (say.MoveTo place)) more h = absurd h
key_names c n word dials opened rs (Some say.Stay) more h = absurd h
key_names c n word dials opened rs (Some (say.Moves moves)) more h = absurd h
key_names c n word dials opened rs (Some (say.Found place key)) more h = absurd h
key_names c n word dials opened rs (Some say.NoKey) more h = absurd h

wants_names : (c : Client) (n : SessionNo) (dials : List Dial) (opened : Option Opening) (rs : List Round) (as_ : List Ask) → WantsKey c n dials opened rs as_ → named as_ ≡ attempts_in rs
wants_names c n dials opened rs as_ h = ap named h.asks ∙ key_names c n h.word dials opened rs h.reply h.more h.behind

-- a client that is refused has no rounds
refused_names : (rs : List Round) (a : Ask) (more : List Ask) → named (a ∷ []) ≡ 0 → rs ≡ [] → more ≡ [] → named (a ∷ more) ≡ attempts_in rs
refused_names rs a more e none alone = named_cons a more e ∙ ap named alone ∙ let n = none_in rs none in omega arith

admit_names : (c : Client) (now : ℕ) (dials : List Dial) (opened : Option Opening) (rs : List Round) (reply : Option HubReply) (more : List Ask)
    → Fitting (Admit c.peer c.tenant now) reply → AfterAdmit c dials opened rs reply more → named (ask (Admit c.peer c.tenant now) reply ∷ more) ≡ attempts_in rs
admit_names c now dials opened rs None more f h = refused_names rs (ask (Admit c.peer c.tenant now) None) more refl h.2.no_round h.3
admit_names c now dials opened rs (Some (say.Admitted n)) more f h =
    named_cons (ask (Admit c.peer c.tenant now) (Some (say.Admitted n))) more refl
    ∙ in_turn (WantsKey c n dials opened rs) (Alone (Release n)) more (attempts_in rs) 0 (wants_names c n dials opened rs) (releases_names n) h.1 ∙ omega arith
admit_names c now dials opened rs (Some say.Done) more f h = absurd f
admit_names c now dials opened rs (Some (say.Stale version)) more f h = absurd f
admit_names c now dials opened rs (Some (say.No why)) more f h = refused_names rs (ask (Admit c.peer c.tenant now) (Some (say.No why))) more refl h.2.no_round h.3
admit_names c now dials opened rs (Some (say.Key key)) more f h = absurd f
admit_names c now dials opened rs (Some (say.Picked place)) more f h = absurd f
admit_names c now dials opened rs (Some (say.MoveTo place)) more f h = absurd f
admit_names c now dials opened rs (Some say.Stay) more f h = absurd f
admit_names c now dials opened rs (Some (say.Moves moves)) more f h = absurd f
admit_names c now dials opened rs (Some (say.Found place key)) more f h = absurd f
admit_names c now dials opened rs (Some say.NoKey) more f h = absurd f
admit_names c now dials opened rs (Some say.NoSession) more f h = absurd f

pub attempts_named : AttemptsAreNamed
attempts_named p c o opened rs fits =
    let h = fits.asks_hub in
    ap places_named fits.asked.listed ∙ ap named h.asks ∙ admit_names c h.now fits.first_dials opened rs h.reply h.more h.fitting h.behind
