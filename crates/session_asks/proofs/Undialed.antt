-- Where the hub didn't admit the client nothing is dialed.
use Rattle.std.proofs.Common.{◌≡◌, ℕ, List, [], ◌∷◌, ◌++◌, Option, Some, None, refl, ap, ◌∙◌}
use Rattle.proxy_links.specs.declared.dialer.Dial.{Dial}
use Rattle.proxy_outside.specs.declared.identity.SessionNo.{SessionNo}
use Rattle.proxy_hub.specs.declared.command.HubCommand.{HubCommand}
use Rattle.proxy_hub.specs.declared.command.HubCommand.TheVariants.{Admit}
use Rattle.proxy_hub.specs.declared.reply.HubReply.{HubReply}
use Rattle.proxy_hub.specs.declared.reply.HubReply.TheVariants as say
use Rattle.session_trace.specs.Trace.{Opening, Round}
use Rattle.session_asks.specs.Asks.{Ask, ask, answered, Fitting}
use Rattle.session_asks.specs.Dialing.{dials_in}
use Rattle.session_asks.specs.Admission.{Client, Undialed, AfterAdmit}
use Rattle.session_asks.specs.Laws.{OnlyTheAdmittedAreDialed}

none_dialed : (c : Client) (ds dials : List Dial) (opened : Option Opening) (rs : List Round) → ds ≡ dials ++ dials_in rs → Undialed dials opened rs → c.key ≡ None → (ds ≡ []) × (c.key ≡ None)
none_dialed c ds dials opened rs e u k = (e ∙ ap (λ (v : List Dial). v ++ dials_in rs) u.none ∙ ap dials_in u.no_round, k)

by_reply : (c : Client) (now : ℕ) (ds dials : List Dial) (opened : Option Opening) (rs : List Round) (reply : Option HubReply) (more : List Ask)
    → ds ≡ dials ++ dials_in rs
    → ((n : SessionNo) (rest : List (HubCommand × HubReply)) → answered (ask (Admit c.peer c.tenant now) reply ∷ more) ≡ (Admit c.peer c.tenant now, say.Admitted n) ∷ rest → ⊥)
    → Fitting (Admit c.peer c.tenant now) reply → AfterAdmit c dials opened rs reply more → (ds ≡ []) × (c.key ≡ None)
by_reply c now ds dials opened rs (Some (say.Admitted n)) more e not f h = absurd (not n (answered more) refl)
by_reply c now ds dials opened rs (Some say.Done) more e not f h = absurd f
by_reply c now ds dials opened rs (Some (say.Stale version)) more e not f h = absurd f
by_reply c now ds dials opened rs (Some (say.No why)) more e not f h = none_dialed c ds dials opened rs e h.2 h.1
by_reply c now ds dials opened rs (Some (say.Key key)) more e not f h = absurd f
by_reply c now ds dials opened rs (Some (say.Picked place)) more e not f h = absurd f
by_reply c now ds dials opened rs (Some (say.MoveTo place)) more e not f h = absurd f
by_reply c now ds dials opened rs (Some say.Stay) more e not f h = absurd f
by_reply c now ds dials opened rs (Some (say.Moves moves)) more e not f h = absurd f
by_reply c now ds dials opened rs (Some (say.Found place key)) more e not f h = absurd f
by_reply c now ds dials opened rs (Some say.NoKey) more e not f h = absurd f
by_reply c now ds dials opened rs (Some say.NoSession) more e not f h = absurd f
by_reply c now ds dials opened rs None more e not f h = none_dialed c ds dials opened rs e h.2 h.1

pub only_admitted : OnlyTheAdmittedAreDialed
only_admitted p c o opened rs fits not =
    let h = fits.asks_hub in
    by_reply c h.now o.dials fits.first_dials opened rs h.reply h.more fits.dials
    (λ n rest e. not h.now n rest (fits.asked.listed ∙ ap answered h.asks ∙ e)) h.fitting h.behind
