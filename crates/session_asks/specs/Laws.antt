-- Laws over all that a call may ask.
use Rattle.std.specs.Prelude.{◌≡◌, ◌⊎◌, ⊤, ℕ, List, [], ◌∷◌, ◌++◌, Option, None}
use Rattle.pgw_messages.specs.declared.params.Pair.{Pair}
use Rattle.proxy_outside.specs.declared.identity.SessionNo.{SessionNo}
use Rattle.proxy_hub.specs.declared.command.HubCommand.{HubCommand}
use Rattle.proxy_hub.specs.declared.command.HubCommand.TheVariants.{Admit}
use Rattle.proxy_hub.specs.declared.reply.HubReply.{HubReply}
use Rattle.proxy_hub.specs.declared.reply.HubReply.TheVariants.{Admitted, Picked, MoveTo}
use Rattle.proxy_outside.specs.declared.place.Place.{Place}
use Rattle.proxy_links.specs.declared.dialer.Dial.{Dial}
use Rattle.session_trace.specs.Trace.{Opening, Round}
use Rattle.session_asks.specs.Asks.{Ask}
use Rattle.session_asks.specs.Between.{attempts_in, places_named, AsksInRounds, AsksAfter}
use Rattle.session_asks.specs.Admission.{Client}
use Rattle.session_asks.specs.Fits.{Outside, FitsHub}

-- as many attempts as places that the hub named
abbrev pub AttemptsAreNamed : Type 0
AttemptsAreNamed = (p : List Pair) (c : Client) (o : Outside) (opened : Option Opening) (rs : List Round) → FitsHub p c o opened rs → places_named o.asked ≡ attempts_in rs

-- where the hub's list doesn't begin with an admission nothing is dialed, and the client gets no key
abbrev pub OnlyTheAdmittedAreDialed : Type 0
OnlyTheAdmittedAreDialed =
    (p : List Pair) (c : Client) (o : Outside) (opened : Option Opening) (rs : List Round) → FitsHub p c o opened rs
    → ((now : ℕ) (n : SessionNo) (more : List (HubCommand × HubReply)) → o.asked ≡ (Admit c.peer c.tenant now, Admitted n) ∷ more → ⊥)
    → (o.dials ≡ []) × (c.key ≡ None)

-- one round more
abbrev pub AsksGoOn : Type 0
AsksGoOn = (n : SessionNo) (r : Round) (rs : List Round) (earlier later : List Ask) → AsksInRounds n rs earlier → AsksAfter n r rs later → AsksInRounds n (r ∷ rs) (earlier ++ later)

-- ---- which pods are dialed

-- the place that a reply names
abbrev pub place_in : HubReply → List Place
place_in (Picked place) = place ∷ []
place_in (MoveTo place) = place ∷ []
place_in _ = []

abbrev pub places_in : List (HubCommand × HubReply) → List Place
places_in [] = []
places_in (c ∷ cs) = place_in c.1 ++ places_in cs

-- the dials are to some of these places, in their order
abbrev pub GoTo : List Dial → List Place → Type 0
GoTo [] ps = ⊤
GoTo (d ∷ ds) [] = ⊥
GoTo (d ∷ ds) (p ∷ ps) = ((d.place ≡ p) × GoTo ds ps) ⊎ GoTo (d ∷ ds) ps

-- no pod is dialed but those that the hub named, each once a naming
abbrev pub DialsAreNamed : Type 0
DialsAreNamed = (p : List Pair) (c : Client) (o : Outside) (opened : Option Opening) (rs : List Round) → FitsHub p c o opened rs → GoTo o.dials (places_in o.asked)
