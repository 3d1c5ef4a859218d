-- What a port asks at a desk: its list grows by the call, whose reply is of a kind that the command may have.
use Rattle.std.proofs.Common.{◌≡◌, List, [], ◌∷◌, ◌++◌, ℕ, sym, ap, ◌∙◌, subst, map}
use Rattle.std.proofs.lemmas.List.{map-append}
use Rattle.counted_desk.specs.declared.answer.Receipt.{Receipt}
use Rattle.counted_desk.specs.History.{entry, AreReplies, AreAt as AreAtPlaces, AreAnsweredIn}
use Rattle.counted_desk.specs.Calls.{Made}
use Rattle.counted_desk.specs.Seats.{Sight}
use Rattle.proxy_hub.specs.declared.command.HubCommand.{HubCommand}
use Rattle.proxy_hub.specs.declared.reply.HubReply.{HubReply}
use Rattle.proxy_hub.specs.States.{State, opening}
use Rattle.proxy_hub.specs.Steps.{reply, next, hub_rules}
use Rattle.proxy_hub.specs.Ports.{Suits}
use Rattle.proxy_hub.specs.AtDesks.{HubEntry, IsAnswered, AreAt, AreAnswered, asked_by}
use Rattle.proxy_hub.proofs.Suiting.{suits}

-- the last reply of a history is the hub's in some state
last_is_the_hubs : (s : State) (es : List HubEntry) (e : HubEntry) → AreReplies hub_rules s (es ++ e ∷ []) → (t : State) × (e.reply ≡ reply t e.command)
last_is_the_hubs s [] e r = (s, r.0)
last_is_the_hubs s (x ∷ xs) e r = last_is_the_hubs (next s x.command) xs e r.1

pub suits_made : (most : ℕ) (old new : Sight HubCommand HubReply) (c : HubCommand) (r : Receipt HubReply) → Made hub_rules most old new c r → Suits c r.reply
suits_made most old new c r m =
    let last = last_is_the_hubs opening (old.seen ++ m.between) (entry new.last c r.reply) (subst (AreReplies hub_rules opening) m.seen m.legal.replies) in
    subst (Suits c) (sym last.1) (suits last.0 c)

pub lists_made : (most : ℕ) (old new : Sight HubCommand HubReply) (c : HubCommand) (r : Receipt HubReply) → Made hub_rules most old new c r → asked_by new ≡ asked_by old ++ (c, r.reply) ∷ []
lists_made most old new c r m = ap (map (λ (e : HubEntry). (e.command, e.reply))) m.own ∙ map-append _ old.own (entry new.last c r.reply ∷ [])

all_at : (seen own : List HubEntry) (ks : List ℕ) → AreAtPlaces hub_rules seen own ks → AreAt seen (map (λ (e : HubEntry). (e.command, e.reply)) own) ks
all_at seen [] [] a = tt
all_at seen (e ∷ es) (k ∷ ks) a =
    let h = a.0.0 in
    ((record { before = h.before; ticket = e.ticket; after = h.after; place = h.place; reply = h.reply }, a.0.1), all_at seen es ks a.1)
all_at seen [] (k ∷ ks) a = absurd a
all_at seen (e ∷ es) [] a = absurd a

pub all_answered : (seen own : List HubEntry) → AreAnsweredIn hub_rules seen own → AreAnswered seen (map (λ (e : HubEntry). (e.command, e.reply)) own)
all_answered seen own a = record { places = a.places; apart = a.apart; each = all_at seen own a.places a.each }
