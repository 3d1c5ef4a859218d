-- Honesty of what is behind the packet and the login: what the proof speaks of.
use Rattle.std.specs.Prelude.{◌≡◌, ℕ, List, [], ◌∷◌, ◌++◌}
use Rattle.pgw_frames.specs.Frames.{render, Begins}
use Rattle.pgw_messages.specs.Startup as startup
use Rattle.pgw_messages.specs.declared.params.Pair.{Pair}
use Rattle.proxy_outside.specs.Rules.{Rules}
use Rattle.session_model.specs.Kind.{Kind}
use Rattle.session_trace.specs.Replies.{replies}
use Rattle.session_trace.specs.Trace.{Next, Same, Moved, Round, Trace, held_last}
use Rattle.session_trace.specs.Journey.{Pod, open_pod, older_next, sent}
use Rattle.session_trace.specs.Login.{login_bytes}
use Rattle.session_trace.specs.Honest.{told_on, AnswersAs, HonestAsk, HonestEnd, HonestLast}

abbrev pub got_next : Next → List ℕ → List ℕ
got_next Same b = b
got_next (Moved c o) b = o.got

-- what was got on the open link behind the login frames, of which later links have none
abbrev pub got : List ℕ → List Round → List ℕ
got first [] = first
got first (r ∷ rs) = got_next r.next (got first rs ++ r.relayed ++ r.answer)

abbrev pub Place : {S C A : Type 0} → Kind S C A → List Pair → Pod A → List ℕ → List ℕ → Type 0
Place k p pod sent_ got_ = Begins got_ (render pod.greeting ++ render (replies k (k.begins p).0 (told_on pod sent_)))

abbrev pub LinkEnds : {S T C A : Type 0} → Kind S C A → Rules T C A → List Pair → Pod A → List ℕ → List ℕ → Type 0
LinkEnds k rules p pod sent_ got_ = AnswersAs k rules p pod sent_ × Place k p pod sent_ got_

abbrev pub HonestRounds : {S T C A : Type 0} → Kind S C A → Rules T C A → List Pair → List ℕ → List Round → List (Pod A) → Type 0
HonestRounds k rules p first [] pods = Unit {0}
HonestRounds k rules p first (r ∷ rs) pods =
    HonestAsk r.ask (Place k p (open_pod (older_next r.next pods)) (sent rs ++ r.forwarded) (got first rs ++ r.relayed))
    × HonestEnd r.next (LinkEnds k rules p (open_pod (older_next r.next pods)) (sent rs ++ r.forwarded ++ r.ask) (got first rs ++ r.relayed ++ r.answer))
    × HonestRounds k rules p first rs (older_next r.next pods)

pub record Honest {S T C A : Type 0} (k : Kind S C A) (rules : Rules T C A) (p : List Pair) (t : Trace) (pods : List (Pod A)) : Type 0 where
  pub small : startup.Fits p
  pub first : List ℕ
  pub behind_login : t.first.got ≡ login_bytes t.first.got ++ first
  pub rounds : HonestRounds k rules p first t.rounds pods
  pub answers : AnswersAs k rules p (open_pod pods) (sent t.rounds)
  pub ends : HonestLast t.rounds (Place k p (open_pod pods) (sent t.rounds) (got first t.rounds ++ held_last t.rounds))

-- a round with these bytes, that ends as another one
abbrev pub like : Round → List ℕ → List ℕ → List ℕ → List ℕ → Next → Round
like e fw rl x y next = record {
  forwarded = fw;
  relayed = rl;
  held = e.held;
  attempt = e.attempt;
  ask = x;
  answer = y;
  trials = e.trials;
  request = e.request;
  response = e.response;
  next = next;
}
