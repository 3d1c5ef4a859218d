-- Which traces are honest: what was got of a link answers what was sent on it, and nothing that was sent later.
use Rattle.std.specs.Prelude.{◌≡◌, ◌⊎◌, length, List, [], ◌∷◌, ℕ, ◌++◌, drop}
use Rattle.pgw_frames.specs.declared.frame.Frame.{Frame}
use Rattle.pgw_frames.specs.Frames.{frames, render, Begins}
use Rattle.pgw_messages.specs.declared.params.Pair.{Pair}
use Rattle.proxy_outside.specs.Rules.{Rules}
use Rattle.session_model.specs.Kind.{Kind}
use Rattle.pgw_messages.specs.Startup as startup
use Rattle.session_trace.specs.Trace.{Same, Moved, Next, Opening, Round, Trace, held_last}
use Rattle.session_trace.specs.Records.{link_got, link_sent}
use Rattle.session_trace.specs.Replies.{Told, pair, Legal, replies}
use Rattle.session_trace.specs.Login.{login_bytes}
use Rattle.session_trace.specs.Journey.{Pod, open_pod, older_next}

-- the greeting of a pod is that of the kind, but for the eight bytes of a key
abbrev pub SameButKey : Frame → Frame → Type 0
SameButKey f g = (f ≡ g) ⊎ ((f.tag ≡ 75) × (g.tag ≡ 75) × (length f.body ≡ 8) × (length g.body ≡ 8))

abbrev pub SameButKeys : List Frame → List Frame → Type 0
SameButKeys [] [] = Unit {0}
SameButKeys (f ∷ fs) (g ∷ gs) = SameButKey f g × SameButKeys fs gs
SameButKeys [] (g ∷ gs) = ⊥
SameButKeys (f ∷ fs) [] = ⊥

-- what is told to a session by bytes, with a link's answers
abbrev pub told_on : {A : Type 0} → Pod A → List ℕ → List (Told A)
told_on pod sent_ = pair (frames sent_) pod.answers

-- its greeting is that of the kind, and each answer is one that a store gives
abbrev pub AnswersAs : {S T C A : Type 0} → Kind S C A → Rules T C A → List Pair → Pod A → List ℕ → Type 0
AnswersAs k rules p pod sent_ = SameButKeys pod.greeting (k.begins p).1 × Legal k rules (k.begins p).0 (told_on pod sent_)

-- what was sent on a link that no session is told: the packet, and on the first link the client's login
abbrev pub head_next : Next → List ℕ → List ℕ
head_next Same b = b
head_next (Moved c o) b = o.packet

abbrev pub head_sent : Opening → List Round → List ℕ
head_sent first [] = first.packet ++ first.asked
head_sent first (r ∷ rs) = head_next r.next (head_sent first rs)

abbrev pub login_next : Next → List ℕ → List ℕ
login_next Same b = b
login_next (Moved c o) b = []

-- the login on the open link, of which later links have none
abbrev pub head_got : Opening → List Round → List ℕ
head_got first [] = login_bytes first.got
head_got first (r ∷ rs) = login_next r.next (head_got first rs)

-- what a session is told of what was sent
abbrev pub told_bytes : Opening → List Round → List ℕ → List ℕ
told_bytes first rs sent_ = drop (length (head_sent first rs)) sent_

-- what was got begins the login, the greeting, and the replies to what was sent up to there
abbrev pub IsHonestAt : {S C A : Type 0} → Kind S C A → List Pair → Pod A → Opening → List Round → List ℕ → List ℕ → Type 0
IsHonestAt k p pod first rs sent_ got_ =
    Begins got_ (head_got first rs ++ (render pod.greeting ++ render (replies k (k.begins p).0 (told_on pod (told_bytes first rs sent_)))))

-- at the end of a link its pod's answers are those of a session too
abbrev pub AtLeaving : {S T C A : Type 0} → Kind S C A → Rules T C A → List Pair → Pod A → Opening → List Round → List ℕ → List ℕ → Type 0
AtLeaving k rules p pod first rs sent_ got_ = AnswersAs k rules p pod (told_bytes first rs sent_) × IsHonestAt k p pod first rs sent_ got_

abbrev pub HonestAsk : List ℕ → Type 0 → Type 0
HonestAsk [] place = Unit {0}
HonestAsk (x ∷ xs) place = place

abbrev pub HonestEnd : Next → Type 0 → Type 0
HonestEnd Same ends = Unit {0}
HonestEnd (Moved c o) ends = ends

-- at the end of the last link, where its last round sent no transfer Query
abbrev pub HonestLast : List Round → Type 0 → Type 0
HonestLast [] place = place
HonestLast (r ∷ rs) place = r.ask ≡ [] → place

-- before each transfer Query, and at the end of each link that was left
abbrev pub HonestRounds : {S T C A : Type 0} → Kind S C A → Rules T C A → List Pair → Opening → List Round → List (Pod A) → Type 0
HonestRounds k rules p first [] pods = Unit {0}
HonestRounds k rules p first (r ∷ rs) pods =
    HonestAsk r.ask (IsHonestAt k p (open_pod (older_next r.next pods)) first rs (link_sent first rs ++ r.forwarded) (link_got first rs ++ r.relayed))
    × HonestEnd r.next (AtLeaving k rules p (open_pod (older_next r.next pods)) first rs (link_sent first rs ++ r.forwarded ++ r.ask) (link_got first rs ++ r.relayed ++ r.answer))
    × HonestRounds k rules p first rs (older_next r.next pods)

pub record IsHonest {S T C A : Type 0} (k : Kind S C A) (rules : Rules T C A) (p : List Pair) (t : Trace) (pods : List (Pod A)) : Type 0 where
  pub small : startup.Fits p
  pub rounds : HonestRounds k rules p t.first t.rounds pods
  pub answers : AnswersAs k rules p (open_pod pods) (told_bytes t.first t.rounds (link_sent t.first t.rounds))
  pub ends : HonestLast t.rounds (IsHonestAt k p (open_pod pods) t.first t.rounds (link_sent t.first t.rounds) (link_got t.first t.rounds ++ held_last t.rounds))
