-- What is asked between two rounds of a session.
use Rattle.std.specs.Prelude.{◌≡◌, ◌⊎◌, ℕ, ◌+◌, ⊤, List, [], ◌∷◌, Option, Some, None}
use Rattle.pgw_messages.specs.declared.pod_key.PodKey.{PodKey}
use Rattle.proxy_outside.specs.declared.identity.SessionNo.{SessionNo}
use Rattle.proxy_hub.specs.declared.command.HubCommand.{HubCommand}
use Rattle.proxy_hub.specs.declared.command.HubCommand.TheVariants.{Assign, Bind, Target}
use Rattle.proxy_hub.specs.declared.reply.HubReply.{HubReply}
use Rattle.proxy_hub.specs.declared.reply.HubReply.TheVariants.{MoveTo, Stay, NoSession}
use Rattle.session_legs.specs.declared.side.LegEnd.TheVariants.{Parked}
use Rattle.session_trace.specs.Trace.{Next, Same, Moved, Attempt, Round, all_forwarded, all_relayed}
use Rattle.session_trace.specs.Transfers.{IsSafe}
use Rattle.session_asks.specs.Greetings.{keys_of}
use Rattle.session_asks.specs.Asks.{Ask, ask, Nothing, Alone, InTurn}

-- each is bound to the session
abbrev pub Binds : SessionNo → List PodKey → List Ask → Type 0
Binds n [] as_ = Nothing as_
Binds n (k ∷ ks) as_ = InTurn (Alone (Bind n k)) (Binds n ks) as_

-- a move is booked: the session's place, and its pod's key
abbrev pub Books : SessionNo → Next → List Ask → Type 0
Books n Same as_ = Nothing as_
Books n (Moved c o) as_ = InTurn (Alone (Assign n o.place)) (Binds n (keys_of o)) as_

-- both sides parked at a safe point, and nothing is held
pub record IsDue (f g : List ℕ) (r : Round) : Type 0 where
  pub request : r.request ≡ Parked
  pub response : r.response ≡ Parked
  pub nothing_held : r.held ≡ []
  pub safe_there : IsSafe f g

-- the hub names no place
abbrev pub NamesNone : Option HubReply → Type 0
NamesNone None = ⊤
NamesNone (Some Stay) = ⊤
NamesNone (Some NoSession) = ⊤
NamesNone (Some _) = ⊥

-- the session's target was asked for, and stays out
pub record StaysOut (n : SessionNo) (as_ : List Ask) : Type 0 where
  pub reply : Option HubReply
  pub none : NamesNone reply
  pub alone : as_ ≡ ask (Target n) reply ∷ []

-- the hub named the place of the attempt; a move is booked behind it
pub record Names (n : SessionNo) (a : Attempt) (next : Next) (as_ : List Ask) : Type 0 where
  pub booked : List Ask
  pub asks : as_ ≡ ask (Target n) (Some (MoveTo a.place)) ∷ booked
  pub books : Books n next booked

-- a target is asked for exactly where one is due; where a place is named an attempt is made
abbrev pub AsksTarget : SessionNo → List ℕ → List ℕ → Round → Option Attempt → List Ask → Type 0
AsksTarget n f g r (Some a) as_ = IsDue f g r × Names n a r.next as_
AsksTarget n f g r None as_ = (IsDue f g r × StaysOut n as_) ⊎ ((IsDue f g r → ⊥) × Nothing as_)

-- after a round
abbrev pub AsksAfter : SessionNo → Round → List Round → List Ask → Type 0
AsksAfter n r rs as_ = AsksTarget n (all_forwarded (r ∷ rs)) (all_relayed (r ∷ rs)) r r.attempt as_

-- after each round
abbrev pub AsksInRounds : SessionNo → List Round → List Ask → Type 0
AsksInRounds n [] as_ = Nothing as_
AsksInRounds n (r ∷ rs) as_ = InTurn (AsksInRounds n rs) (AsksAfter n r rs) as_

-- ---- counts

abbrev pub one_attempt : Option Attempt → ℕ
one_attempt None = 0
one_attempt (Some a) = 1

-- how many attempts were made
abbrev pub attempts_in : List Round → ℕ
attempts_in [] = 0
attempts_in (r ∷ rs) = attempts_in rs + one_attempt r.attempt

abbrev pub names_place : HubReply → ℕ
names_place (MoveTo place) = 1
names_place _ = 0

-- how often the hub named a place to move to
abbrev pub places_named : List (HubCommand × HubReply) → ℕ
places_named [] = 0
places_named (c ∷ cs) = names_place c.1 + places_named cs
