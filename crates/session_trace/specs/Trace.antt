-- The trace of one connection: an opening, and rounds in which both legs run once, newest first.
use Rattle.std.specs.Prelude.{ℕ, List, Bool, Option, [], ◌∷◌, ◌++◌}
use Rattle.proxy_outside.specs.declared.place.Place.{Place}
use Rattle.proxy_links.specs.Links.{LinkCounts, LinkRecord}
use Rattle.proxy_links.specs.declared.dialer.Dial.{Dial}
use Rattle.session_legs.specs.declared.side.LegEnd.{LegEnd}

-- a link at its opening: its startup packet and what was sent behind it, and what was got
pub record Opening : Type 0 where
  pub number : ℕ
  pub place : Place
  pub packet : List ℕ
  pub asked : List ℕ
  pub got : List ℕ

-- the next round is on the same link, or this one was left with these counts for a new one
pub data Next : Type 0 where
  Same : Next
  Moved : LinkCounts → Opening → Next

-- an attempt to move the session to a place that the hub named: whether it was given up for want of memory, and its dial
pub record Attempt : Type 0 where
  pub place : Place
  pub starved : Bool
  pub dial : Option Dial

-- a run of both legs, and the exchange behind it
pub record Round : Type 0 where
  pub forwarded : List ℕ  -- to the pod
  pub relayed : List ℕ  -- to the client
  pub held : List ℕ  -- by the response side at the round's end
  pub attempt : Option Attempt
  pub ask : List ℕ  -- the transfer Query, as far as it was sent
  pub answer : List ℕ  -- its reply
  pub trials : List LinkRecord  -- the links that were dialed and left
  pub request : LegEnd  -- how each side ended its run
  pub response : LegEnd
  pub next : Next

pub record Trace : Type 0 where
  pub first : Opening
  pub rounds : List Round
  pub counts : LinkCounts  -- of the last link

-- a link begins anew with the opening that a move led to
abbrev pub link_sent_next : Next → List ℕ → List ℕ
link_sent_next Same b = b
link_sent_next (Moved c o) b = o.packet ++ o.asked

abbrev pub link_got_next : Next → List ℕ → List ℕ
link_got_next Same b = b
link_got_next (Moved c o) b = o.got

-- all that was forwarded
abbrev pub all_forwarded : List Round → List ℕ
all_forwarded [] = []
all_forwarded (r ∷ rs) = all_forwarded rs ++ r.forwarded

-- all that was relayed
abbrev pub all_relayed : List Round → List ℕ
all_relayed [] = []
all_relayed (r ∷ rs) = all_relayed rs ++ r.relayed

-- what was got last and not relayed
abbrev pub held_last : List Round → List ℕ
held_last [] = []
held_last (r ∷ rs) = r.held
