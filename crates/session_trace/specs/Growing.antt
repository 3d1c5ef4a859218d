-- What a round, an exchange and a move add to a trace so far.
use Rattle.std.specs.Prelude.{ℕ, List, [], None, ◌≡◌, ◌∷◌, ◌++◌, Some}
use Rattle.session_legs.specs.Legs.{Flow}
use Rattle.session_legs.specs.declared.side.LegEnd.{LegEnd}
use Rattle.proxy_links.specs.Links.{Links, LinkRecord, LinkCounts}
use Rattle.proxy_links.specs.Told.{push, blank}
use Rattle.link_io.specs.Reading.{ReadOn}
use Rattle.link_io.specs.Writing.{Wrote}
use Rattle.session_trace.specs.Trace.{Round, Same, Opening, Attempt, Next, Moved}
use Rattle.session_trace.specs.Records.{record_of, open_link, link_got, link_sent}
use Rattle.session_trace.specs.Looks.{Boards}
use Rattle.session_trace.specs.Running.{written, RunsRound, Now, Board}
use Rattle.session_trace.specs.SoFar.{Start, SoFar}

-- the round that the flows of both legs make
abbrev pub round_of : Flow → Flow → List ℕ → LegEnd → LegEnd → Round
round_of m n held why why' = record {
  forwarded = written m;
  relayed = written n;
  held = held;
  attempt = None;
  ask = [];
  answer = [];
  trials = [];
  request = why;
  response = why';
  next = Same;
}

-- with one round more
abbrev pub GoesOn : Type 0
GoesOn =
    (start : Start) (old new : Now) (board board' : Board) (why why' : LegEnd) (r : RunsRound old new board board' why why') (links : Links) (first : Opening) (rs : List Round) (in_ out in' out' : List ℕ)
    → SoFar start old links first rs in_ out
    → in_ ++ (r.request.flow.kept ++ r.request.flow.lost) ≡ written r.request.flow ++ in'
    → out ++ (r.response.flow.kept ++ r.response.flow.lost) ≡ written r.response.flow ++ out'
    → SoFar start new links first (round_of r.request.flow r.response.flow out' why why' ∷ rs) in' out'

-- and so does the board
abbrev pub BoardsGoOn : Type 0
BoardsGoOn =
    (before board board' : Board) (old new : Now) (why why' : LegEnd) (rs : List Round) (held : List ℕ) (r : RunsRound old new board board' why why')
    → Boards before board rs → Boards before board' (round_of r.request.flow r.response.flow held why why' ∷ rs)

-- an exchange behind a round: what it sent and got on the old link, the links that it left, and where the session stands
abbrev pub exchanged : Round → Attempt → List ℕ → List ℕ → List LinkRecord → Next → Round
exchanged r a x y trials next = record {
  forwarded = r.forwarded;
  relayed = r.relayed;
  held = r.held;
  attempt = Some a;
  ask = x;
  answer = y;
  trials = trials;
  request = r.request;
  response = r.response;
  next = next;
}

-- the client's halves are as they were
pub record SameClient (old new : Now) : Type 0 where
  pub client_in : new.client_in ≡ old.client_in
  pub client_out : new.client_out ≡ old.client_out

-- the session stays on the old link
pub record StaysOn (old new : Now) (links links' : Links) (x y : List ℕ) (trials : List LinkRecord) : Type 0 where
  pub client : SameClient old new
  pub asked : Wrote old.tx new.tx x
  pub idles : ℕ
  pub answered : ReadOn old.rx new.rx y idles
  pub records : links'.records ≡ push links.records trials

-- it moved: the old link was hung up, and the new one stands at its opening
pub record MovesOn (start : Start) (old new : Now) (links links' : Links) (before : Opening) (x y sent_ got_ : List ℕ) (counts : LinkCounts) (o : Opening) : Type 0 where
  pub client : SameClient old new
  pub tx : new.tx.contents ≡ push (blank start.records) (o.packet ++ o.asked)
  pub rx : new.rx.taken ≡ push (blank start.records) o.got
  pub tx_number : new.tx.link ≡ o.number
  pub rx_number : new.rx.link ≡ o.number
  pub records : links'.records ≡ push links.records (record_of before counts (sent_ ++ x) (got_ ++ y) ∷ [])

-- a round after which nothing was asked yet
pub record IsPlain (r : Round) : Type 0 where
  pub ask : r.ask ≡ []
  pub answer : r.answer ≡ []
  pub trials : r.trials ≡ []
  pub next : r.next ≡ Same

-- with an exchange that leaves the session where it is
abbrev pub ExchangeGoesOn : Type 0
ExchangeGoesOn =
    (start : Start) (old new : Now) (links links' : Links) (first : Opening) (r : Round) (rs : List Round) (in_ : List ℕ) (a : Attempt) (x y : List ℕ) (trials : List LinkRecord)
    → SoFar start old links first (r ∷ rs) in_ [] → IsPlain r → StaysOn old new links links' x y trials
    → SoFar start new links' first (exchanged r a x y trials Same ∷ rs) in_ []

-- with a move
abbrev pub MoveGoesOn : Type 0
MoveGoesOn =
    (start : Start) (old new : Now) (links links' : Links) (first : Opening) (r : Round) (rs : List Round) (in_ : List ℕ) (a : Attempt) (x y : List ℕ) (counts : LinkCounts) (o : Opening)
    → SoFar start old links first (r ∷ rs) in_ [] → IsPlain r
    → MovesOn start old new links links' (open_link first rs) x y (link_sent first rs ++ r.forwarded) (link_got first rs ++ r.relayed) counts o
    → SoFar start new links' first (exchanged r a x y [] (Moved counts o) ∷ rs) in_ []
