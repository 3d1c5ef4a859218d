-- What a round adds to a trace so far, and what is told where a side ended.
use Rattle.std.specs.Prelude.{◌≡◌, ◌≢◌, ℕ, ◌+◌, List, [], ◌∷◌, Some, None}
use Rattle.pgw_frames.specs.Frames.{frames, bad}
use Rattle.proxy_outside.specs.Reading.{Origin, Rose}
use Rattle.proxy_outside.specs.Writing.{Target}
use Rattle.proxy_links.specs.Board.{Half}
use Rattle.proxy_links.specs.Links.{Links}
use Rattle.link_io.specs.Reading.{RoseBy, IsAtEnd}
use Rattle.session_legs.specs.declared.side.LegEnd.{LegEnd}
use Rattle.session_legs.specs.declared.side.LegEnd.TheVariants.{Parked, Over, Terminated, Ended, Cut, Bad, ReadFault, WriteFault, NoMemory}
use Rattle.session_trace.specs.Trace.{Same, Round, all_forwarded, all_relayed, held_last}
use Rattle.session_trace.specs.Running.{Now, Board}
use Rattle.session_trace.specs.SoFar.{SoFar}
use Rattle.session_trace.specs.Forwarded.{EndsInTerminate}
use Rattle.session_trace.specs.Looks.{IsLook, Sides, Holds, Boards, Looked}
use Rattle.session_round.specs.Standing.{Begin, Stands, Tells, IsShort, KeepsFaults, waits_left}

-- Why a side ended, by its source and its sink before and after its run, and by what was taken and not handed on: between two
-- messages, inside one, at a length that is none, or by a fault
abbrev pub Because : LegEnd → Origin → Origin → Target → Target → List ℕ → Type 0
Because Parked old new k l left = Unit {0}
Because Over old new k l left = Unit {0}
Because Terminated old new k l left = Unit {0}
Because Ended old new k l left = IsAtEnd new × (left ≡ [])
Because Cut old new k l left = IsAtEnd new × (left ≢ []) × (frames left ≡ []) × (bad left ≡ None)
Because (Bad n) old new k l left = (frames left ≡ []) × (bad left ≡ Some n)
Because ReadFault old new k l left = Rose old.faults new.faults
Because WriteFault old new k l left = Rose k.faults l.faults
Because NoMemory old new k l left = Unit {0}

-- what is held behind a side's end is short, but for want of memory or where a part of a message was written
abbrev pub LeavesShort : LegEnd → List ℕ → Type 0
LeavesShort Parked left = IsShort left
LeavesShort Over left = IsShort left
LeavesShort Terminated left = IsShort left
LeavesShort Ended left = IsShort left
LeavesShort Cut left = IsShort left
LeavesShort (Bad n) left = IsShort left
LeavesShort ReadFault left = IsShort left
LeavesShort WriteFault left = Unit {0}
LeavesShort NoMemory left = Unit {0}

-- a side's looks in all rounds
pub record AllSeen (old new : Half) (bytes : List ℕ) (before now : ℕ) : Type 0 where
  pub idles : ℕ
  pub rose : RoseBy before idles now
  pub looked : Looked old new bytes idles

-- behind the last of these rounds, which began at old
pub record Ends (b : Begin) (old n : Now) (links : Links) (board : Board) (why why' : LegEnd) (rs : List Round) : Type 0 where
  pub in_ : List ℕ
  pub out : List ℕ
  pub so_far : SoFar b.start n links b.first rs in_ out
  pub sides : Sides rs
  pub holds : Holds rs
  pub held : held_last rs ≡ out
  pub short : LeavesShort why' out
  pub bye : why ≡ Terminated → EndsInTerminate (all_forwarded rs)
  pub boards : Boards b.board board rs
  pub front : AllSeen b.board.front board.front (all_forwarded rs) b.client_waits n.client_in.waits
  pub back : AllSeen b.board.back board.back (all_relayed rs) b.pod_waits (waits_left rs + n.rx.waits)
  pub before : KeepsFaults b old
  pub request : Because why old.client_in n.client_in old.tx n.tx in_
  pub response : Because why' old.rx n.rx old.client_out n.client_out out

-- a round behind which nothing was asked, and how its sides ended
pub record IsRun (r : Round) (why why' : LegEnd) : Type 0 where
  pub attempt : r.attempt ≡ None
  pub ask : r.ask ≡ []
  pub answer : r.answer ≡ []
  pub trials : r.trials ≡ []
  pub next : r.next ≡ Same
  pub request : r.request ≡ why
  pub response : r.response ≡ why'

-- one round more; where both sides ended it with a look, the session stands behind it
pub record Went (b : Begin) (old n : Now) (links : Links) (board : Board) (why why' : LegEnd) (rs : List Round) : Type 0 where
  pub newest : Round
  pub run : IsRun newest why why'
  pub ends : Ends b old n links board why why' (newest ∷ rs)
  pub stands : IsLook why → IsLook why' → Stands b n links board (newest ∷ rs)

-- wherever the session stood before a round, over sources that tell bytes
abbrev pub KeepsTrace : Now → Now → Board → Board → LegEnd → LegEnd → Type 0
KeepsTrace old new board board' why why' = (b : Begin) (links : Links) (rs : List Round) → Stands b old links board rs → Tells new → Went b old new links board' why why' rs

-- sources that tell bytes did so before
abbrev pub TellsBefore : Now → Now → Type 0
TellsBefore old new = Tells new → Tells old
