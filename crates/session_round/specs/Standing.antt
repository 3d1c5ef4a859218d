-- A session between two rounds: how its trace so far stands to what the connection owns.
use Rattle.std.specs.Prelude.{◌≡◌, ℕ, ◌+◌, ◌≤◌, false, List, [], ◌∷◌, ◌++◌, length, Option, Some, None}
use Rattle.std.specs.List.{AllByRecursion}
use Rattle.pgw_frames.specs.declared.frame.Frame.{Frame}
use Rattle.pgw_frames.specs.Frames.{IsBytes, IsGood, frames, render}
use Rattle.processor_core.specs.Stands.{RequestStands, ResponseStands}
use Rattle.proxy_links.specs.Board.{Half, raised}
use Rattle.proxy_links.specs.Links.{Links}
use Rattle.link_io.specs.Reading.{RoseBy}
use Rattle.session_trace.specs.Trace.{Next, Same, Moved, Opening, Round, all_forwarded, all_relayed, held_last}
use Rattle.session_trace.specs.Running.{Now, Board}
use Rattle.session_trace.specs.SoFar.{Start, SoFar}
use Rattle.session_trace.specs.Looks.{AllLooks, Holds, Boards}

-- ---- sources that tell bytes

abbrev pub TellsBytes : Option (List ℕ) → Type 0
TellsBytes None = ⊥
TellsBytes (Some b) = IsBytes b

-- the client's source and that of the open link tell what was taken of them
pub record Tells (n : Now) : Type 0 where
  pub client : TellsBytes n.client_in.taken
  pub pod : TellsBytes n.rx.taken

-- ---- where a session stands

-- what was told before the first round
pub record Begin : Type 0 where
  pub start : Start
  pub first : Opening
  pub board : Board
  pub client_waits : ℕ
  pub pod_waits : ℕ
  pub client_faults : ℕ  -- of the client's source and of its sink
  pub given_faults : ℕ

-- the messages that went each way, and what the processors hold behind them
pub record Streams (n : Now) (rs : List Round) (in_ out : List ℕ) : Type 0 where
  pub sent : List Frame
  pub got : List Frame
  pub sent_good : AllByRecursion IsGood sent
  pub got_good : AllByRecursion IsGood got
  pub forwarded : all_forwarded rs ≡ render sent
  pub relayed : all_relayed rs ≡ render got
  pub request : RequestStands n.request (render sent ++ in_) sent false
  pub response : ResponseStands n.response (render got ++ out) got false
  pub in_bytes : IsBytes (render sent ++ in_)
  pub out_bytes : IsBytes (render got ++ out)

-- of what is held no whole message ends before the last 8,192 bytes
pub record IsShort (held : List ℕ) : Type 0 where
  pub early : List ℕ
  pub late : List ℕ
  pub parts : held ≡ early ++ late
  pub few : length late ≤ 8192
  pub none_early : frames early ≡ []

-- the looks of a side: one for each message, and one for each time that nothing came
pub record Seen (old new : Half) (fs : List Frame) (before now : ℕ) : Type 0 where
  pub idles : ℕ
  pub rose : RoseBy before idles now
  pub looks : new.looks ≡ raised old.looks (length fs + idles)

abbrev pub waits_next : Next → ℕ
waits_next Same = 0
waits_next (Moved c o) = c.waits

-- the waits of the links that were left by a move
abbrev pub waits_left : List Round → ℕ
waits_left [] = 0
waits_left (r ∷ rs) = waits_left rs + waits_next r.next

-- the client's faults never fall
pub record KeepsFaults (b : Begin) (n : Now) : Type 0 where
  pub read : b.client_faults ≤ n.client_in.faults
  pub write : b.given_faults ≤ n.client_out.faults

-- behind these rounds, newest first: each ended with a look on both sides
pub record Stands (b : Begin) (n : Now) (links : Links) (board : Board) (rs : List Round) : Type 0 where
  pub in_ : List ℕ
  pub out : List ℕ
  pub so_far : SoFar b.start n links b.first rs in_ out
  pub streams : Streams n rs in_ out
  pub looks : AllLooks rs
  pub holds : Holds rs
  pub held : held_last rs ≡ out
  pub short : IsShort out
  pub boards : Boards b.board board rs
  pub front : Seen b.board.front board.front streams.sent b.client_waits n.client_in.waits
  pub back : Seen b.board.back board.back streams.got b.pod_waits (waits_left rs + n.rx.waits)
  pub faults : KeepsFaults b n
