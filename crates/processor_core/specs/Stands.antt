-- What a processor stands for: what was fed to it, what it handed out, and whether it is suspended.
use Rattle.std.specs.Prelude.{◌≡◌, ℕ, Bool, List}
use Rattle.pgw_frames.specs.declared.frame.Frame.{Frame}
use Rattle.processor_core.specs.Streams.{StreamStands}
use Rattle.processor_core.specs.Tallies.{request_tally, RepliesAre}
use Rattle.processor_core.specs.declared.request.Request.{Request}
use Rattle.processor_core.specs.declared.response.Response.{Response}

pub record RequestStands (r : Request) (fed : List ℕ) (handed : List Frame) (suspended : Bool) : Type 0 where
  pub stream : StreamStands r.stream fed handed suspended
  pub tally : r.tally ≡ request_tally handed

pub record ResponseStands (r : Response) (fed : List ℕ) (handed : List Frame) (suspended : Bool) : Type 0 where
  pub stream : StreamStands r.stream fed handed suspended
  pub replies : RepliesAre r.replies handed

-- what old stood for, new stands for
abbrev pub RequestKeeps : Request → Request → Type 0
RequestKeeps old new = (fed : List ℕ) (handed : List Frame) (suspended : Bool) → RequestStands old fed handed suspended → RequestStands new fed handed suspended

abbrev pub ResponseKeeps : Response → Response → Type 0
ResponseKeeps old new = (fed : List ℕ) (handed : List Frame) (suspended : Bool) → ResponseStands old fed handed suspended → ResponseStands new fed handed suspended
