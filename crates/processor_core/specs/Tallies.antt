-- What is counted over the whole lists of messages.
use Rattle.std.specs.Prelude.{◌≡◌, ℕ, ◌-◌, ◌^◌, ◌==◌, min, true, List, length}
use Rattle.pgw_frames.specs.declared.frame.Frame.{Frame}
use Rattle.pgw_frames.specs.Frames.{render}
use Rattle.session_model.specs.Tags.{asks_in, readies_in, last_tag, plain}
use Rattle.processor_core.specs.declared.tally.RequestTally.{RequestTally}
use Rattle.processor_core.specs.declared.tally.ResponseTally.{ResponseTally}
use Rattle.processor_core.specs.declared.tally.ReplyCounts.{ReplyCounts}

-- counts stop at the greatest number that they hold
abbrev pub counted : ℕ → ℕ
counted n = min n (2 ^ 64 - 1)

-- of the messages of a client
abbrev pub request_tally : List Frame → RequestTally
request_tally fs = record { qs = counted (asks_in fs); last = last_tag 0 fs; last_plain = last_tag 0 (plain fs); at_boundary = true }

-- of the messages of a pod behind its greeting, out of what was fed
abbrev pub response_tally : List ℕ → List Frame → ResponseTally
response_tally fed fs = record { zs = counted (readies_in fs); last = last_tag 0 fs; empty = length fed == length (render fs) }

pub record RepliesAre (r : ReplyCounts) (fs : List Frame) : Type 0 where
  pub zs_is : r.zs ≡ counted (readies_in fs)
  pub last_is : r.last ≡ last_tag 0 fs
