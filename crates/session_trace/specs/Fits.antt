-- Which traces fit a call: one record for a call that opened a link, one for a call that didn't, one for its board.
use Rattle.std.specs.Prelude.{◌≡◌, ◌⊎◌, true, ◌++◌, [], ℕ}
use Rattle.pgw_frames.specs.Frames.{IsBytes}
use Rattle.session_trace.specs.Trace.{Trace, held_last, all_forwarded, all_relayed}
use Rattle.session_trace.specs.Records.{all_left, moves_in}
use Rattle.session_trace.specs.Calls.{Call, counted}
use Rattle.session_trace.specs.Openings.{FitsFirst}
use Rattle.session_trace.specs.Transfers.{FitsRounds}
use Rattle.session_trace.specs.Forwarded.{Forwards}
use Rattle.session_trace.specs.Relayed.{IsGiven, Passes, Rejected, IsHeld, Rejects}
use Rattle.session_trace.specs.Attempts.{starved_in, AllAttempts}
use Rattle.session_trace.specs.Looks.{Sides, Holds, Boards, Looked}
use Rattle.session_trace.specs.Running.{Board}

-- a link was opened
pub record FitsCall (c : Call) (t : Trace) : Type 0 where
  pub records : c.records ≡ all_left t
  pub moves : c.moves ≡ counted (moves_in t.rounds)
  pub held : ((c.client_faults ≡ true) ⊎ (c.why.no_memory ≡ true)) ⊎ IsHeld c (held_last t.rounds)
  pub first : FitsFirst c.route t.rounds t.first
  pub rounds : FitsRounds c.route c.why.exchange_cut t.rounds
  pub forwards : Forwards c (t.first.asked ++ all_forwarded t.rounds)
  pub given : IsGiven c (Passes c t.first t.rounds) (Rejected c t.rounds)
  pub attempts : AllAttempts c.route c.patience c.why.exchange_cut t.rounds
  pub starved : c.starved ≡ counted (starved_in t.rounds)
  pub sides : Sides t.rounds
  pub holds : Holds t.rounds
  pub bytes : IsBytes t.first.got

-- no link was
pub record FitsUnopened (c : Call) : Type 0 where
  pub records : c.records ≡ []
  pub moves : c.moves ≡ 0
  pub starved : c.starved ≡ 0
  pub given : IsGiven c (λ body. ⊥) (Rejects c c.why.rejection)

-- the parks, the overs and the looks of a call
pub record FitsBoard (before now : Board) (client_waits pod_waits : ℕ) (t : Trace) : Type 0 where
  pub boards : Boards before now t.rounds
  pub front : Looked before.front now.front (all_forwarded t.rounds) client_waits
  pub back : Looked before.back now.back (all_relayed t.rounds) pod_waits
