-- What a client was given, against what one session, never moved, says.
use Rattle.std.specs.Prelude.{ℕ, Bool, List, ◌++◌, ◌≡◌}
use Rattle.pgw_frames.specs.Frames.{Begins, IsBytes, render, frames}
use Rattle.pgw_messages.specs.declared.params.Pair.{Pair}
use Rattle.proxy_outside.specs.declared.identity.ClientKey.{ClientKey}
use Rattle.proxy_outside.specs.Rules.{Rules}
use Rattle.session_model.specs.Kind.{Kind}
use Rattle.session_trace.specs.Trace.{all_relayed, Trace, all_forwarded}
use Rattle.session_trace.specs.Calls.{Call}
use Rattle.session_trace.specs.Openings.{FitsFirst}
use Rattle.session_trace.specs.Transfers.{FitsRounds}
use Rattle.session_trace.specs.Relayed.{IsGiven, Rejected}
use Rattle.session_trace.specs.Fits.{FitsCall}
use Rattle.session_trace.specs.Replies.{firsts}
use Rattle.session_trace.specs.Journey.{keyed, spoken, Pod, all_told}
use Rattle.session_trace.specs.Honest.{IsHonest}

-- what of a trace that fits a call speaks of bytes alone
pub record Fits (p : List Pair) (key : ClientKey) (exchange_cut : Bool) (given : List ℕ) (t : Trace) : Type 0 where
  pub first : FitsFirst p t.rounds t.first
  pub rounds : FitsRounds p exchange_cut t.rounds
  pub given_begins : Begins given (keyed key t.first.got ++ all_relayed t.rounds)

-- what the client was given begins what one session, never moved, says
abbrev pub Headline : {S T C A : Type 0} → Kind S C A → Rules T C A → Type 0
Headline {S} {T} {C} {A} k rules =
    (p route : List Pair) (key : ClientKey) (cut : Bool) (given : List ℕ) (t : Trace) (pods : List (Pod A))
    → Fits route key cut given t → IsBytes t.first.got → IsHonest k rules p t pods → Begins given (render (spoken k key p t pods))

-- the messages that this session is told are those of all that was forwarded
abbrev pub ToldFrames : Type 0 → Type 0
ToldFrames A =
    (route : List Pair) (key : ClientKey) (cut : Bool) (given : List ℕ) (t : Trace) (pods : List (Pod A))
    → Fits route key cut given t → firsts (all_told t.rounds pods) ≡ frames (all_forwarded t.rounds)

-- one N for each refusal of encryption, and then what begins what one session, never moved, says, or the rejection
abbrev pub CallHeadline : {S T C A : Type 0} → Kind S C A → Rules T C A → Type 0
CallHeadline {S} {T} {C} {A} k rules =
    (p : List Pair) (c : Call) (t : Trace) (pods : List (Pod A)) → FitsCall c t → IsHonest k rules p t pods
    → IsGiven c (λ body. Begins body (render (spoken k c.key p t pods))) (Rejected c t.rounds)
