-- What a session asks between its rounds.
use Rattle.std.specs.Prelude.{◌≡◌, ℕ, ◌+◌, List, [], ◌∷◌, ◌++◌, Option, Some, None}
use Rattle.proxy_hub.specs.Ports.{Port}
use Rattle.proxy_hub.specs.declared.command.HubCommand.TheVariants.{Target}
use Rattle.proxy_hub.specs.declared.reply.HubReply.{HubReply}
use Rattle.proxy_hub.specs.declared.reply.HubReply.TheVariants.{MoveTo, NoSession}
use Rattle.proxy_links.specs.Board.{raised}
use Rattle.proxy_outside.specs.declared.identity.SessionNo.{SessionNo}
use Rattle.proxy_outside.specs.declared.place.Place.{Place}
use Rattle.session_admission.specs.Asking.{AsksOn}
use Rattle.session_asks.specs.Asks.{Ask, ask}
use Rattle.session_asks.specs.Between.{NamesNone, AsksInRounds}
use Rattle.session_trace.specs.Trace.{Round}

-- an ask that came to nothing: the port refused it, or the hub knows no such session
abbrev pub is_missed : Option HubReply → ℕ
is_missed None = 1
is_missed (Some NoSession) = 1
is_missed (Some _) = 0

abbrev pub missed_in : List Ask → ℕ
missed_in [] = 0
missed_in (a ∷ as_) = is_missed a.reply + missed_in as_

-- the session's target was asked for, and no place is named
pub record AimsNowhere (n : SessionNo) (old new : Port) (before by_now : ℕ) : Type 0 where
  pub reply : Option HubReply
  pub none : NamesNone reply
  pub asked : AsksOn old new (ask (Target n) reply ∷ [])
  pub unbooked : by_now ≡ raised before (is_missed reply)

-- it was asked for, and this place is named
pub record AimsAt (n : SessionNo) (place : Place) (old new : Port) (before by_now : ℕ) : Type 0 where
  pub asked : AsksOn old new (ask (Target n) (Some (MoveTo place)) ∷ [])
  pub unbooked : by_now ≡ before

abbrev pub Aims : SessionNo → Port → Port → ℕ → ℕ → Option Place → Type 0
Aims n old new before by_now (Some place) = AimsAt n place old new before by_now
Aims n old new before by_now None = AimsNowhere n old new before by_now

-- what stood when all that was asked for this began: the port, and how many asks had come to nothing
pub record Since : Type 0 where
  pub port : Port
  pub unbooked : ℕ

-- all that was asked since, and how many asks came to nothing by now
pub record Asked (o : Since) (now : Port) (unbooked : ℕ) (as_ : List Ask) : Type 0 where
  pub on : AsksOn o.port now as_
  pub counts : unbooked ≡ raised o.unbooked (missed_in as_)

-- what was asked behind each of these rounds
pub record AskedIn (n : SessionNo) (o : Since) (now : Port) (unbooked : ℕ) (rs : List Round) : Type 0 where
  pub asks : List Ask
  pub asked : Asked o now unbooked asks
  pub fit : AsksInRounds n rs asks

-- what was asked behind each of these rounds, and then the target, which is this place
pub record AskedFor (n : SessionNo) (place : Place) (o : Since) (now : Port) (unbooked : ℕ) (rs : List Round) : Type 0 where
  pub asks : List Ask
  pub asked : Asked o now unbooked (asks ++ ask (Target n) (Some (MoveTo place)) ∷ [])
  pub fit : AsksInRounds n rs asks
