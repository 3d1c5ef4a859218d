-- What is asked to book a move, and how many of these asks came to nothing.
use Rattle.std.specs.Prelude.{◌≡◌, ℕ, List, [], ◌∷◌, Option, Some, None, option_to_list}
use Rattle.pgw_messages.specs.declared.pod_key.PodKey.{PodKey}
use Rattle.proxy_outside.specs.declared.identity.SessionNo.{SessionNo}
use Rattle.proxy_outside.specs.declared.place.Place.{Place}
use Rattle.proxy_links.specs.Board.{raised}
use Rattle.proxy_hub.specs.Ports.{Port}
use Rattle.proxy_hub.specs.declared.command.HubCommand.{HubCommand}
use Rattle.proxy_hub.specs.declared.command.HubCommand.TheVariants.{Assign, Bind}
use Rattle.session_admission.specs.Asking.{AsksOn}
use Rattle.session_asks.specs.Asks.{Ask, Alone, InTurn}
use Rattle.session_asks.specs.Between.{Binds}
use Rattle.session_rounds.specs.Asking.{missed_in}

-- asks that fit this were made
pub record AsksSome (fits : List Ask → Type 0) (old new : Port) (before by_now : ℕ) : Type 0 where
  pub asks : List Ask
  pub asked : AsksOn old new asks
  pub fitting : fits asks
  pub unbooked : by_now ≡ raised before (missed_in asks)

abbrev pub AsksOne : HubCommand → Port → Port → ℕ → ℕ → Type 0
AsksOne c old new before by_now = AsksSome (Alone c) old new before by_now

abbrev pub BindsKey : SessionNo → Option PodKey → Port → Port → ℕ → ℕ → Type 0
BindsKey n key old new before by_now = AsksSome (Binds n (option_to_list key)) old new before by_now

abbrev pub BooksMove : SessionNo → Place → Option PodKey → Port → Port → ℕ → ℕ → Type 0
BooksMove n place key old new before by_now = AsksSome (InTurn (Alone (Assign n place)) (Binds n (option_to_list key))) old new before by_now
