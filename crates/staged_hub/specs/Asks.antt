-- What a port to a staged hub tells of itself: its asks among the steps of its hub.
use Rattle.std.specs.Prelude.{◌≡◌, Bool, true, false, List, [], ◌∷◌, ◌++◌, Result, Ok, Err}
use Rattle.counted_desk.specs.Seats.{DeskId}
use Rattle.pgw_frames.specs.declared.memory.NoMemory.{NoMemory}
use Rattle.proxy_hub.specs.declared.command.HubCommand.{HubCommand}
use Rattle.proxy_hub.specs.declared.reply.HubReply.{HubReply}
use Rattle.proxy_hub.specs.Ports.{Port}
use Rattle.proxy_hub.specs.States.{State, opening}
use Rattle.proxy_hub.specs.Steps.{reply, next}
use Rattle.staged_hub.specs.declared.step.Step.{Step}
use Rattle.staged_hub.specs.declared.port.StagedHub.{StagedHub}

-- the reply where it was asked for
abbrev pub if_ask : Bool → HubCommand × HubReply → List (HubCommand × HubReply) → List (HubCommand × HubReply)
if_ask true a more = a ∷ more
if_ask false a more = more

-- the asks among the steps, each with the hub's reply at its place among all of them, from this state on
abbrev pub asked_from : State → List Step → List (HubCommand × HubReply)
asked_from s [] = []
asked_from s (x ∷ xs) = if_ask x.is_ask (x.command, reply s x.command) (asked_from (next s x.command) xs)

abbrev pub asked_by : List Step → List (HubCommand × HubReply)
asked_by xs = asked_from opening xs

-- it stands at no desk
abbrev pub no_desk : DeskId
no_desk = record { table = record { words = 0; slots = 0; views_name = 0; atom = 0; block = 0; offset = 0; slot_names = [] }; most = 0 }

-- nothing was asked and nothing refused
abbrev pub unasked : Port
unasked = record { desk = no_desk; asked = []; refusals = 0 }

abbrev pub port_of : StagedHub → Port
port_of h = record { desk = no_desk; asked = asked_by h.hub; refusals = h.refusals }

-- neither the asks nor the refusals are others
abbrev pub KeepsItsAsks : StagedHub → StagedHub → Type 0
KeepsItsAsks old new = port_of new ≡ port_of old

-- the command stands at the end of the asks with the reply, which is the hub's in some state
pub record IsAsked (old new : StagedHub) (c : HubCommand) (r : HubReply) : Type 0 where
  pub asked : asked_by new.hub ≡ asked_by old.hub ++ (c, r) ∷ []
  pub refusals : new.refusals ≡ old.refusals
  pub state : State
  pub answer : r ≡ reply state c

-- the command was asked, or nothing was
abbrev pub Asked : StagedHub → StagedHub → HubCommand → Result HubReply NoMemory → Type 0
Asked old new c (Ok r) = IsAsked old new c r
Asked old new c (Err e) = port_of new ≡ port_of old
