-- The hub's replies are of the kinds that their commands may have.
use Rattle.proxy_hub.specs.declared.command.HubCommand.{HubCommand}
use Rattle.proxy_hub.specs.States.{State}
use Rattle.proxy_hub.specs.Steps.{reply}
use Rattle.proxy_hub.specs.Ports.{Suits}

abbrev pub RepliesSuit : Type 0
RepliesSuit = (s : State) (c : HubCommand) → Suits c (reply s c)
