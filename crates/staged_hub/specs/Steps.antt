-- What a hub was stepped by, and where it stands.
use Rattle.std.specs.Prelude.{◌≡◌, Bool, List, [], ◌∷◌, ◌++◌}
use Rattle.proxy_hub.specs.declared.command.HubCommand.{HubCommand}
use Rattle.proxy_hub.specs.declared.reply.HubReply.{HubReply}
use Rattle.proxy_hub.specs.States.{State, opening}
use Rattle.proxy_hub.specs.Steps.{reply, next}
use Rattle.staged_hub.specs.declared.step.Step.{Step}

-- the state behind these steps, from this one on
abbrev pub state_from : State → List Step → State
state_from s [] = s
state_from s (x ∷ xs) = state_from (next s x.command) xs

abbrev pub state_behind : List Step → State
state_behind xs = state_from opening xs

-- the command stands at the end of the steps, and the reply is the hub's behind those before it
abbrev pub Steps : List Step → List Step → HubCommand → Bool → HubReply → Type 0
Steps old new c is_ask r = (new ≡ old ++ record { command = c; is_ask = is_ask } ∷ []) × (r ≡ reply (state_behind old) c)
