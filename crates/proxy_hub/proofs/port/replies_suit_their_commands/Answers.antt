use Rattle.proxy_hub.proofs.Suiting.{suits}
use Rattle.proxy_hub.proofs.port.replies_suit_their_commands.Goals as goal

pub returns : goal.returns
returns c = λ s c. suits s c
