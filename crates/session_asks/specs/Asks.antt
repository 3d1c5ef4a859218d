-- What is asked of a hub's port: commands in their order, each with its reply, or refused by the port.
use Rattle.std.specs.Prelude.{◌≡◌, ℕ, ◌+◌, ⊤, List, [], ◌∷◌, ◌++◌, Option, Some, None}
use Rattle.proxy_hub.specs.declared.command.HubCommand.{HubCommand}
use Rattle.proxy_hub.specs.declared.command.HubCommand.TheVariants.{Admit, GiveKey, Report}
use Rattle.proxy_hub.specs.declared.reply.HubReply.{HubReply}
use Rattle.proxy_hub.specs.Ports.{Suits}

pub record Ask : Type 0 where
  pub command : HubCommand
  pub reply : Option HubReply

abbrev pub ask : HubCommand → Option HubReply → Ask
ask c r = record { command = c; reply = r }

-- those that the hub answered, as the port lists them
abbrev pub answer_to : HubCommand → Option HubReply → List (HubCommand × HubReply)
answer_to c (Some r) = (c, r) ∷ []
answer_to c None = []

abbrev pub answered : List Ask → List (HubCommand × HubReply)
answered [] = []
answered (a ∷ as_) = answer_to a.command a.reply ++ answered as_

-- how many the port refused
abbrev pub refusal_in : Option HubReply → ℕ
refusal_in (Some r) = 0
refusal_in None = 1

abbrev pub refused : List Ask → ℕ
refused [] = 0
refused (a ∷ as_) = refusal_in a.reply + refused as_

-- a reply is of a kind that its command may have
abbrev pub Fitting : HubCommand → Option HubReply → Type 0
Fitting c (Some r) = Suits c r
Fitting c None = ⊤

-- ---- stretches of asks

abbrev pub Nothing : List Ask → Type 0
Nothing as_ = as_ ≡ []

-- this command alone, whatever came of it
pub record Alone (c : HubCommand) (as_ : List Ask) : Type 0 where
  pub reply : Option HubReply
  pub fitting : Fitting c reply
  pub alone : as_ ≡ ask c reply ∷ []

-- one stretch, and the other behind it
pub record InTurn (before behind : List Ask → Type 0) (as_ : List Ask) : Type 0 where
  pub front : List Ask
  pub back : List Ask
  pub whole : as_ ≡ front ++ back
  pub begins : before front
  pub ends : behind back

-- ---- what the commands hold

abbrev pub moments_of : HubCommand → List ℕ
moments_of (Admit addr tenant now) = now ∷ []
moments_of (Report addr tenant ok now) = now ∷ []
moments_of _ = []

-- the moments that were told to the hub, refused asks among them
abbrev pub moments_in : List Ask → List ℕ
moments_in [] = []
moments_in (a ∷ as_) = moments_of a.command ++ moments_in as_

abbrev pub words_of : HubCommand → List ℕ
words_of (GiveKey n addr word) = word ∷ []
words_of _ = []

-- the random words that were told to the hub
abbrev pub words_in : List Ask → List ℕ
words_in [] = []
words_in (a ∷ as_) = words_of a.command ++ words_in as_
