-- Of which states a hub is an implementation.
use Rattle.std.specs.Prelude.{◌≡◌, ◌≤◌, Some}
use Rattle.std.specs.List.{AllByRecursion}
use Rattle.std.specs.FinMap as map
use Rattle.login_throttle.specs.Streaks.{StandsFor as ThrottleStands}
use Rattle.tenant_directory.specs.Standing.{StandsFor as DirectoryStands}
use Rattle.tenant_directory.specs.declared.directory.Home.{Home}
use Rattle.proxy_outside.specs.declared.identity.SessionNo.{SessionNo}
use Rattle.proxy_hub.specs.declared.command.HubCommand.{HubCommand}
use Rattle.proxy_hub.specs.declared.reply.HubReply.{HubReply}
use Rattle.proxy_hub.specs.declared.hub.Hub.{Hub}
use Rattle.proxy_hub.specs.States.{State, Member, tenant_of, live_of}
use Rattle.proxy_hub.specs.Steps.{reply, next}

-- numbers were given up to the last one, and homes to live sessions
pub record AreNumbered (s : State) : Type 0 where
  pub members : AllByRecursion (λ (m : Member). m.session.0 ≤ s.last) s.members
  pub owned : (n : SessionNo) (home : Home) → map.get s.homes n ≡ Some home → tenant_of s n ≡ Some home.tenant

pub record StandsFor (h : Hub) (s : State) : Type 0 where
  pub lists : h.lists ≡ s.lists
  pub throttle : ThrottleStands h.throttle s.reports
  pub rows : DirectoryStands h.directory s.rows
  pub homes : h.directory.homes ≡ s.homes
  pub roster : h.roster ≡ record { live = live_of s; last = s.last }
  pub keys : h.keys ≡ s.keys
  pub numbered : AreNumbered s

-- what old stood for, new stands for
abbrev pub Keeps : Hub → Hub → Type 0
Keeps old new = (s : State) → StandsFor old s → StandsFor new s

-- the reply to a command, and the state behind it
abbrev pub GivesReply : Hub → HubCommand → HubReply → Type 0
GivesReply h c r = (s : State) → StandsFor h s → r ≡ reply s c

abbrev pub Goes : Hub → Hub → HubCommand → Type 0
Goes old new c = (s : State) → StandsFor old s → StandsFor new (next s c)
