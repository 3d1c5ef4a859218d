-- A round of draining: what is asked, whom it watches, and who is rung.
use Rattle.std.specs.Prelude.{◌≡◌, ◌⊎◌, ℕ, ◌-◌, ◌^◌, min, List, [], ◌∷◌, ◌++◌, length, map, Option, Some, None, Result, Ok, Err}
use Rattle.proxy_outside.specs.Reading.{Rose}
use Rattle.proxy_outside.specs.declared.identity.SessionNo.{SessionNo}
use Rattle.proxy_outside.specs.declared.identity.TenantId.{TenantId}
use Rattle.proxy_links.specs.Told.{Grows}
use Rattle.proxy_config.specs.declared.settings.Settings.{Settings}
use Rattle.proxy_config.specs.Settings.{entries_of}
use Rattle.proxy_hub.specs.Ports.{Port, Tells}
use Rattle.proxy_hub.specs.declared.command.HubCommand.{HubCommand}
use Rattle.proxy_hub.specs.declared.command.HubCommand.TheVariants.{SetLists, Update, Plan}
use Rattle.pod_drain.specs.Watching.{Asked, commands, watch_after, rings_of}
use Rattle.pod_drain.specs.declared.fault.DrainFault.{DrainFault}
use Rattle.pod_drain.specs.declared.fault.DrainFault.TheVariants.{Hub, NoMemory}

-- the watched tenants in rising order, the port, and the rings, where told
pub record Scene : Type 0 where
  pub watch : List TenantId
  pub port : Port
  pub rings : Option (List SessionNo)

abbrev pub scene : List TenantId → Port → Option (List SessionNo) → Scene
scene watch port rings = record { watch = watch; port = port; rings = rings }

-- just this was asked; the watch and the rings are what follows from it
pub record Follows (asked : List Asked) (old new : Scene) : Type 0 where
  pub desk : new.port.desk ≡ old.port.desk
  pub asks : new.port.asked ≡ old.port.asked ++ asked
  pub watch : new.watch ≡ watch_after old.watch asked
  pub rings : Grows old.rings new.rings (rings_of asked)

-- what new settings tell: the lists, and each tenant's row in the settings' order
abbrev pub tells : Option Settings → List HubCommand
tells None = []
tells (Some s) = SetLists (entries_of s) ∷ map Update s.tenants

abbrev pub plans_for : List TenantId → List HubCommand
plans_for watch = map Plan watch

-- these commands, or the first ones of them
abbrev pub BeginsAs : List Asked → List HubCommand → Type 0
BeginsAs asked wanted = (more : List HubCommand) × (commands asked ++ more ≡ wanted)

-- no plan was asked while something was left to tell
abbrev pub IsBegun : Option Settings → List TenantId → List Asked → List Asked → Type 0
IsBegun fresh watch told plans =
    (BeginsAs told (tells fresh) × (plans ≡ []))
    ⊎ ((commands told ≡ tells fresh) × BeginsAs plans (plans_for (watch_after watch told)))

-- the port refused, and that was its answer; or memory ran out
abbrev pub FaultsBy : DrainFault → Port → Port → Type 0
FaultsBy (Hub fault) old new = Rose old.refusals new.refusals × Tells fault old.desk.most
FaultsBy NoMemory old new = new.refusals ≡ old.refusals

-- so many were rung
abbrev pub Counts : List Asked → ℕ → Type 0
Counts asked n = n ≡ min (length (rings_of asked)) (2 ^ 64 - 1)

-- all was told, and then a plan was asked of each watched tenant; so many were rung
pub record Whole (fresh : Option Settings) (old new : Scene) (n : ℕ) : Type 0 where
  pub told : List Asked
  pub plans : List Asked
  pub follows : Follows (told ++ plans) old new
  pub tells : commands told ≡ tells fresh
  pub asks : commands plans ≡ plans_for (watch_after old.watch told)
  pub refusals : new.port.refusals ≡ old.port.refusals
  pub count : Counts plans n

-- a round that was broken off
pub record Broken (fresh : Option Settings) (old new : Scene) (f : DrainFault) : Type 0 where
  pub told : List Asked
  pub plans : List Asked
  pub follows : Follows (told ++ plans) old new
  pub begun : IsBegun fresh old.watch told plans
  pub fault : FaultsBy f old.port new.port

abbrev pub Rounds : Option Settings → Scene → Scene → Result ℕ DrainFault → Type 0
Rounds fresh old new (Ok n) = Whole fresh old new n
Rounds fresh old new (Err f) = Broken fresh old new f

-- ---- parts of a round

-- these commands were asked in turn, and the value is what it is to be
pub record AskedAll {A : Type 0} (Value : List Asked → A → Type 0) (wanted : List HubCommand) (old new : Scene) (x : A) : Type 0 where
  pub asked : List Asked
  pub follows : Follows asked old new
  pub all : commands asked ≡ wanted
  pub refusals : new.port.refusals ≡ old.port.refusals
  pub value : Value asked x

-- the first of them were asked
pub record AskedSome (wanted : List HubCommand) (old new : Scene) (f : DrainFault) : Type 0 where
  pub asked : List Asked
  pub follows : Follows asked old new
  pub begins : BeginsAs asked wanted
  pub fault : FaultsBy f old.port new.port

abbrev pub AsksAll : {A : Type 0} → (List Asked → A → Type 0) → List HubCommand → Scene → Scene → Result A DrainFault → Type 0
AsksAll Value wanted old new (Ok x) = AskedAll Value wanted old new x
AsksAll Value wanted old new (Err f) = AskedSome wanted old new f

-- the same, of parts that ring nobody
abbrev pub TellsAll : List HubCommand → List TenantId → List TenantId → Port → Port → Result (Unit {0}) DrainFault → Type 0
TellsAll wanted watch watch' port port' r = (rings : Option (List SessionNo)) → AsksAll (λ _ _. Unit {0}) wanted (scene watch port rings) (scene watch' port' rings) r
