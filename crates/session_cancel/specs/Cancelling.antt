-- What becomes of a request to cancel (PostgreSQL manual, "Message Formats", CancelRequest: its length, the code 80877102, and the key).
use Rattle.std.specs.Prelude.{◌≡◌, ◌⊎◌, ℕ, Bool, List, ◌++◌, Result, Ok, Err}
use Rattle.std.specs.Int.{w32, to_be_bytes}
use Rattle.pgw_messages.specs.declared.pod_key.PodKey.{PodKey}
use Rattle.proxy_outside.specs.Reading.{Origin}
use Rattle.proxy_outside.specs.Writing.{Target}
use Rattle.proxy_outside.specs.declared.addr.Addr.{Addr}
use Rattle.proxy_outside.specs.declared.identity.ClientKey.{ClientKey}
use Rattle.proxy_outside.specs.declared.place.Place.{Place}
use Rattle.proxy_links.specs.Links.{Links, Came, Failing, HangsUp}
use Rattle.link_io.specs.Writing.{WritesAll}
use Rattle.proxy_hub.specs.Ports.{Port, Asks}
use Rattle.proxy_hub.specs.declared.command.HubCommand.TheVariants.{Find}
use Rattle.proxy_hub.specs.declared.fault.HubFault.{HubFault}
use Rattle.proxy_hub.specs.declared.reply.HubReply.TheVariants.{Found, NoKey}

abbrev pub cancel_request : PodKey → List ℕ
cancel_request key = to_be_bytes w32 16 ++ to_be_bytes w32 80877102 ++ to_be_bytes w32 key.process ++ to_be_bytes w32 key.secret

-- a link came, the request was written to it, or a part of it where the sink failed, and it was hung up
pub record SendsOn (place : Place) (key : PodKey) (old new : Links) : Type 0 where
  pub between : Links
  pub tx : Target
  pub tx' : Target
  pub rx : Origin
  pub came : Came old between place tx rx
  pub whole : Bool
  pub wrote : WritesAll whole tx tx' (cancel_request key)
  pub hung : HangsUp between new tx' rx

-- the place is dialed once
abbrev pub Sends : Place → PodKey → Links → Links → Type 0
Sends place key old new = Failing old new place ⊎ SendsOn place key old new

-- it is dialed exactly where the hub found it
abbrev pub Cancels : Addr → ClientKey → Port → Port → Links → Links → Result (Unit {0}) HubFault → Type 0
Cancels peer key old new links links' (Ok u) =
    ((place : Place) × (pod_key : PodKey) × Asks old new (Find key peer) (Ok (Found place pod_key)) × Sends place pod_key links links')
    ⊎ (Asks old new (Find key peer) (Ok NoKey) × (links' ≡ links))
Cancels peer key old new links links' (Err f) = Asks old new (Find key peer) (Err f) × (links' ≡ links)
