-- How a session begins on its link: the startup packet, and then the greeting (PostgreSQL manual, "Message Flow", Start-up).
use Rattle.std.specs.Prelude.{◌≡◌, ℕ, List}
use Rattle.pgw_messages.specs.Startup.{startup_packet}
use Rattle.pgw_messages.specs.declared.params.Pair.{Pair}
use Rattle.proxy_outside.specs.Writing.{Target}
use Rattle.proxy_outside.specs.declared.identity.ClientKey.{ClientKey}
use Rattle.link_io.specs.Writing.{Wrote, WroteSome}
use Rattle.transfer_stages.specs.declared.stage.Cut.TheVariants.{WriteFault}
use Rattle.session_greeting.specs.Greeting.{Halves, Greets}
use Rattle.session_greeting.specs.declared.greeting.Limits.{Limits}
use Rattle.session_greeting.specs.declared.login.Greeted.{Greeted}
use Rattle.session_greeting.specs.declared.login.Greeted.TheVariants.{PodCut, NoMemory}
use Rattle.session_opening.specs.declared.greeting.Packet.{Packet}
use Rattle.session_opening.specs.declared.greeting.Packet.TheVariants as packet

abbrev pub SendsPacket : List Pair → Target → Target → Packet → Type 0
SendsPacket p k l packet.Sent = Wrote k l (startup_packet p)
SendsPacket p k l packet.Cut = WroteSome k l (startup_packet p)
SendsPacket p k l packet.NoMemory = l ≡ k

-- the greeting is passed on behind a whole packet
abbrev pub Follows : Packet → ClientKey → Limits → ℕ → Halves → Halves → Greeted → Type 0
Follows packet.Sent key limits waited between new g = Greets key limits waited between new g
Follows packet.Cut key limits waited between new g = (g ≡ PodCut WriteFault) × (new ≡ between)
Follows packet.NoMemory key limits waited between new g = (g ≡ NoMemory) × (new ≡ between)

pub record BeginsSession (p : List Pair) (key : ClientKey) (limits : Limits) (waited : ℕ) (old new : Halves) (g : Greeted) : Type 0 where
  pub packet : Packet
  pub tx : Target
  pub sends : SendsPacket p old.tx tx packet
  pub behind : Follows packet key limits waited (record old { tx = tx }) new g
