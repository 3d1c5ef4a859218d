-- Who comes (PostgreSQL manual, "Message Flow", Start-up, SSL Session Encryption and Canceling Requests in Progress).
use Rattle.std.specs.Prelude.{ℕ, zero, suc, ◌+◌, List, drop}
use Rattle.pgw_messages.specs.declared.params.Pair.{Pair}
use Rattle.pod_conn.specs.declared.packet.Packet.{Packet}
use Rattle.pod_conn.specs.declared.packet.Packet.TheVariants.{Part, Request, Cancelling, Starting, Unfit}
use Rattle.pod_conn.specs.Packets.{packet_of}

pub data Comer : Type 0 where
  Nobody : List ℕ → Comer  -- not known yet: these bytes of a packet are there
  Visitor : List Pair → List ℕ → Comer  -- who wants a session with these parameters, and the bytes behind the packet
  Canceller : Comer
  Stranger : Comer  -- who wants nothing that can be had

-- so many requests for encryption are refused by `N`, and then this one comes
pub record Entrance : Type 0 where
  pub says : ℕ
  pub comer : Comer

abbrev pub comes : Comer → Entrance
comes who = record { says = 0; comer = who }

abbrev pub says_more : Entrance → Entrance
says_more next = record { says = 1 + next.says; comer = next.comer }

-- behind a request comes the next entrance
abbrev pub entered : Entrance → Packet → List ℕ → Entrance
entered next Part b = comes (Nobody b)
entered next Request b = next
entered next Cancelling b = comes Canceller
entered next (Starting params len) b = comes (Visitor params (drop len b))
entered next Unfit b = comes Stranger

-- where so many requests are answered still
unfoldable pub entrance_with : ℕ → List ℕ → Entrance
entrance_with zero b = entered (comes Stranger) (packet_of b) b
entrance_with (suc left) b = entered (says_more (entrance_with left (drop 8 b))) (packet_of b) b

-- two requests are answered
abbrev pub entrance : List ℕ → Entrance
entrance b = entrance_with 2 b
