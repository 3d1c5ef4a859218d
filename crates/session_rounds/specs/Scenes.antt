-- What is told between two rounds.
use Rattle.std.specs.Prelude.{◌≡◌, ℕ, ◌≤◌}
use Rattle.proxy_hub.specs.Ports.{Port}
use Rattle.session_trace.specs.Running.{Now, Board}

-- of what a connection owns, the board, its port at the hub, and how many of its asks came to nothing
pub record Scene : Type 0 where
  pub now : Now
  pub board : Board
  pub port : Port
  pub unbooked : ℕ

abbrev pub scene : Now → Board → Port → ℕ → Scene
scene now board port unbooked = record { now = now; board = board; port = port; unbooked = unbooked }

-- the link is the same, and no count of faults fell
pub record SameLink (old new : Now) : Type 0 where
  pub read : old.client_in.faults ≤ new.client_in.faults
  pub given : old.client_out.faults ≤ new.client_out.faults
  pub sent : old.tx.faults ≤ new.tx.faults
  pub got : old.rx.faults ≤ new.rx.faults
  pub tx : new.tx.link ≡ old.tx.link
  pub rx : new.rx.link ≡ old.rx.link
