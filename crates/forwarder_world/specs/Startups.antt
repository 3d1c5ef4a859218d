-- Which startup packet was sent on a link whose session has begun.
use Rattle.std.specs.Prelude.{◌≡◌, ◌⊎◌, ℕ, List, Option, Some, drop, Ok}
use Rattle.std.specs.List.{AllByRecursion}
use Rattle.pgw_messages.specs.Params.{HasDistinctNames}
use Rattle.pgw_messages.specs.Startup.{startup_packet, params_of, IsParam}
use Rattle.pgw_messages.specs.declared.params.Pair.{Pair}
use Rattle.transfer_stages.specs.Exchange.{with_token}
use Rattle.forwarder_world.specs.Link.{Link}
use Rattle.forwarder_world.specs.World.{World}

-- These bytes are the startup packet of these parameters, with a revival token behind them at most; and reading what
-- stands behind the length and the version (PostgreSQL manual, Message Formats, StartupMessage) gives them.
pub record IsStartup (p : List Pair) (bytes : List ℕ) : Type 0 where
  pub told : List Pair
  pub adds : (told ≡ p) ⊎ ((token : List ℕ) × (told ≡ with_token p token))
  pub packet : bytes ≡ startup_packet told
  pub is_read : HasDistinctNames told → AllByRecursion IsParam told → params_of (drop 8 bytes) ≡ Ok told

-- a session that has begun did so by such a packet
abbrev pub BeganBy : {S : Type 0} → List Pair → Link S → Type 0
BeganBy {S} p l = (s : S) → l.session ≡ Some s → IsStartup p l.startup

pub record Opens {S T C : Type 0} (p : List Pair) (w : World S T C) : Type 0 where
  pub link : BeganBy p w.link
  pub fresh : (l : Link S) → w.fresh ≡ Some l → BeganBy p l
