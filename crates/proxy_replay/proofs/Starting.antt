-- The client of a replay may start a World.
use Rattle.std.proofs.Common.{refl, arith}
use Rattle.pgw_messages.specs.Startup.{startup_packet, Fits}
use Rattle.forwarder_core.specs.Starting.{CanStart}
use Rattle.proxy_replay.specs.Client.{client_params}

pub client_fits : Fits client_params
unfolding startup_packet
client_fits = omega arith

pub client_can_start : CanStart client_params
client_can_start = record { plain = (refl, (refl, tt)); fits = client_fits }
