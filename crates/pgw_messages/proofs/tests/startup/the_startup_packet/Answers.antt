use Rattle.std.proofs.Common.{lit≤}
use Rattle.pgw_messages.specs.Startup.{startup_packet}
use Rattle.pgw_messages.proofs.tests.startup.the_startup_packet.Goals as goal

pub startup_bytes-requires : goal.startup_bytes-requires
unfolding startup_packet
startup_bytes-requires g c = rw (c.in_ok-put-2.ensures.ok, c.in_ok-put.ensures.ok, c.new-p.ensures) (lit≤ tt)
