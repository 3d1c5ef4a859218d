use Rattle.std.proofs.Common.{rules}
use Rattle.pgw_messages.specs.Startup.{startup_packet, IsParam, CanWriteParam}
use Rattle.pgw_messages.proofs.Written.{given, packet_read}
use Rattle.pgw_messages.proofs.startup.startup_bytes.Goals as goal

pub returns-clause-value : goal.returns-clause-value
unfolding startup_packet
returns-clause-value c = search rules

pub returns-clause-again : goal.returns-clause-again
returns-clause-again c = λ h. packet_read c.args.p.now _ c.in_ok-body.ensures.distinct (given CanWriteParam IsParam c.args.p.now c.in_ok-body.ensures.good h) (returns-clause-value c)
