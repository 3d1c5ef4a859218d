use Rattle.std.specs.Net.Addr.{ipv4_bits}
use Rattle.access_lists.proofs.address_text.read_v4.Goals as goal

pub returns-in-Ok : goal.returns-in-Ok
unfolding ipv4_bits
returns-in-Ok c = (c.in-Ok.ip.octets, c.in-Ok.ensures.value, c.to_bits.ensures)

pub returns-in-Err : goal.returns-in-Err
returns-in-Err c = λ bits h. c.in-Err.ensures.value (record { octets = h.0 }) h.1
