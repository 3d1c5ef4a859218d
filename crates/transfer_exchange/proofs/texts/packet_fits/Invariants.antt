use Rattle.std.proofs.Common.{◌≡◌, drop}
use Rattle.transfer_exchange.specs.Packets.{fits_behind}
use Rattle.transfer_exchange.proofs.texts.packet_fits.Given as goal

abbrev pub invariant-loop-q : goal.invariant-loop-q
invariant-loop-q l = fits_behind l.room l.token (drop l.q-index l.pairs) ≡ fits_behind 11899991 l.token l.pairs
