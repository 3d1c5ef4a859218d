use Rattle.std.proofs.Common.{◌≡◌, drop}
use Rattle.session_opening.proofs.Packets.{fits_behind}
use Rattle.session_opening.proofs.packet.pairs_fit.Given as goal

abbrev pub invariant-loop-q : goal.invariant-loop-q
invariant-loop-q l = fits_behind l.room (drop l.q-index l.pairs) ≡ fits_behind 11899991 l.pairs
