use Rattle.std.proofs.Common.{◌≡◌, drop}
use Rattle.pod_conn.proofs.Sizes.{fits_behind}
use Rattle.pod_conn.proofs.params.packet_fits.Given as goal

abbrev pub invariant-loop-q : goal.invariant-loop-q
invariant-loop-q l = fits_behind l.room (drop l.q-index l.pairs) ≡ fits_behind 11899991 l.pairs
