use Rattle.std.proofs.Common.{◌≡◌, take, flat_map}
use Rattle.pgw_frames.specs.Frames.{frames, rest, bad}
use Rattle.pgw_frames.proofs.stream.cut_all.Given as goal

abbrev pub invariant-loop-piece : goal.invariant-loop-piece
invariant-loop-piece l = record {
  out : l.frames ≡ frames (flat_map (λ p. p) (take l.piece-index l.pieces));
  left : l.cutter ≡ rest (flat_map (λ p. p) (take l.piece-index l.pieces));
  bad : l.bad ≡ bad (flat_map (λ p. p) (take l.piece-index l.pieces));
}
