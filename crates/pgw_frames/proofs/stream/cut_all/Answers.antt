use Rattle.std.proofs.Common.{◌≡◌, ◌++◌, List, ℕ, refl, ◌∙◌, arith, ◌+◌, []}
use Rattle.pgw_frames.specs.Frames.{rest, bad, front}
use Rattle.pgw_frames.proofs.Fronts.{frames_nil, frames-append, rest-append, rest_partial, few_is}
use Rattle.pgw_frames.proofs.Joined.{joined, joined_more, bad-append}
use Rattle.pgw_frames.proofs.stream.cut_all.Goals as goal

pub loop-piece-init : goal.loop-piece-init
unfolding bad
loop-piece-init c =
    let few : front [] ≡ _ = few_is [] (omega arith) in
    let nothing : rest [] ≡ [] = rest_partial [] few in
    record {
      out = rw (c.new-frames.ensures, frames_nil) refl;
      left = rw (c.new-cutter.ensures, nothing) refl;
      bad = rw (nothing, few) refl;
    }

pub loop-piece-preserved : goal.loop-piece-preserved
loop-piece-preserved c =
    let i = c.loop-piece.invariant in
    let pieces : List (List ℕ) = c.args.pieces.now in
    let before : List ℕ = joined c.loop-piece.piece-index pieces in
    let piece : List ℕ = c.piece-item.result in
    let more : joined (c.loop-piece.piece-index + 1) pieces ≡ before ++ piece = joined_more pieces c.loop-piece.piece-index piece (omega arith) c.piece-item.is in
    let held : c.feed.new.self ≡ rest before ++ piece = c.in_ok-feed.ensures.ok ∙ rw (i.left, c.as_slice.ensures) refl in
    record {
      out = c.in_ok-bad.ensures.taken ∙ rw (i.out, held, more, frames-append before piece) refl;
      left = c.in_ok-bad.ensures.left ∙ rw (held, more, rest-append before piece) refl;
      bad = c.in_ok-bad.ensures.bad ∙ rw (held, more, bad-append before piece) refl;
    }
