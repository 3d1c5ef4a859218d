use Rattle.std.proofs.Common.{◌≡◌, ◌++◌, [], refl, ap, ◌∙◌, sym, append_assoc, List}
use Rattle.std.proofs.lemmas.List.{append-nil}
use Rattle.pgw_frames.specs.declared.frame.Frame.{Frame}
use Rattle.pgw_frames.specs.Frames.{frames, rest, bad}
use Rattle.pgw_frames.proofs.Fronts.{whole_shorter, frames_whole, frames_none, rest_whole, rest_partial, rest_bad}
use Rattle.pgw_frames.proofs.stream.take_frames.Goals as goal

pub loop-f-smaller : goal.loop-f-smaller
loop-f-smaller c =
    let at = rw c.in-Frame.is at c.in_ok-f.ensures.ok in
    whole_shorter _ _ _ at

pub loop-f-preserved : goal.loop-f-preserved
loop-f-preserved c =
    let at = rw c.in-Frame.is at c.in_ok-f.ensures.ok in
    let one = frames_whole _ _ _ at in
    record {
      out = rw (c.in_ok-push-in-Frame.ensures.ok, append_assoc) (ap (λ (fs : List Frame). c.loop-f.out ++ fs) (sym one) ∙ c.loop-f.invariant.out);
      left = sym (rest_whole _ _ _ at) ∙ c.loop-f.invariant.left;
    }

pub returns-in-Need : goal.returns-in-Need
unfolding bad
returns-in-Need c =
    let at = rw c.in-Need.is at c.in_ok-f.ensures.ok in
    let none : frames c.loop-f.cutter ≡ [] = frames_none c.loop-f.cutter (λ f more e. let n = at.0 in cc) in
    let out : c.loop-f.out ≡ c.args.out.now ++ frames c.args.cutter.now = sym (ap (λ (fs : List Frame). c.loop-f.out ++ fs) none ∙ append-nil c.loop-f.out) ∙ c.loop-f.invariant.out in
    let left : c.loop-f.cutter ≡ rest c.args.cutter.now = sym (rest_partial c.loop-f.cutter at.0) ∙ c.loop-f.invariant.left in
    record { taken = out; left = at.1 ∙ left; bad = rw (← left, at.0) refl }

pub returns-in-BadLength : goal.returns-in-BadLength
unfolding bad
returns-in-BadLength c =
    let at = rw c.in-BadLength.is at c.in_ok-f.ensures.ok in
    let none : frames c.loop-f.cutter ≡ [] = frames_none c.loop-f.cutter (λ f more e. let n = at.0 in cc) in
    let out : c.loop-f.out ≡ c.args.out.now ++ frames c.args.cutter.now = sym (ap (λ (fs : List Frame). c.loop-f.out ++ fs) none ∙ append-nil c.loop-f.out) ∙ c.loop-f.invariant.out in
    let left : c.loop-f.cutter ≡ rest c.args.cutter.now = sym (rest_bad c.loop-f.cutter _ at.0) ∙ c.loop-f.invariant.left in
    record { taken = out; left = at.1 ∙ left; bad = rw (← left, at.0) refl }
