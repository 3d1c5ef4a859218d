-- How a channel goes on.
use Rattle.std.proofs.Common.{◌≡◌, ℕ, ◌+◌, ◌-◌, ◌≤◌, min, List, ◌++◌, length, take, drop, refl, ◌∙◌, arith}
use Rattle.std.proofs.Math.Seq.{take-add}
use Rattle.std.proofs.lemmas.List.{take-append-le, drop-append-le, drop-drop, length-append, length-drop}
use Rattle.pgw_frames.specs.declared.frame.Frame.{Frame}
use Rattle.pgw_frames.specs.declared.cutter.Next.{Next}
use Rattle.pgw_frames.specs.declared.cutter.Next.TheVariants as next
use Rattle.pgw_frames.specs.Cutting.{Answers}
use Rattle.processor_core.specs.Streams.{Cuts}
use Rattle.processor_core.proofs.Cutting.{cuts-append, cuts_next, step_is}
use Rattle.forwarder_core.specs.declared.channel.Channel.{Channel}
use Rattle.forwarder_core.specs.Carries.{Carries, NextOf, whole_of}

pub carries_give : (c d : Channel) (stream x : List ℕ) (at : ℕ) (handed : List Frame) → d.waiting ≡ c.waiting ++ x → d.cutter ≡ c.cutter → Carries c stream at handed → Carries d (stream ++ x) at handed
carries_give c d stream x at handed w k h = record {
  bound = omega (arith, length-append stream x, h.bound);
  waits = rw (w, h.waits, drop-append-le at stream x h.bound) refl;
  cuts = rw (k, take-append-le at stream x h.bound) h.cuts;
}

pub carries_come : (c d : Channel) (stream : List ℕ) (at n : ℕ) (handed : List Frame) → n ≤ length c.waiting → d.waiting ≡ drop n c.waiting → d.cutter ≡ c.cutter ++ take n c.waiting
    → Carries c stream at handed → Carries d stream (at + n) handed
carries_come c d stream at n handed le w k h =
    let l : length c.waiting ≡ length stream - at = rw h.waits (length-drop at stream) in
    let waits : d.waiting ≡ drop (at + n) stream = rw (w, h.waits) (drop-drop n at stream) in
    let cuts : Cuts handed d.cutter (take (at + n) stream) = rw (k, take-add at n stream, h.waits) (cuts-append handed c.cutter (take at stream) (take n (drop at stream)) h.cuts) in
    record { bound = omega (arith, h.bound); waits = waits; cuts = cuts }

pub come_is : (c : Channel) (stream : List ℕ) (at count n : ℕ) (handed : List Frame) → n ≡ min count (length c.waiting) → Carries c stream at handed → min (length stream) (at + count) ≡ at + n
come_is c stream at count n handed m h =
    let l : length c.waiting ≡ length stream - at = rw h.waits (length-drop at stream) in
    omega (arith, h.bound)

pub carries_next : (r : Next) (c d : Channel) (stream : List ℕ) (at : ℕ) (handed : List Frame) → d.waiting ≡ c.waiting → Answers r c.cutter d.cutter → Carries c stream at handed → NextOf (whole_of r) d stream at handed
carries_next (next.Frame f) c d stream at handed w a h = (
  (step_is (next.Frame f) handed c.cutter d.cutter (take at stream) a h.cuts).1,
  record { bound = h.bound; waits = w ∙ h.waits; cuts = cuts_next (next.Frame f) handed c.cutter d.cutter (take at stream) a h.cuts },
)
carries_next next.Need c d stream at handed w a h = (
  (step_is next.Need handed c.cutter d.cutter (take at stream) a h.cuts).1,
  record { bound = h.bound; waits = w ∙ h.waits; cuts = cuts_next next.Need handed c.cutter d.cutter (take at stream) a h.cuts },
)
carries_next (next.BadLength n) c d stream at handed w a h = (
  (step_is (next.BadLength n) handed c.cutter d.cutter (take at stream) a h.cuts).1,
  record { bound = h.bound; waits = w ∙ h.waits; cuts = cuts_next (next.BadLength n) handed c.cutter d.cutter (take at stream) a h.cuts },
)
