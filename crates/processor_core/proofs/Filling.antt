-- Bytes that are read behind those that are held, and a frame that is dropped in front.
use Rattle.std.proofs.Common.{◌≡◌, ℕ, ◌+◌, ◌-◌, ◌≤◌, List, ◌++◌, length, take, drop, refl, sym, ap, ◌∙◌, arith, length-take, length-drop, get_or}
use Rattle.std.proofs.lemmas.Grind.{common_steps}
use Rattle.std.proofs.lemmas.List.{take-append-le}
use Rattle.std.proofs.Math.Seq.{take-append-add}
use borrow.Rule.Slice.PartMut.{mid_of, put_mid, post_of}
use Rattle.pgw_frames.specs.declared.frame.Frame.{Frame}
use Rattle.pgw_frames.specs.Frames.{front, Whole, frame_bytes, frame_of, length_field}
use Rattle.pgw_frames.proofs.Fronts.{whole_is}
use Rattle.proxy_outside.specs.Reading.{Origin, Reads, ReadCase}
use Rattle.proxy_outside.specs.declared.source.Took.{Took}
use Rattle.proxy_outside.specs.declared.source.Took.TheVariants.{Got, End, Idle, Failed}
use Rattle.processor_core.specs.Intakes.{count_of, ReadsBehind}
use Rattle.processor_core.proofs.Cutting.{whole_length}

-- no read takes more than its buffer has room for
few : (t : Took) (old new : Origin) (before after : List ℕ) → ReadCase t old new before after → count_of t ≤ length before
few (Got n) old new before after r = r.1
few End old new before after r = omega arith
few Idle old new before after r = omega arith
few Failed old new before after r = omega arith

put_length : (a k : ℕ) (xs ys : List ℕ) → a + k ≤ length xs → length ys ≡ k → length (put_mid a k xs ys) ≡ length xs
put_length a k xs ys h e = grind (arith, common_steps)

take_put : (a k n : ℕ) (xs ys : List ℕ) → a + k ≤ length xs → length ys ≡ k → n ≤ k → take (a + n) (put_mid a k xs ys) ≡ take a xs ++ take n ys
take_put a k n xs ys h e m =
    let front : length (take a xs) ≡ a = grind (arith, common_steps) in
    let le = take-append-le n ys (post_of a k xs) (omega (arith, e, m)) in
    ap (λ v. take (v + n) (put_mid a k xs ys)) (sym front) ∙ take-append-add (take a xs) (ys ++ post_of a k xs) n ∙ ap (λ v. take a xs ++ v) le

pub behind_is : (t : Took) (old new : Origin) (end k : ℕ) (xs ys : List ℕ) → end + 8192 ≤ length xs → k ≡ 8192 → length ys ≡ k → Reads t old new (mid_of end k xs) ys → ReadsBehind t old new end xs (put_mid end k xs ys)
behind_is t old new end k xs ys room is same r =
    let mid : length (mid_of end k xs) ≡ k = omega (arith, room, is, length-take k (drop end xs), length-drop end xs) in
    let n : count_of t ≤ k = omega (arith, mid, few t old new (mid_of end k xs) ys r.by_case) in
    let all : length (put_mid end k xs ys) ≡ length xs = put_length end k xs ys (omega (arith, room, is)) same in
    record {
      bytes = take (count_of t) ys;
      some = record {
        before = mid_of end k xs;
        after = ys;
        most = omega (arith, mid, is);
        reads = r;
        are = refl;
        count = omega (arith, n, same, length-take (count_of t) ys);
      };
      length_is = all;
      within = omega (arith, all, n, is, room);
      stand = take_put end k (count_of t) xs ys (omega (arith, room, is)) same n;
    }

-- the bytes that are lent are the first of those that are held, and the others follow them
pub lent_first : (held bytes more : List ℕ) → front held ≡ Whole (frame_of bytes) more → bytes ≡ frame_bytes (frame_of bytes) → (length bytes ≤ length held) × (drop (length bytes) held ≡ more)
lent_first held bytes more e b =
    let w = whole_is held (frame_of bytes) more e in
    let n = whole_length held (frame_of bytes) more e in
    let wire : length bytes ≡ length (frame_bytes (frame_of bytes)) = ap (λ (v : List ℕ). length v) b in
    let left : length more ≡ length held - (length_field held + 1) = rw (← w.is_rest) (length-drop (length_field held + 1) held) in
    let count : length bytes ≡ length_field held + 1 = omega (arith, n, wire, left, w.there) in
    (omega (arith, n, wire), ap (λ (k : ℕ). drop k held) count ∙ w.is_rest)

pub lent_within : (all held bytes more : List ℕ) (start end : ℕ) → drop start (take end all) ≡ held → start ≤ end → front held ≡ Whole (frame_of bytes) more → bytes ≡ frame_bytes (frame_of bytes) → start + length bytes ≤ end
lent_within all held bytes more start end v h e b =
    let l = (lent_first held bytes more e b).0 in
    omega (arith, l, h, ap (λ (x : List ℕ). length x) v, length-drop start (take end all), length-take end all)

pub drops_lent : (all held bytes more : List ℕ) (start end : ℕ) → drop start (take end all) ≡ held → front held ≡ Whole (frame_of bytes) more → bytes ≡ frame_bytes (frame_of bytes)
    → (f : Frame) × (front held ≡ Whole f (drop (start + length bytes) (take end all))) × (f.tag ≡ get_or bytes 0 0)
drops_lent all held bytes more start end v e b =
    let rest : more ≡ drop (start + length bytes) (take end all) = sym (lent_first held bytes more e b).1 ∙ ap (drop (length bytes)) (sym v) ∙ drop-drop start (length bytes) (take end all) in
    (frame_of bytes, e ∙ ap (Whole (frame_of bytes)) rest, refl)
  where
    drop-drop : (m n : ℕ) (xs : List ℕ) → drop n (drop m xs) ≡ drop (m + n) xs
    drop-drop m n xs = grind (arith, common_steps)
