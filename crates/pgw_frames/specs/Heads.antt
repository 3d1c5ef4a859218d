-- What the head of a frame says of the bytes at the front.
use Rattle.std.specs.Prelude.{◌≡◌, ℕ, ◌-◌, ◌≤◌, List, length, take, drop, slice_index}
use Rattle.pgw_frames.specs.Frames.{front, Whole, Partial, Malformed}
use Rattle.pgw_frames.specs.declared.head.Head.{Head}
use Rattle.pgw_frames.specs.declared.head.Head.TheVariants as head

abbrev pub HeadIs : Head → List ℕ → Type 0
HeadIs (head.Whole count) b =
    (5 ≤ count) × (count ≤ length b) × (count ≤ 16777221)
    × (front b ≡ Whole (record { tag = slice_index b 0; body = take (count - 5) (drop 5 b) }) (drop count b))
HeadIs head.Need b = front b ≡ Partial
HeadIs (head.BadLength n) b = front b ≡ Malformed n
