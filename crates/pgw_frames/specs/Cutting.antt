-- What a cutter answers.
use Rattle.std.specs.Prelude.{◌≡◌, ◌≤◌, ℕ, List, length, Option, Some, None}
use Rattle.pgw_frames.specs.Frames.{Front, front, Whole, Partial, Malformed, frame_bytes, frame_of, IsGood}
use Rattle.pgw_frames.specs.declared.frame.Frame.{Frame}
use Rattle.pgw_frames.specs.declared.cutter.Ahead.{Ahead}
use Rattle.pgw_frames.specs.declared.cutter.Ahead.TheVariants as ahead
use Rattle.pgw_frames.specs.declared.cutter.Next.{Next}
use Rattle.pgw_frames.specs.declared.cutter.Next.TheVariants as next

-- the answer where old was held, and what is held afterwards
abbrev pub Answers : Next → List ℕ → List ℕ → Type 0
Answers (next.Frame f) old new = front old ≡ Whole f new
Answers next.Need old new = (front old ≡ Partial) × (new ≡ old)
Answers (next.BadLength n) old new = (front old ≡ Malformed n) × (new ≡ old)

-- a frame that is handed out can be written again
abbrev pub HasGoodFrame : Next → Type 0
HasGoodFrame (next.Frame f) = length f.body ≤ 16777216
HasGoodFrame next.Need = Unit {0}
HasGoodFrame (next.BadLength n) = Unit {0}

-- a whole frame stands at the front
abbrev pub HasFrame : Front → Type 0
HasFrame (Whole f more) = Unit {0}
HasFrame Partial = ⊥
HasFrame (Malformed n) = ⊥

-- what is lent where these bytes are held: a frame is lent as its bytes, and can be written again
abbrev pub Shows : Ahead → List ℕ → Type 0
Shows (ahead.Frame bytes) held =
    ((more : List ℕ) × (front held ≡ Whole (frame_of bytes.now) more))
    × (bytes.now ≡ frame_bytes (frame_of bytes.now))
    × IsGood (frame_of bytes.now)
Shows ahead.Need held = front held ≡ Partial
Shows (ahead.BadLength n) held = front held ≡ Malformed n

-- the type of the frame that was dropped where old was held, and what is held afterwards
abbrev pub Advances : Option ℕ → List ℕ → List ℕ → Type 0
Advances (Some tag) old new = (f : Frame) × (front old ≡ Whole f new) × (f.tag ≡ tag)
Advances None old new = (HasFrame (front old) → ⊥) × (new ≡ old)
