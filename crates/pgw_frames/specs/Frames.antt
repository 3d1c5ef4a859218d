-- Frames of the protocol after startup (PostgreSQL manual, Message Formats): a type byte, a length as a
-- big-endian number of four bytes that counts itself and not the type byte, and a body.
use Rattle.std.specs.Prelude.{◌≡◌, ℕ, zero, suc, ◌+◌, ◌-◌, ◌<◌, ◌≤◌, Bool, ◌||◌, List, [], ◌∷◌, ◌++◌, length, take, drop, Option, Some, None, nat_lt, if◌then◌else◌, slice_index, get_or}
use Rattle.std.specs.Int.{w32, to_be_bytes, from_be_bytes}
use Rattle.std.specs.List.{flat_map}
use Rattle.pgw_frames.specs.declared.frame.Frame.{Frame}

-- the bytes of one frame
abbrev pub frame_bytes : Frame → List ℕ
frame_bytes f = f.tag ∷ to_be_bytes w32 (length f.body + 4) ++ f.body

-- the frame that these bytes are, where they are one
abbrev pub frame_of : List ℕ → Frame
frame_of b = record { tag = get_or b 0 0; body = drop 5 b }

-- the bytes of a list of frames
abbrev pub render : List Frame → List ℕ
render fs = flat_map frame_bytes fs

abbrev pub IsBytes : List ℕ → Type 0
IsBytes b = (i : ℕ) → get_or b i 0 < 256

-- one list begins another
abbrev pub Begins : {A : Type 0} → List A → List A → Type 0
Begins {A} xs ys = (more : List A) × (xs ++ more ≡ ys)

-- a frame that has a good length
abbrev pub IsGood : Frame → Type 0
IsGood f = length f.body ≤ 16777216

-- the length field at the front
abbrev pub length_field : List ℕ → ℕ
length_field b = from_be_bytes w32 (take 4 (drop 1 b))

-- a length field that is none: the range is 4 to 16,777,220
abbrev pub is_bad_length : ℕ → Bool
is_bad_length n = nat_lt n 4 || nat_lt 16777220 n

-- what stands at the front of the bytes
pub data Front : Type 0 where
  Whole : Frame → List ℕ → Front
  Partial : Front
  Malformed : ℕ → Front

unfoldable pub front : List ℕ → Front
front b =
    if nat_lt (length b) 5 then Partial
    else if is_bad_length (length_field b) then Malformed (length_field b)
    else if nat_lt (length b) (length_field b + 1) then Partial
    else Whole (record { tag = slice_index b 0; body = take (length_field b - 4) (drop 5 b) }) (drop (length_field b + 1) b)

-- the frames at the front of the bytes, at most so many, and what is left
abbrev pub frames_of_front : (List ℕ → List Frame) → Front → List Frame
frames_of_front more (Whole f rest) = f ∷ more rest
frames_of_front more Partial = []
frames_of_front more (Malformed n) = []

unfoldable pub frames_up_to : ℕ → List ℕ → List Frame
frames_up_to zero b = []
frames_up_to (suc n) b = frames_of_front (frames_up_to n) (front b)

-- the longest list of frames with good lengths whose bytes stand at the front
unfoldable pub frames : List ℕ → List Frame
frames b = frames_up_to (length b) b

-- what follows these frames
abbrev pub rest_of_front : (List ℕ → List ℕ) → Front → List ℕ → List ℕ
rest_of_front more (Whole f others) b = more others
rest_of_front more Partial b = b
rest_of_front more (Malformed n) b = b

unfoldable pub rest_up_to : ℕ → List ℕ → List ℕ
rest_up_to zero b = b
rest_up_to (suc n) b = rest_of_front (rest_up_to n) (front b) b

unfoldable pub rest : List ℕ → List ℕ
rest b = rest_up_to (length b) b

abbrev pub bad_of_front : Front → Option ℕ
bad_of_front (Malformed n) = Some n
bad_of_front (Whole f more) = None
bad_of_front Partial = None

-- the length field that is none, where one stands behind these frames
unfoldable pub bad : List ℕ → Option ℕ
bad b = bad_of_front (front (rest b))
