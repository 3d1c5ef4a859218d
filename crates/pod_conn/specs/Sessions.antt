-- What a session is told, and what it asks and replies, message by message.
use Rattle.std.specs.Prelude.{◌==◌, ℕ, if◌then◌else◌, List, [], ◌∷◌, Option, Some, None}
use Rattle.pgw_frames.specs.declared.frame.Frame.{Frame}
use Rattle.pgw_frames.specs.Frames.{Front, Whole, Partial, Malformed, front, frames, rest, render}
use Rattle.pgw_messages.specs.declared.params.Pair.{Pair}
use Rattle.pgw_messages.specs.Tags as tag
use Rattle.session_model.specs.Kind.{Kind}
use Rattle.pod_conn.specs.Courses.{Standing, BadLength, Starved, Left, Course, stands, writes, asks, resting}

-- where the bytes end that no whole message begins
abbrev pub ending_at : Front → List ℕ → Standing
ending_at (Malformed n) b = BadLength n
ending_at Partial b = resting b
ending_at (Whole f more) b = resting b

abbrev pub ending : List ℕ → Standing
ending b = ending_at (front (rest b)) (rest b)

module _ {S C R : Type 0} (k : Kind S C R) where
  -- a message is told with this answer, its replies are written, and then it goes on from the next state
  abbrev pub replied : S → Frame → Option R → (S → Course C R) → Course C R
  replied s f a next = writes (render (k.tells s f a).1) (next (k.tells s f a).0)

  -- what the message asks has the next of the answers
  abbrev pub answered : S → Frame → Option C → List R → (S → List R → Course C R) → Course C R
  answered s f None rs next = replied s f None (λ t. next t rs)
  answered s f (Some c) [] next = stands Starved
  answered s f (Some c) (a ∷ rs) next = asks c a (replied s f (Some a) (λ t. next t rs))

  -- messages are told up to a Terminate
  abbrev pub told : S → List Frame → Standing → List R → Course C R
  told s [] end rs = stands end
  told s (f ∷ fs) end rs = answered s f (k.asks s f) rs (λ t others. if f.tag == tag.terminate then stands Left else told t fs end others)

  -- the messages of these bytes
  abbrev pub served : S → List ℕ → List R → Course C R
  served s b rs = told s (frames b) (ending b) rs

  -- this message is told, and then those of these bytes
  abbrev pub telling : S → Frame → List ℕ → List R → Course C R
  telling s f b rs = answered s f (k.asks s f) rs (λ t others. if f.tag == tag.terminate then stands Left else served t b others)

  -- a session that begins with these parameters
  abbrev pub begun : List Pair → List ℕ → List R → Course C R
  begun p b rs = writes (render (k.begins p).1) (served (k.begins p).0 b rs)
