-- A link to a pod, with the session at its end.
use Rattle.std.specs.Prelude.{ℕ, ◌+◌, ◌-◌, ◌==◌, nat_lt, min, Bool, true, false, not, ◌&&◌, List, [], ◌++◌, length, take, Option, Some, None, slice_get, if◌then◌else◌}
use Rattle.pgw_frames.specs.declared.frame.Frame.{Frame}
use Rattle.pgw_frames.specs.Frames.{frames, frame_bytes, render}
use Rattle.proxy_outside.specs.Rules.{Rules}
use Rattle.session_model.specs.Kind.{Kind}
use Rattle.pgw_messages.specs.declared.params.Pair.{Pair}
use Rattle.session_model.specs.Solo.{told}

pub record Link (S : Type 0) : Type 0 where
  pub startup : List ℕ  -- the startup packet, as far as it was sent
  pub sent : List ℕ  -- all bytes sent behind it
  pub delivered : ℕ  -- how many bytes of both reached the pod
  pub taken : ℕ  -- how many messages behind the startup packet the pod took
  pub got : List ℕ  -- all bytes that the pod sent
  pub back : ℕ  -- how many of them were read
  pub out : ℕ  -- how many messages were read out of them
  pub session : Option S  -- none until the pod took the startup packet
  pub cut : Bool

-- a link that was just dialed
abbrev pub dialed : {S : Type 0} → Link S
dialed = record { startup = []; sent = []; delivered = 0; taken = 0; got = []; back = 0; out = 0; session = None; cut = false }

-- a link whose pod took the startup packet
abbrev pub opened : {S C R : Type 0} → Kind S C R → List Pair → List ℕ → Link S
opened k p packet = record {
  startup = packet;
  sent = [];
  delivered = length packet;
  taken = 0;
  got = render (k.begins p).1;
  back = 0;
  out = 0;
  session = Some (k.begins p).0;
  cut = false;
}

abbrev pub opens : {S : Type 0} → Link S → List ℕ → Link S
opens l b = record l { startup = b }

abbrev pub sends : {S : Type 0} → Link S → Frame → Link S
sends l f = record l { sent = l.sent ++ frame_bytes f }

abbrev pub delivers : {S : Type 0} → Link S → ℕ → Link S
delivers l n = record l { delivered = min (length l.startup + length l.sent) (l.delivered + n) }

abbrev pub reads_back : {S : Type 0} → Link S → ℕ → Link S
reads_back l n = record l { back = min (length l.got) (l.back + n) }

-- the next message that the pod can take
abbrev pub next_to_pod : {S : Type 0} → Link S → Option Frame
next_to_pod l = slice_get (frames (take (l.delivered - length l.startup) l.sent)) l.taken

-- the next message that is whole among what was read
abbrev pub next_of_read : {S : Type 0} → Link S → Option Frame
next_of_read l = slice_get (frames (take l.back l.got)) l.out

-- the next message that is whole among all that came
abbrev pub next_of_got : {S : Type 0} → Link S → Option Frame
next_of_got l = slice_get (frames l.got) l.out

-- a message was read out of what was read
abbrev pub passes : {S : Type 0} → Link S → Link S
passes l = record l { out = l.out + 1 }

-- a message was read, and nothing behind it
abbrev pub takes : {S : Type 0} → Link S → Frame → Link S
takes l f = record l { out = l.out + 1; back = l.back + length (frame_bytes f) }

-- the next message that is whole among all that came is read, where there is one
abbrev pub taken_by : {S : Type 0} → Link S → Option Frame → Link S
taken_by l None = l
taken_by l (Some f) = takes l f

abbrev pub takes_next : {S : Type 0} → Link S → Link S
takes_next l = taken_by l (next_of_got l)

-- all that was read was handed out
abbrev pub holds_nothing : {S : Type 0} → Link S → Bool
holds_nothing l = l.back == length (render (take l.out (frames l.got)))

-- the link is cut, with at most so many bytes still to be read
abbrev pub cuts : {S : Type 0} → Link S → ℕ → Link S
cuts l n = record l { got = take (l.back + n) l.got; cut = true }

-- the pod tells its session a message
abbrev pub hears : {S T C R : Type 0} → Kind S C R → Rules T C R → Link S → S → T → Frame → Link S
hears k rules l s t f = record l {
  taken = l.taken + 1;
  got = l.got ++ render (told k rules s t f).1;
  session = Some (told k rules s t f).0;
}

-- the pod takes the startup packet
abbrev pub begins : {S C R : Type 0} → Kind S C R → List Pair → Link S → Link S
begins k p l =
    if (nat_lt 0 (length l.startup)) && not (nat_lt l.delivered (length l.startup))
    then record l { got = l.got ++ render (k.begins p).1; session = Some (k.begins p).0 }
    else l
