-- What one session, never moved, says to what was forwarded.
use Rattle.std.specs.Prelude.{ℕ, List, [], ◌∷◌, ◌++◌, Option, length, drop, map}
use Rattle.pgw_frames.specs.declared.frame.Frame.{Frame}
use Rattle.session_model.specs.Heard.{greeting, with_key}
use Rattle.pgw_frames.specs.Frames.{frames, rest, render}
use Rattle.proxy_outside.specs.declared.identity.ClientKey.{ClientKey}
use Rattle.pgw_messages.specs.declared.params.Pair.{Pair}
use Rattle.session_model.specs.Kind.{Kind}
use Rattle.session_trace.specs.Trace.{Same, Moved, Next, Round, Trace}
use Rattle.session_trace.specs.Replies.{Told, pair, replies}
use Rattle.session_trace.specs.Login.{login_of}

abbrev pub sent_next : Next → List ℕ → List ℕ
sent_next Same b = b
sent_next (Moved c o) b = o.asked

-- what the session on the open link was sent: behind the startup packet, and on the first link behind the login
abbrev pub sent : List Round → List ℕ
sent [] = []
sent (r ∷ rs) = sent_next r.next (sent rs ++ r.forwarded ++ r.ask)

-- what a pod adds to a trace: its greeting, and the answer to each message told
pub record Pod (A : Type 0) : Type 0 where
  pub greeting : List Frame
  pub answers : List (Option A)

-- the pod of the open link; pods stand newest first, one a link
abbrev pub open_pod : {A : Type 0} → List (Pod A) → Pod A
open_pod [] = record { greeting = []; answers = [] }
open_pod (p ∷ ps) = p

abbrev pub older_next : {A : Type 0} → Next → List (Pod A) → List (Pod A)
older_next Same ps = ps
older_next (Moved c o) [] = []
older_next (Moved c o) (p ∷ ps) = ps

-- the messages of all that was forwarded, each with the answer that its link gives
abbrev pub all_told : {A : Type 0} → List Round → List (Pod A) → List (Told A)
all_told [] pods = []
all_told (r ∷ rs) pods =
    all_told rs (older_next r.next pods)
    ++ pair (frames (rest (sent rs) ++ r.forwarded)) (drop (length (frames (sent rs))) (open_pod (older_next r.next pods)).answers)

-- what is passed on of an opening: its whole messages, with the client's key
abbrev pub keyed : ClientKey → List ℕ → List ℕ
keyed key b = render (map (with_key key) (frames b))

-- the login, the greeting, and the replies of one session, never moved, to all that was forwarded
abbrev pub spoken : {S C A : Type 0} → Kind S C A → ClientKey → List Pair → Trace → List (Pod A) → List Frame
spoken k key p t pods =
    map (with_key key) (login_of (frames t.first.got)) ++ greeting k key p ++ replies k (k.begins p).0 (all_told t.rounds pods)
