-- The schedule that is made from a number.
use Rattle.std.specs.Prelude.{ℕ, zero, suc, ◌+◌, ◌*◌, ◌%◌, ◌^◌, ◌==◌, nat_lt, List, [], ◌∷◌, ◌++◌, length, replicate, if◌then◌else◌, codes}
use Rattle.std.specs.Fmt.{decimal}
use Rattle.std.specs.Int.{div_ceil}
use Rattle.rand_pcg.specs.Lcg.{Lcg, started, increment_of}
use Rattle.rand_pcg.specs.Pcg.{pcg32, multiplier_64}
use Rattle.pgw_frames.specs.Frames.{render}
use Rattle.pgw_frames.specs.declared.frame.Frame.{Frame}
use Rattle.pgw_messages.specs.Frontend.{front_frame}
use Rattle.pgw_messages.specs.declared.frontend.message.FrontMsg.TheVariants as front
use Rattle.session_model.specs.Texts.{query}
use Rattle.session_model.specs.declared.transfer.TransferKey.{TransferKey}
use Rattle.tally_session.specs.declared.store.Nothing.{Nothing}
use Rattle.forwarder_world.specs.declared.event.Event.{Event}
use Rattle.forwarder_world.specs.declared.event.Event.TheVariants.{Give, Read, Forward, Deliver, Pod, Back, Pass, Stop, Park, Hold, Start, Move, DeliverNew, PodNew, CutNew, NoDial}

-- the generator of this number, on its stream 54
unfoldable pub words_of : ℕ → Lcg
words_of number = started 64 multiplier_64 number (increment_of 64 54)

-- its next word, and the generator behind it
unfoldable pub word : Lcg → ℕ
word g = (pcg32 g).0

unfoldable pub behind : Lcg → Lcg
behind g = (pcg32 g).1

-- a key of four words, and the generator behind them
unfoldable pub key_of : Lcg → TransferKey
key_of g = record {
  high = word g * 2 ^ 32 + word (behind g);
  low = word (behind (behind g)) * 2 ^ 32 + word (behind (behind (behind g)));
}

unfoldable pub behind_key : Lcg → Lcg
behind_key g = behind (behind (behind (behind g)))

-- the messages of a turn: a Query with a number, a Sync, or a copy with its data
abbrev pub queries : ℕ → List Frame
queries i = query (decimal i) ∷ []

abbrev pub syncs : List Frame
syncs = front_frame front.Sync ∷ []

abbrev pub copies : List Frame
copies = query (codes "COPY t FROM STDIN") ∷ front_frame (front.CopyData (codes "x")) ∷ front_frame front.CopyDone ∷ []

-- The client gives these messages at once; they are read in pieces of so many bytes, forwarded, taken and answered
-- by so many.
unfoldable pub sends : List Frame → ℕ → ℕ → List (Event Nothing)
sends fs piece replies =
    Give (render fs) ∷ replicate (div_ceil (length (render fs)) piece) (Read piece)
    ++ replicate (length fs) Forward
    ++ Deliver 65535 ∷ replicate (length fs) Pod
    ++ Back 65535 ∷ replicate replies Pass

-- a transfer up to the dial
unfoldable pub dials : TransferKey → List (Event Nothing)
dials key = Stop ∷ Park ∷ Hold ∷ Start key ∷ Move ∷ Deliver 65535 ∷ Pod ∷ replicate 5 Move

-- behind it, the new pod greets and takes the state, or the new link is cut
abbrev pub rest : List (Event Nothing)
rest = Move ∷ DeliverNew 65535 ∷ PodNew ∷ replicate 4 Move ++ DeliverNew 65535 ∷ PodNew ∷ replicate 4 Move

abbrev pub cut : List (Event Nothing)
cut = Move ∷ CutNew 0 ∷ Move ∷ []

-- a whole transfer, one whose dial fails, or one whose new link is cut
unfoldable pub moves : ℕ → TransferKey → List (Event Nothing)
moves kind key =
    if nat_lt kind 2 then dials key ++ rest
    else if kind == 2 then NoDial ∷ dials key
    else dials key ++ cut

-- Turn i by the remainder of its first word, its second word, and the generator behind these: its events, and the
-- generator behind it.
unfoldable pub events_by : ℕ → ℕ → ℕ → Lcg → List (Event Nothing)
events_by i kind v g =
    if kind == 7 then moves (v % 4) (key_of g)
    else if kind == 6 then sends copies (v % 64 + 1) 3
    else if kind == 5 then sends syncs (v % 64 + 1) 1
    else sends (queries i) (v % 64 + 1) 2

unfoldable pub behind_turn : ℕ → Lcg → Lcg
behind_turn kind g = if kind == 7 then behind_key g else g

unfoldable pub turn : ℕ → Lcg → List (Event Nothing) × Lcg
turn i g = (events_by i (word g % 8) (word (behind g)) (behind (behind g)), behind_turn (word g % 8) (behind (behind g)))

-- the first n turns
unfoldable pub turns : ℕ → Lcg → List (Event Nothing) × Lcg
turns zero g = ([], g)
turns (suc n) g = let so_far = turns n g in let more = turn n so_far.1 in (so_far.0 ++ more.0, more.1)

-- the greeting is passed on
abbrev pub first_events : List (Event Nothing)
first_events = Back 65535 ∷ Pass ∷ Pass ∷ Pass ∷ []

-- the schedule of a number, with so many turns
abbrev pub generated : ℕ → ℕ → List (Event Nothing)
generated number n = first_events ++ (turns n (words_of number)).0
