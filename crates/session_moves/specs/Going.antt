-- What an attempt adds to a trace so far.
use Rattle.std.specs.Prelude.{◌<◌, ◌^◌, ◌≡◌, ℕ, Bool, true, false, List, [], ◌∷◌, Option, Some}
use Rattle.std.specs.Option.{option_to_list}
use Rattle.pgw_frames.specs.Frames.{Begins, frame_bytes}
use Rattle.pgw_messages.specs.declared.params.Pair.{Pair}
use Rattle.pgw_messages.specs.declared.pod_key.PodKey.{PodKey}
use Rattle.proxy_links.specs.Links.{Links, LinkRecord}
use Rattle.proxy_links.specs.Told.{Grows}
use Rattle.proxy_links.specs.declared.dialer.Dial.{Dial}
use Rattle.proxy_outside.specs.declared.place.Place.{Place}
use Rattle.session_asks.specs.Dialing.{DialsIt, dial_in}
use Rattle.session_asks.specs.Greetings.{keys_of}
use Rattle.session_legs.specs.declared.side.LegEnd.TheVariants.{Parked}
use Rattle.session_model.specs.Texts.{transfer_query}
use Rattle.session_model.specs.declared.transfer.TransferKey.{TransferKey}
use Rattle.session_trace.specs.Attempts.{CameTo}
use Rattle.session_trace.specs.Growing.{exchanged}
use Rattle.session_trace.specs.Records.{open_link}
use Rattle.session_trace.specs.Running.{Now, Board}
use Rattle.session_trace.specs.Trace.{Attempt, Next, Same, Moved, Round, all_forwarded, all_relayed}
use Rattle.session_trace.specs.Transfers.{IsSafe, FitsRound}
use Rattle.session_trace.specs.Trials.{Trials}
use Rattle.session_round.specs.Standing.{Begin, Stands}
use Rattle.session_round.specs.Ending.{IsRun, Ends}
use Rattle.session_moves.specs.Attempts.{Tries}
use Rattle.session_moves.specs.Telling.{TellsLinks, TellsAll, Placed}
use Rattle.session_moves.specs.declared.moving.Tried.{Tried}
use Rattle.session_moves.specs.declared.moving.Tried.TheVariants as tried

-- where an attempt is made: both sides parked at a safe point, and nothing is held
pub record Ready (newest : Round) (f g : List ℕ) : Type 0 where
  pub run : IsRun newest Parked Parked
  pub nothing_held : newest.held ≡ []
  pub safe_there : IsSafe f g

-- what was sent and got for an attempt, what was dialed and left, and where the session stands
pub record Attempting : Type 0 where
  pub attempt : Attempt
  pub ask : List ℕ
  pub answer : List ℕ
  pub trials : List LinkRecord
  pub next : Next

abbrev pub with_attempt : Round → Attempting → Round
with_attempt r a = exchanged r a.attempt a.ask a.answer a.trials a.next

-- to a link whose opening gave just this key
abbrev pub MovedWith : Option PodKey → Next → Type 0
MovedWith key Same = ⊥
MovedWith key (Moved c o) = keys_of o ≡ option_to_list key

-- what is recorded of an attempt that came to this
abbrev pub LedTo : Tried → Attempting → Type 0
LedTo (tried.Moved key) a = (a.attempt.starved ≡ false) × MovedWith key a.next
LedTo tried.Stayed a = (a.attempt.starved ≡ false) × (a.next ≡ Same)
LedTo tried.Starved a = (a.attempt.starved ≡ true) × (a.next ≡ Same)
LedTo (tried.Cut c) a = (a.attempt.starved ≡ false) × (a.next ≡ Same)

-- an attempt that was made of a place with a key; ends says whether it ended the call
pub record Makes (p : List Pair) (patience : ℕ) (at : Place) (key : TransferKey) (links links' : Links) (ends : Bool) (newest : Round) (a : Attempting) (t : Tried) : Type 0 where
  pub there : a.attempt.place ≡ at
  pub drawn : Begins a.ask (frame_bytes (transfer_query key))
  pub came_to : CameTo p ends a.attempt (with_attempt newest a)
  pub dialed : (d : Dial) → a.attempt.dial ≡ Some d → d.place ≡ at
  pub dials_it : DialsIt p at a.attempt.starved a.answer a.next a.attempt.dial
  pub dials : Grows links.dials links'.dials (dial_in a.attempt.dial)
  pub left : Trials p patience a.attempt.starved a.trials
  pub led : LedTo t a

-- the transfer Query was sent whole and answered; at the call's end both may be cut
abbrev pub Fits : List Pair → Bool → List ℕ → List ℕ → Attempting → Type 0
Fits p ends f g a = FitsRound p ends f g a.ask a.answer a.next

-- the session stands behind it
pub record GoesOn (b : Begin) (p : List Pair) (patience : ℕ) (at : Place) (key : TransferKey) (links links' : Links) (new : Now) (board : Board) (newest : Round) (rs : List Round) (t : Tried) : Type 0 where
  pub tried : Attempting
  pub makes : Makes p patience at key links links' false newest tried t
  pub stands : Stands b new links' board (with_attempt newest tried ∷ rs)
  pub placed : Placed (open_link b.first (with_attempt newest tried ∷ rs)) links'
  pub fits : Fits p false (all_forwarded (newest ∷ rs)) (all_relayed (newest ∷ rs)) tried

-- the call ended by it, with both sides parked
pub record EndsBy (b : Begin) (p : List Pair) (patience : ℕ) (at : Place) (key : TransferKey) (links links' : Links) (new : Now) (board : Board) (newest : Round) (rs : List Round) (t : Tried) : Type 0 where
  pub tried : Attempting
  pub makes : Makes p patience at key links links' true newest tried t
  pub ends : Ends b new new links' board Parked Parked (with_attempt newest tried ∷ rs)
  pub placed : Placed (open_link b.first (with_attempt newest tried ∷ rs)) links'
  pub stays : tried.next ≡ Same
  pub fits : Fits p true (all_forwarded (newest ∷ rs)) (all_relayed (newest ∷ rs)) tried

-- by what the attempt came to
abbrev pub Leads : Begin → List Pair → ℕ → Place → TransferKey → Links → Links → Now → Board → Round → List Round → Tried → Type 0
Leads b p patience at key links links' new board newest rs (tried.Moved k) = GoesOn b p patience at key links links' new board newest rs (tried.Moved k)
Leads b p patience at key links links' new board newest rs tried.Stayed = GoesOn b p patience at key links links' new board newest rs tried.Stayed
Leads b p patience at key links links' new board newest rs tried.Starved = GoesOn b p patience at key links links' new board newest rs tried.Starved
Leads b p patience at key links links' new board newest rs (tried.Cut c) = EndsBy b p patience at key links links' new board newest rs (tried.Cut c)

-- wherever a session stands where an attempt may be made, over a dialer that tells its dials
abbrev pub AttemptsGoOn : Type 0
AttemptsGoOn =
    (b : Begin) (p : List Pair) (patience : ℕ) (at : Place) (given given' : Option (List ℕ)) (links links' : Links) (old new : Now) (board : Board) (newest : Round) (rs : List Round) (t : Tried) (tries : Tries p patience at given given' links links' old new t)
    → Stands b old links board (newest ∷ rs) → Ready newest (all_forwarded (newest ∷ rs)) (all_relayed (newest ∷ rs)) → Placed (open_link b.first (newest ∷ rs)) links → TellsLinks links' → patience < 2 ^ 64
    → Leads b p patience at tries.key links links' new board newest rs t

-- a client's source, a link and a dialer that tell their lists behind an attempt did so before it
abbrev pub AttemptsTell : Type 0
AttemptsTell =
    (p : List Pair) (patience : ℕ) (at : Place) (given given' : Option (List ℕ)) (links links' : Links) (old new : Now) (t : Tried) → Tries p patience at given given' links links' old new t → TellsAll new links' → TellsAll old links
