-- Which links are dialed for the attempts to move a session, and which words are drawn for them.
use Rattle.std.specs.Prelude.{◌≡◌, ◌⊎◌, ℕ, ⊤, Bool, true, List, [], ◌∷◌, ◌++◌, Option, Some, None}
use Rattle.pgw_frames.specs.Frames.{Begins, frame_bytes}
use Rattle.pgw_messages.specs.declared.params.Pair.{Pair}
use Rattle.proxy_outside.specs.declared.place.Place.{Place}
use Rattle.proxy_links.specs.declared.dialer.Dial.{Dial}
use Rattle.session_model.specs.Texts.{transfer_query}
use Rattle.session_model.specs.declared.transfer.TransferKey.{TransferKey}
use Rattle.transfer_stages.specs.Accepts.{AcceptsOld}
use Rattle.transfer_stages.specs.declared.stage.Said.TheVariants.{Given}
use Rattle.session_trace.specs.Trace.{Next, Same, Moved, Attempt, Round}
use Rattle.session_trace.specs.Openings.{IsWhole}

-- ---- dials

abbrev pub dial_in : Option Dial → List Dial
dial_in None = []
dial_in (Some d) = d ∷ []

abbrev pub dials_of : Option Attempt → List Dial
dials_of None = []
dials_of (Some a) = dial_in a.dial

-- what was dialed for all attempts, in their order
abbrev pub dials_in : List Round → List Dial
dials_in [] = []
dials_in (r ∷ rs) = dials_in rs ++ dials_of r.attempt

-- the old pod gave a state and a token
abbrev pub GivesState : List Pair → List ℕ → Type 0
GivesState p answer = (w : IsWhole answer) × (key : TransferKey) × (state : List ℕ) × (token : List ℕ) × AcceptsOld key p w.fs (Given state token)

-- a move is to the place that was dialed
abbrev pub LeadsTo : Dial → Next → Type 0
LeadsTo d Same = ⊤
LeadsTo d (Moved c o) = (d.came ≡ true) × (o.place ≡ d.place)

-- the place is dialed exactly where a state was given, but for want of memory
abbrev pub DialsIt : List Pair → Place → Bool → List ℕ → Next → Option Dial → Type 0
DialsIt p place starved answer next (Some d) = GivesState p answer × (d.place ≡ place) × LeadsTo d next
DialsIt p place starved answer next None = ((starved ≡ true) ⊎ (GivesState p answer → ⊥)) × (next ≡ Same)

abbrev pub DialsFor : List Pair → Round → Option Attempt → Type 0
DialsFor p r None = r.next ≡ Same
DialsFor p r (Some a) = DialsIt p a.place a.starved r.answer r.next a.dial

-- after each round
abbrev pub DialsInRounds : List Pair → List Round → Type 0
DialsInRounds p [] = ⊤
DialsInRounds p (r ∷ rs) = DialsFor p r r.attempt × DialsInRounds p rs

-- ---- the keys of transfer Queries

-- two words are drawn for an attempt, and what was sent of its transfer Query has them as its key
abbrev pub DrawsFor : List ℕ → Option Attempt → List ℕ → Type 0
DrawsFor asked None ws = ws ≡ []
DrawsFor asked (Some a) ws = (key : TransferKey) × (ws ≡ key.high ∷ key.low ∷ []) × Begins asked (frame_bytes (transfer_query key))

-- all words that were drawn in rounds, in their order
abbrev pub DrawsInRounds : List Round → List ℕ → Type 0
DrawsInRounds [] ws = ws ≡ []
DrawsInRounds (r ∷ rs) ws = (earlier : List ℕ) × (later : List ℕ) × (ws ≡ earlier ++ later) × DrawsInRounds rs earlier × DrawsFor r.ask r.attempt later
