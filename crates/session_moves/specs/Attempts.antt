-- What an attempt to move a session does.
use Rattle.std.specs.Prelude.{◌≡◌, ◌⊎◌, ℕ, ◌≤◌, List, [], ◌∷◌, Option}
use Rattle.pgw_frames.specs.Frames.{frame_bytes}
use Rattle.pgw_messages.specs.declared.backend.fields.Field.{Field}
use Rattle.pgw_messages.specs.declared.params.Pair.{Pair}
use Rattle.pgw_messages.specs.declared.pod_key.PodKey.{PodKey}
use Rattle.proxy_links.specs.Links.{Links, Failing, HangsUp}
use Rattle.proxy_links.specs.Told.{Grows}
use Rattle.proxy_outside.specs.Reading.{Origin}
use Rattle.proxy_outside.specs.Writing.{Target}
use Rattle.proxy_outside.specs.declared.place.Place.{Place}
use Rattle.link_io.specs.Writing.{Wrote, WroteSome}
use Rattle.link_transfer.specs.Meeting.{NewLost}
use Rattle.link_transfer.specs.Telling.{OldLost}
use Rattle.link_transfer.specs.Transfers.{Moves, Trial, NewEnded, NewLeaves, OldReply, OldLeaves}
use Rattle.session_model.specs.Texts.{transfer_query}
use Rattle.session_model.specs.declared.transfer.TransferKey.{TransferKey}
use Rattle.session_trace.specs.Running.{Now}
use Rattle.transfer_stages.specs.declared.stage.Cut.{Cut}
use Rattle.transfer_stages.specs.declared.stage.Cut.TheVariants.{WriteFault}
use Rattle.transfer_stages.specs.declared.stage.Outcome.TheVariants as outcome
use Rattle.transfer_stages.specs.declared.stage.Said.TheVariants.{Given, Refuses}
use Rattle.transfer_stages.specs.declared.stage.Stage.TheVariants as stage
use Rattle.session_moves.specs.declared.moving.Tried.{Tried}
use Rattle.session_moves.specs.declared.moving.Tried.TheVariants as tried

-- two words make a key
abbrev pub Draws : Option (List ℕ) → Option (List ℕ) → TransferKey → Type 0
Draws given given' key = (between : Option (List ℕ)) × Grows given between (key.high ∷ []) × Grows between given' (key.low ∷ [])

-- the transfer Query was sent
abbrev pub Asked : TransferKey → Target → Target → Type 0
Asked t k l = Wrote k l (frame_bytes (transfer_query t))

-- the new pod took the session over, and the old link was hung up
pub record MovesTo (t : TransferKey) (p : List Pair) (patience : ℕ) (at : Place) (links links' : Links) (old new : Now) (key : Option PodKey) : Type 0 where
  pub state : List ℕ
  pub token : List ℕ
  pub tx : Target
  pub rx : Origin
  pub asked : Asked t old.tx tx
  pub reply : OldReply t p patience old.rx rx (Given state token)
  pub between : Links
  pub moves : Moves p state token at patience links between new.tx new.rx key
  pub hung : HangsUp between links' tx rx

-- why a new pod was left: it failed, or gave what isn't accepted
abbrev pub NewLeft : TransferKey → List Pair → List ℕ → List ℕ → ℕ → Target → Target → Origin → Origin → Type 0
NewLeft t p state token patience k l one two =
    ((c : Cut) × NewLeaves t p state token patience c k l one two)
    ⊎ ((fields : List Field) × NewEnded t p state token patience (stage.Ended (outcome.RevivalRefused fields)) k l one two)

-- the old pod gave a state, and with it no link came, or the new pod was left
pub record Fails (t : TransferKey) (p : List Pair) (patience : ℕ) (at : Place) (links links' : Links) (one two : Origin) : Type 0 where
  pub state : List ℕ
  pub token : List ℕ
  pub reply : OldReply t p patience one two (Given state token)
  pub fails : Failing links links' at ⊎ Trial (λ k l o n. NewLeft t p state token patience k l o n) at links links'

-- the old pod said why not
pub record Refused (t : TransferKey) (p : List Pair) (patience : ℕ) (links links' : Links) (one two : Origin) : Type 0 where
  pub reason : List ℕ
  pub reply : OldReply t p patience one two (Refuses reason)
  pub links_are : links' ≡ links

-- memory ran out with the new pod
pub record StarvesNew (t : TransferKey) (p : List Pair) (patience : ℕ) (at : Place) (links links' : Links) (one two : Origin) : Type 0 where
  pub state : List ℕ
  pub token : List ℕ
  pub reply : OldReply t p patience one two (Given state token)
  pub lost : Trial (λ k l o n. NewLost t p state token patience k l o n) at links links'

-- or before, and the old pod's reply was read to its end
abbrev pub StarvesOld : TransferKey → List Pair → ℕ → Links → Links → Origin → Origin → Type 0
StarvesOld t p patience links links' one two = OldLost t p patience one two × (links' ≡ links)

-- the old link failed, or its pod gave what isn't accepted
abbrev pub CutsOld : TransferKey → List Pair → ℕ → Cut → Links → Links → Now → Now → Type 0
CutsOld t p patience c links links' old new =
    ((c ≡ WriteFault) × WroteSome old.tx new.tx (frame_bytes (transfer_query t)) × (new.rx ≡ old.rx) × (links' ≡ links))
    ⊎ (Asked t old.tx new.tx × OldLeaves t p patience c old.rx new.rx × (links' ≡ links))

abbrev pub ComesTo : TransferKey → List Pair → ℕ → Place → Links → Links → Now → Now → Tried → Type 0
ComesTo t p patience at links links' old new (tried.Moved key) = MovesTo t p patience at links links' old new key
ComesTo t p patience at links links' old new tried.Stayed = Asked t old.tx new.tx × (Refused t p patience links links' old.rx new.rx ⊎ Fails t p patience at links links' old.rx new.rx)
ComesTo t p patience at links links' old new tried.Starved = Asked t old.tx new.tx × (StarvesNew t p patience at links links' old.rx new.rx ⊎ StarvesOld t p patience links links' old.rx new.rx)
ComesTo t p patience at links links' old new (tried.Cut c) = CutsOld t p patience c links links' old new

-- what an attempt leaves alone
pub record KeepsOthers (old new : Now) : Type 0 where
  pub client_in : new.client_in ≡ old.client_in
  pub client_out : new.client_out ≡ old.client_out
  pub request : new.request ≡ old.request
  pub response : new.response ≡ old.response

-- with a drawn key; behind it the halves are of one link, which is open
pub record Tries (p : List Pair) (patience : ℕ) (at : Place) (given given' : Option (List ℕ)) (links links' : Links) (old new : Now) (t : Tried) : Type 0 where
  pub key : TransferKey
  pub drawn : Draws given given' key
  pub kept : KeepsOthers old new
  pub alike : new.tx.link ≡ new.rx.link
  pub open_still : 1 ≤ links'.live
  pub comes_to : ComesTo key p patience at links links' old new t
