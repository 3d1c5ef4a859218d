-- What holds in each mode, and at each stage of an exchange.
use Rattle.std.proofs.Common.{◌≡◌, ℕ, ◌≤◌, Bool, List, [], ◌∷◌, ◌++◌, length, Option, Some, None, ◌⊎◌}
use Rattle.pgw_frames.specs.declared.frame.Frame.{Frame}
use Rattle.proxy_outside.specs.Rules.{Rules}
use Rattle.session_model.specs.Kind.{Kind}
use Rattle.session_model.specs.Texts.{transfer_query, transfer_reply, transfer_row, transfer_tag, ready, restore_query, restore_reply, restore_row, restore_tag}
use Rattle.pgw_messages.specs.declared.params.Pair.{Pair}
use Rattle.session_model.specs.declared.transfer.Dump.TheVariants.{Blob}
use Rattle.session_model.specs.declared.transfer.TransferKey.{TransferKey}
use Rattle.transfer_stages.specs.declared.stage.Said.{Said}
use Rattle.transfer_stages.specs.declared.stage.Said.TheVariants.{Given, Refuses}
use Rattle.transfer_stages.specs.declared.stage.Stage.{Stage}
use Rattle.transfer_stages.specs.declared.stage.Stage.TheVariants as at
use Rattle.forwarder_world.specs.Link.{Link}
use Rattle.forwarder_world.specs.World.{World, Mode, Running, Stop, Exchanging, Closed, unwritten_by}
use Rattle.proxy_outside.specs.declared.identity.ClientKey.{ClientKey}
use Rattle.forwarder_world.proofs.Sums.{Calm}
use Rattle.forwarder_world.proofs.Links.{Sends, Gets}
use Rattle.forwarder_world.proofs.Keeps.{Parts, view, Keeps}

-- what of a new link matters
pub record Face (S : Type 0) : Type 0 where
  pub sent : List ℕ
  pub heard : ℕ
  pub got : List ℕ
  pub cut : Bool
  pub out : ℕ
  pub session : Option S

abbrev pub face : {S : Type 0} → Link S → Face S
face l = record { sent = l.sent; heard = l.taken; got = l.got; cut = l.cut; out = l.out; session = l.session }

-- ---- the old link

-- nothing of a transfer is on its way
abbrev pub NoOwn : {S : Type 0} → Parts S → Type 0
NoOwn q = (q.own_sent ≡ []) × (q.own_got ≡ [])

-- the transfer Query is on its way
abbrev pub Untaken : {S : Type 0} → TransferKey → Parts S → Type 0
Untaken t q = (q.own_sent ≡ transfer_query t ∷ []) × (q.own_got ≡ [])

-- the pod took it, and of its reply this is still to be read
abbrev pub Answered : {S : Type 0} → Parts S → List Frame → Type 0
Answered q left = (q.own_sent ≡ []) × (q.ahead ≡ []) × (q.own_got ≡ left)

-- the session's state can be had, and is this one
abbrev pub HasBlob : {S C R : Type 0} → Kind S C R → S → List ℕ → Type 0
HasBlob k s b = (k.dumps s ≡ Blob b) × (length b ≤ 1048576)

abbrev pub Says : {S C R : Type 0} → Kind S C R → S → Said → Type 0
Says k s (Given b token) = HasBlob k s b
Says k s (Refuses reason) = Unit {0}

abbrev pub old_reply : {S C R : Type 0} → Kind S C R → TransferKey → S → List Frame
old_reply k t s = transfer_reply t (k.dumps s) (k.token s) (k.status s)

abbrev pub OldAt : {S C R : Type 0} → Kind S C R → TransferKey → Parts S → Stage → Type 0
OldAt k t q at.AskOld = NoOwn q
OldAt k t q at.OldColumns = Untaken t q ⊎ Answered q (old_reply k t q.session)
OldAt k t q at.OldRow = Answered q (transfer_row t (k.dumps q.session) (k.token q.session) ∷ transfer_tag ∷ ready (k.status q.session) ∷ [])
OldAt k t q (at.OldTag s) = Answered q (transfer_tag ∷ ready (k.status q.session) ∷ []) × Says k q.session s
OldAt k t q (at.OldReady s) = Answered q (ready (k.status q.session) ∷ []) × Says k q.session s
OldAt k t q (at.Dial b token) = Answered q [] × HasBlob k q.session b
OldAt k t q (at.Packet b token) = Answered q [] × HasBlob k q.session b
OldAt k t q (at.NewAuth b) = Answered q [] × HasBlob k q.session b
OldAt k t q (at.NewStatus b n key) = Answered q [] × HasBlob k q.session b
OldAt k t q (at.Restore b key) = Answered q [] × HasBlob k q.session b
OldAt k t q (at.NewColumns key) = Answered q [] × Unit {0}
OldAt k t q (at.NewRow key) = Answered q [] × Unit {0}
OldAt k t q (at.NewTag key) = Answered q [] × Unit {0}
OldAt k t q (at.NewReady key) = Answered q [] × Unit {0}
OldAt k t q (at.Ended o) = ⊥

-- ---- the new link

-- the pod took no startup packet yet
pub record Unopened {S : Type 0} (v : Face S) : Type 0 where
  pub sent_is : v.sent ≡ []
  pub heard_is : v.heard ≡ 0
  pub got_is : v.got ≡ []
  pub out_is : v.out ≡ 0
  pub session_is : v.session ≡ None

-- it greets; gone was read of the greeting, and owed is still to be read
pub record Greeting {S C R : Type 0} (k : Kind S C R) (p : List Pair) (v : Face S) (gone owed : List Frame) : Type 0 where
  pub sent_is : v.sent ≡ []
  pub heard_is : v.heard ≡ 0
  pub whole : gone ++ owed ≡ (k.begins p).1
  pub gets : Gets v.got v.cut v.out gone owed
  pub session_is : v.session ≡ Some (k.begins p).0

abbrev pub AtStartup : {S C R : Type 0} → Kind S C R → List Pair → Face S → Type 0
AtStartup k p v = Unopened v ⊎ ((gone : List Frame) × (owed : List Frame) × Greeting k p v gone owed)

-- the restore Query is on its way
pub record Waiting {S C R : Type 0} (k : Kind S C R) (p : List Pair) (v : Face S) (b : List ℕ) (gone : List Frame) : Type 0 where
  pub sends : Sends v.sent v.heard [] (restore_query b ∷ [])
  pub gets : Gets v.got v.cut v.out gone []
  pub session_is : v.session ≡ Some (k.begins p).0

-- the pod took it, and of its reply this is still to be read
pub record Restored {S : Type 0} (v : Face S) (s : S) (b : List ℕ) (gone left : List Frame) : Type 0 where
  pub sends : Sends v.sent v.heard (restore_query b ∷ []) []
  pub gets : Gets v.got v.cut v.out gone left
  pub session_is : v.session ≡ Some s

abbrev pub RestoredSome : {S : Type 0} → Face S → S → List Frame → Type 0
RestoredSome v s left = (b : List ℕ) × (gone : List Frame) × Restored v s b gone left

abbrev pub NewAt : {S C R : Type 0} → Kind S C R → List Pair → S → Stage → Face S → Type 0
NewAt k p s at.AskOld v = ⊥
NewAt k p s at.OldColumns v = ⊥
NewAt k p s at.OldRow v = ⊥
NewAt k p s (at.OldTag x) v = ⊥
NewAt k p s (at.OldReady x) v = ⊥
NewAt k p s (at.Dial b token) v = ⊥
NewAt k p s (at.Packet b token) v = AtStartup k p v
NewAt k p s (at.NewAuth b) v = AtStartup k p v
NewAt k p s (at.NewStatus b n key) v = AtStartup k p v
NewAt k p s (at.Restore b key) v = (gone : List Frame) × Greeting k p v gone []
NewAt k p s (at.NewColumns key) v = ((b : List ℕ) × (gone : List Frame) × HasBlob k s b × Waiting k p v b gone) ⊎ RestoredSome v s restore_reply
NewAt k p s (at.NewRow key) v = RestoredSome v s (restore_row ∷ restore_tag ∷ ready 73 ∷ [])
NewAt k p s (at.NewTag key) v = RestoredSome v s (restore_tag ∷ ready 73 ∷ [])
NewAt k p s (at.NewReady key) v = RestoredSome v s (ready 73 ∷ [])
NewAt k p s (at.Ended o) v = ⊥

abbrev pub OnNew : {S : Type 0} → Option (Link S) → (Face S → Type 0) → Type 0
OnNew {S} fresh P = (l : Link S) → fresh ≡ Some l → P (face l)

-- ---- both, in each mode

pub record AtStage {S C R : Type 0} (k : Kind S C R) (p : List Pair) (t : TransferKey) (q : Parts S) (fresh : Option (Link S)) (x : Stage) : Type 0 where
  pub calm : Calm k q.session q.ahead q.owed
  pub old : OldAt k t q x
  pub new : OnNew fresh (NewAt k p q.session x)

abbrev pub Plain : {S : Type 0} → Parts S → Option (Link S) → Type 0
Plain q fresh = NoOwn q × OnNew fresh (λ v. ⊥)

abbrev pub InMode : {S C R : Type 0} → Kind S C R → List Pair → Parts S → Option (Link S) → Mode → Type 0
InMode k p q fresh Running = Plain q fresh
InMode k p q fresh (Stop parked held) = Plain q fresh
InMode k p q fresh (Exchanging t x) = AtStage k p t q fresh x
InMode k p q fresh (Closed c) = unwritten_by c ≡ 0

pub record Holds {S T C R : Type 0} (k : Kind S C R) (rules : Rules T C R) (kept : S → Type 0) (key : ClientKey) (p : List Pair) (w : World S T C) : Type 0 where
  pub parts : Parts S
  pub keeps : Keeps k rules kept key p (view w) parts
  pub within : InMode k p parts w.fresh w.mode
