-- What is asked before the first round and at the end, and which pods are dialed for it.
use Rattle.std.specs.Prelude.{◌≡◌, ◌⊎◌, ℕ, ◌≤◌, ⊤, Bool, true, false, ◌&&◌, List, [], ◌∷◌, ◌++◌, length, Option, Some, None}
use Rattle.pgw_frames.specs.Frames.{frames}
use Rattle.cancel_keys.specs.Given.{key_of}
use Rattle.proxy_outside.specs.declared.addr.Addr.{Addr}
use Rattle.proxy_outside.specs.declared.identity.ClientKey.{ClientKey}
use Rattle.proxy_outside.specs.declared.identity.PodNo.{PodNo}
use Rattle.proxy_outside.specs.declared.identity.SessionNo.{SessionNo}
use Rattle.proxy_outside.specs.declared.identity.TenantId.{TenantId}
use Rattle.proxy_links.specs.declared.dialer.Dial.{Dial}
use Rattle.proxy_hub.specs.declared.command.HubCommand.TheVariants.{Admit, GiveKey, Pick, Assign, Report, Release}
use Rattle.proxy_hub.specs.declared.reply.HubReply.{HubReply}
use Rattle.proxy_hub.specs.declared.reply.HubReply.TheVariants.{Admitted, No, Key, Picked, NoSession}
use Rattle.session_model.specs.Heard.{has_ready}
use Rattle.session_trace.specs.Trace.{Opening, Round}
use Rattle.session_asks.specs.Greetings.{keys_of, refuses_login}
use Rattle.session_asks.specs.Asks.{Ask, ask, Nothing, Alone, InTurn, Fitting}
use Rattle.session_asks.specs.Between.{Binds, AsksInRounds}

-- whose session it is, and what was told of it at the end
pub record Client : Type 0 where
  pub peer : Addr
  pub tenant : TenantId
  pub session : Option SessionNo
  pub key : Option ClientKey
  pub auth_refused : Bool  -- the call ended by the pod's ErrorResponse

-- ---- which pod

abbrev pub first_of : List PodNo → Option PodNo
first_of [] = None
first_of (p ∷ ps) = Some p

abbrev pub second_of : List PodNo → Option PodNo
second_of [] = None
second_of (p ∷ ps) = first_of ps

-- the hub picked none, or wasn't asked
abbrev pub PicksNone : Option HubReply → Type 0
PicksNone None = ⊤
PicksNone (Some (No why)) = ⊤
PicksNone (Some _) = ⊥

-- a last Pick, which led to no dial
pub record LastPick (t : TenantId) (failed : List PodNo) (as_ : List Ask) : Type 0 where
  pub reply : Option HubReply
  pub none : PicksNone reply
  pub alone : as_ ≡ ask (Pick t (first_of failed) (second_of failed)) reply ∷ []

-- the Pick of a pod that was dialed
pub record OnePick (t : TenantId) (failed : List PodNo) (d : Dial) (more as_ : List Ask) : Type 0 where
  pub asks : as_ ≡ ask (Pick t (first_of failed) (second_of failed)) (Some (Picked d.place)) ∷ more

-- where a link came nothing more is dialed for it
abbrev pub IsLast : Bool → List Dial → List Ask → Type 0
IsLast true ds more = (ds ≡ []) × Nothing more
IsLast false ds more = ⊤

-- a Pick for each dial, without the pods whose dials failed
abbrev pub Picks : TenantId → List PodNo → List Dial → List Ask → Type 0
Picks t failed [] as_ = Nothing as_ ⊎ LastPick t failed as_
Picks t failed (d ∷ ds) as_ = (more : List Ask) × OnePick t failed d more as_ × IsLast d.came ds more × Picks t (failed ++ d.place.pod ∷ []) ds more

pub record PicksPods (t : TenantId) (dials : List Dial) (as_ : List Ask) : Type 0 where
  pub picks : Picks t [] dials as_
  pub few : length dials ≤ 3

-- ---- the login

abbrev pub Reports : Client → Bool → List Ask → Type 0
Reports c ok as_ = (now : ℕ) × Alone (Report c.peer c.tenant ok now) as_

-- behind the greeting of a session that was let in
abbrev pub LetsIn : Client → SessionNo → Opening → List Ask → Type 0
LetsIn c n o as_ = InTurn (Reports c true) (Binds n (keys_of o)) as_

-- where no round follows: a refused login is reported, and a session that was let in may still want memory
abbrev pub EndsEarly : Client → Bool → SessionNo → Opening → List Ask → Type 0
EndsEarly c true n o as_ = Reports c false as_
EndsEarly c false n o as_ = Nothing as_ ⊎ ((has_ready (frames o.got) ≡ true) × LetsIn c n o as_)

-- behind the first opening
abbrev pub AfterOpening : Client → SessionNo → Opening → List Round → List Ask → Type 0
AfterOpening c n o (r ∷ rs) as_ = LetsIn c n o as_
AfterOpening c n o [] as_ = EndsEarly c (c.auth_refused && refuses_login o) n o as_

-- a link on which nothing was sent or got
pub record IsUnused (o : Opening) : Type 0 where
  pub packet : o.packet ≡ []
  pub asked : o.asked ≡ []
  pub got : o.got ≡ []

-- where the place was kept the opening and the rounds follow
abbrev pub AfterAssign : Client → SessionNo → Opening → List Round → Option HubReply → List Ask → Type 0
AfterAssign c n o rs (Some r) as_ = InTurn (AfterOpening c n o rs) (AsksInRounds n rs) as_
AfterAssign c n o rs None as_ = (rs ≡ []) × IsUnused o × Nothing as_

-- the place of the link that came is told to the hub
pub record Assigns (c : Client) (n : SessionNo) (o : Opening) (rs : List Round) (as_ : List Ask) : Type 0 where
  pub reply : Option HubReply
  pub fitting : Fitting (Assign n o.place) reply
  pub more : List Ask
  pub asks : as_ ≡ ask (Assign n o.place) reply ∷ more
  pub behind : AfterAssign c n o rs reply more

-- behind the picks
abbrev pub AfterPicks : Client → SessionNo → Option Opening → List Round → List Ask → Type 0
AfterPicks c n None rs as_ = (rs ≡ []) × Nothing as_
AfterPicks c n (Some o) rs as_ = Assigns c n o rs as_

-- ---- a call

-- no link was dialed
pub record Undialed (dials : List Dial) (opened : Option Opening) (rs : List Round) : Type 0 where
  pub none : dials ≡ []
  pub unopened : opened ≡ None
  pub no_round : rs ≡ []

-- by the answer to GiveKey: the hub's key, or the one that it would have given
abbrev pub AfterKey : Client → SessionNo → ℕ → List Dial → Option Opening → List Round → Option HubReply → List Ask → Type 0
AfterKey c n word dials opened rs (Some (Key key)) as_ = (c.key ≡ Some key) × InTurn (PicksPods c.tenant dials) (AfterPicks c n opened rs) as_
AfterKey c n word dials opened rs (Some NoSession) as_ = (c.key ≡ Some (key_of n word)) × InTurn (PicksPods c.tenant dials) (AfterPicks c n opened rs) as_
AfterKey c n word dials opened rs (Some _) as_ = ⊥
AfterKey c n word dials opened rs None as_ = (c.key ≡ None) × Undialed dials opened rs × Nothing as_

-- the client's key is asked for, with a drawn word
pub record WantsKey (c : Client) (n : SessionNo) (dials : List Dial) (opened : Option Opening) (rs : List Round) (as_ : List Ask) : Type 0 where
  pub word : ℕ
  pub reply : Option HubReply
  pub more : List Ask
  pub asks : as_ ≡ ask (GiveKey n c.peer word) reply ∷ more
  pub behind : AfterKey c n word dials opened rs reply more

-- only who was admitted is served, and released at the end
abbrev pub AfterAdmit : Client → List Dial → Option Opening → List Round → Option HubReply → List Ask → Type 0
AfterAdmit c dials opened rs (Some (Admitted n)) as_ = (c.session ≡ Some n) × InTurn (WantsKey c n dials opened rs) (Alone (Release n)) as_
AfterAdmit c dials opened rs (Some _) as_ = (c.session ≡ None) × (c.key ≡ None) × Undialed dials opened rs × Nothing as_
AfterAdmit c dials opened rs None as_ = (c.session ≡ None) × (c.key ≡ None) × Undialed dials opened rs × Nothing as_

-- whoever has a route asks to be admitted
pub record AsksHub (c : Client) (dials : List Dial) (opened : Option Opening) (rs : List Round) (as_ : List Ask) : Type 0 where
  pub now : ℕ
  pub reply : Option HubReply
  pub fitting : Fitting (Admit c.peer c.tenant now) reply
  pub more : List Ask
  pub asks : as_ ≡ ask (Admit c.peer c.tenant now) reply ∷ more
  pub behind : AfterAdmit c dials opened rs reply more
