-- What the hub is told of a session.
use Rattle.std.specs.Prelude.{◌≡◌, ℕ, Bool, true, false, List, [], ◌∷◌, Option, Some, None, option_to_list, Result, Ok, Err}
use Rattle.std.specs.List.{list_any}
use Rattle.pgw_messages.specs.declared.pod_key.PodKey.{PodKey}
use Rattle.proxy_outside.specs.declared.identity.SessionNo.{SessionNo}
use Rattle.proxy_outside.specs.declared.place.Place.{Place}
use Rattle.proxy_links.specs.Told.{Grows}
use Rattle.proxy_hub.specs.Ports.{Port, Suits, Tells}
use Rattle.proxy_hub.specs.declared.command.HubCommand.TheVariants.{Assign, Report}
use Rattle.proxy_hub.specs.declared.fault.HubFault.{HubFault}
use Rattle.proxy_hub.specs.declared.reply.HubReply.{HubReply}
use Rattle.session_asks.specs.Asks.{Ask, ask, Alone}
use Rattle.session_asks.specs.Between.{Binds}
use Rattle.session_asks.specs.Greetings.{is_login_code}
use Rattle.session_admission.specs.Asking.{AsksOn}
use Rattle.session_greeting.specs.declared.login.Greeted.{Greeted}
use Rattle.session_greeting.specs.declared.login.Greeted.TheVariants as came
use Rattle.session_opening.specs.declared.booking.Guest.{Guest}

-- asks that fit this were made
pub record Asks (fits : List Ask → Type 0) (old new : Port) : Type 0 where
  pub asks : List Ask
  pub asked : AsksOn old new asks
  pub fitting : fits asks

-- the session's place is kept, or the port refused to ask for that
abbrev pub Assigns : SessionNo → Place → Port → Port → Result (Unit {0}) HubFault → Type 0
Assigns n place old new (Ok u) = (r : HubReply) × Suits (Assign n place) r × AsksOn old new (ask (Assign n place) (Some r) ∷ [])
Assigns n place old new (Err f) = AsksOn old new (ask (Assign n place) None ∷ []) × Tells f old.desk.most

-- a login is reported, at a moment that the clock gave
pub record Reports (g : Guest) (ok : Bool) (old new : Port) (given given' : Option (List ℕ)) : Type 0 where
  pub now : ℕ
  pub moment : Grows given given' (now ∷ [])
  pub told : Asks (Alone (Report g.peer g.tenant ok now)) old new

-- it succeeded, and the pod's key is bound to the session
pub record Accepts (g : Guest) (keys : List PodKey) (old new : Port) (given given' : Option (List ℕ)) : Type 0 where
  pub between : Port
  pub reports : Reports g true old between given given'
  pub binds : Asks (Binds g.session keys) between new

-- nothing is told
abbrev pub Silent : Port → Port → Option (List ℕ) → Option (List ℕ) → Type 0
Silent old new given given' = (new ≡ old) × (given' ≡ given)

-- of the refusals those of a login alone are told
abbrev pub Denies : Guest → Bool → Port → Port → Option (List ℕ) → Option (List ℕ) → Type 0
Denies g true old new given given' = Reports g false old new given given'
Denies g false old new given given' = Silent old new given given'

-- by what the greeting came to
abbrev pub Books : Guest → Greeted → Port → Port → Option (List ℕ) → Option (List ℕ) → Type 0
Books g (came.Ready key waits) old new given given' = Accepts g (option_to_list key) old new given given'
Books g (came.Refused fields) old new given given' = Denies g (list_any is_login_code fields) old new given given'
Books g came.Left old new given given' = Silent old new given given'
Books g (came.PodCut c) old new given given' = Silent old new given given'
Books g (came.ClientCut c) old new given given' = Silent old new given given'
Books g came.NoMemory old new given given' = Silent old new given given'
