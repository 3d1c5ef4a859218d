-- A greeting that is passed on (PostgreSQL manual, "Message Flow", Start-up).
use Rattle.std.specs.Prelude.{◌≡◌, ◌≢◌, ◌⊎◌, ℕ, ◌<◌, true, false, List, length, map, Some, option_to_list, Result, Ok, Err}
use Rattle.std.specs.List.{AllByRecursion}
use Rattle.pgw_frames.specs.Frames.{IsGood, frame_bytes, render}
use Rattle.pgw_frames.specs.declared.frame.Frame.{Frame}
use Rattle.pgw_messages.specs.Tags as tag
use Rattle.proxy_outside.specs.Reading.{Origin}
use Rattle.proxy_outside.specs.Writing.{Target}
use Rattle.proxy_outside.specs.declared.identity.ClientKey.{ClientKey}
use Rattle.session_model.specs.Heard.{with_key}
use Rattle.link_io.specs.Writing.{Wrote, WroteSome}
use Rattle.link_transfer.specs.Hearing.{Hears, Comes, Drops, Breaks}
use Rattle.transfer_stages.specs.declared.stage.Cut.{Cut}
use Rattle.transfer_stages.specs.declared.stage.Cut.TheVariants.{WriteFault, Unexpected}
use Rattle.session_greeting.specs.declared.greeting.Course.{Course}
use Rattle.session_greeting.specs.declared.greeting.Limits.{Limits}
use Rattle.session_greeting.specs.declared.greeting.Turn.{Turn}
use Rattle.session_greeting.specs.declared.greeting.Turn.TheVariants.{On, Over}
use Rattle.session_greeting.specs.declared.login.Greeted.{Greeted}
use Rattle.session_greeting.specs.declared.login.Greeted.TheVariants.{Ready, Refused, PodCut, ClientCut, NoMemory}
use Rattle.session_greeting.specs.declared.meaning.Meaning.{Meaning}
use Rattle.session_greeting.specs.declared.meaning.Meaning.TheVariants as means
use Rattle.session_greeting.specs.Meanings.{meaning_of, is_fit, goes_on, keys_in, asks_in}
use Rattle.session_greeting.specs.Logins.{LogsIn}

-- what is told of the four halves that a greeting goes between
pub record Halves : Type 0 where
  pub client_in : Origin
  pub client_out : Target
  pub tx : Target
  pub rx : Origin

abbrev pub halves : Origin → Target → Target → Origin → Halves
halves client_in client_out tx rx = record { client_in = client_in; client_out = client_out; tx = tx; rx = rx }

-- ---- one message

abbrev pub after_login : Course → Result ℕ Greeted → Turn
after_login c (Ok waits) = On (record c { client_waits = waits })
after_login c (Err g) = Over g

-- what follows a message that was passed on
abbrev pub Follows : ℕ → Meaning → Course → Origin → Origin → Target → Target → Turn → Type 0
Follows patience means.GoesOn c old new k l t = (t ≡ On c) × (new ≡ old) × (l ≡ k)
Follows patience means.Asks c old new k l t = (r : Result ℕ Greeted) × LogsIn c.client_waits patience old new k l r × (t ≡ after_login c r)
Follows patience (means.Key key) c old new k l t = (t ≡ On (record c { key = Some key })) × (new ≡ old) × (l ≡ k)
Follows patience means.Ready c old new k l t = (t ≡ Over (Ready c.key c.client_waits)) × (new ≡ old) × (l ≡ k)
Follows patience (means.Fault fields) c old new k l t = (t ≡ Over (Refused fields)) × (new ≡ old) × (l ≡ k)
Follows patience means.Strange c old new k l t = ⊥

-- it is over, and neither client nor pod was told
pub record Ends (g : Greeted) (old new : Origin) (k k' l l' : Target) (t : Turn) : Type 0 where
  pub is : t ≡ Over g
  pub unheard : new ≡ old
  pub unpassed : k' ≡ k
  pub unsent : l' ≡ l

-- the message has no place
pub record Misfits (f : Frame) (c : Course) (old new : Origin) (k k' l l' : Target) (t : Turn) : Type 0 where
  pub unfit : is_fit (meaning_of f) c.key ≡ false
  pub ends : Ends (PodCut (Unexpected f)) old new k k' l l' t

-- it couldn't be passed on whole
pub record Unpassed (key : ClientKey) (f : Frame) (c : Course) (old new : Origin) (k k' l l' : Target) (t : Turn) : Type 0 where
  pub fit : is_fit (meaning_of f) c.key ≡ true
  pub is : t ≡ Over (ClientCut WriteFault)
  pub some : WroteSome k k' (frame_bytes (with_key key f))
  pub unheard : new ≡ old
  pub unsent : l' ≡ l

-- it was passed on, with the client's key where it has one
pub record Passes (key : ClientKey) (patience : ℕ) (f : Frame) (c : Course) (old new : Origin) (k k' l l' : Target) (t : Turn) : Type 0 where
  pub fit : is_fit (meaning_of f) c.key ≡ true
  pub wrote : Wrote k k' (frame_bytes (with_key key f))
  pub follows : Follows patience (meaning_of f) c old new l l' t

-- a message is passed on where there is memory to read it and it has its place
abbrev pub Takes : ClientKey → ℕ → Frame → Course → Origin → Origin → Target → Target → Target → Target → Turn → Type 0
Takes key patience f c old new k k' l l' t =
    Ends NoMemory old new k k' l l' t ⊎ (Misfits f c old new k k' l l' t ⊎ (Unpassed key f c old new k k' l l' t ⊎ Passes key patience f c old new k k' l l' t))

-- the pod's link came to its end
pub record Broken (limits : Limits) (c : Course) (old new : Halves) (t : Turn) : Type 0 where
  pub cut : Cut
  pub breaks : Breaks cut c.pod_waits limits.patience old.rx new.rx
  pub ends : Ends (PodCut cut) old.client_in new.client_in old.client_out new.client_out old.tx new.tx t

-- there was no memory for the pod's message
pub record Lost (limits : Limits) (c : Course) (old new : Halves) (t : Turn) : Type 0 where
  pub tag : ℕ
  pub after : ℕ
  pub drops : Drops tag c.pod_waits after limits.patience old.rx new.rx
  pub ends : Ends NoMemory old.client_in new.client_in old.client_out new.client_out old.tx new.tx t

-- this message of the pod's came
pub record Came (key : ClientKey) (limits : Limits) (c : Course) (old new : Halves) (t : Turn) : Type 0 where
  pub message : Frame
  pub after : ℕ
  pub comes : Comes message c.pod_waits after limits.patience old.rx new.rx
  pub takes : Takes key limits.login_waits message (record c { pod_waits = after }) old.client_in new.client_in old.client_out new.client_out old.tx new.tx t

abbrev pub Turned : ClientKey → Limits → Course → Halves → Halves → Turn → Type 0
Turned key limits c old new t = Broken limits c old new t ⊎ (Lost limits c old new t ⊎ Came key limits c old new t)

-- ---- all of them

-- the pod's messages so far went to the client, and one of the client's to the pod for each that asks
pub record SoFar (key : ClientKey) (limits : Limits) (waited : ℕ) (old new : Halves) (c : Course) : Type 0 where
  pub passed : List Frame
  pub logins : List Frame
  pub good_passed : AllByRecursion IsGood passed
  pub good_logins : AllByRecursion IsGood logins
  pub got : Hears 0 c.pod_waits old.rx new.rx (render passed)
  pub given : Wrote old.client_out new.client_out (render (map (with_key key) passed))
  pub taken : Hears waited c.client_waits old.client_in new.client_in (render logins)
  pub sent : Wrote old.tx new.tx (render logins)
  pub on : AllByRecursion (λ f. goes_on (meaning_of f) ≡ true) passed
  pub keys : keys_in passed ≡ option_to_list c.key
  pub asks : asks_in passed ≡ length logins
  pub stays : AllByRecursion (λ g. g.tag ≢ tag.terminate) logins
  pub pod_patient : c.pod_waits < limits.patience
  pub client_patient : c.client_waits < limits.login_waits

-- messages behind which it goes on, and then what ends it
pub record Greets (key : ClientKey) (limits : Limits) (waited : ℕ) (old new : Halves) (g : Greeted) : Type 0 where
  pub between : Halves
  pub course : Course
  pub so_far : SoFar key limits waited old between course
  pub last : Turned key limits course between new (Over g)
