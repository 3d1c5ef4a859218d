-- What a port tells of itself, and what one ask of it may come to.
use Rattle.std.specs.Prelude.{◌≡◌, ◌≤◌, ℕ, List, [], ◌∷◌, ◌++◌, ⊤, Result, Ok, Err}
use Rattle.counted_desk.specs.Seats.{DeskId}
use Rattle.proxy_outside.specs.Reading.{Rose}
use Rattle.proxy_hub.specs.declared.command.HubCommand.{HubCommand}
use Rattle.proxy_hub.specs.declared.command.HubCommand.TheVariants.{SetLists, Update, Admit, GiveKey, Pick, Assign, Bind, Report, Target, Plan, Find, Release}
use Rattle.proxy_hub.specs.declared.reply.HubReply.{HubReply}
use Rattle.proxy_hub.specs.declared.reply.HubReply.TheVariants.{Done, Stale, Admitted, No, Key, Picked, MoveTo, Stay, Moves, Found, NoKey, NoSession}
use Rattle.proxy_hub.specs.declared.reply.Refusal.{Refusal}
use Rattle.proxy_hub.specs.declared.reply.Refusal.TheVariants.{Denied, NotAllowed, Throttled, NoTenant, NoPod, NoNumbers}
use Rattle.proxy_hub.specs.declared.fault.HubFault.{HubFault}
use Rattle.proxy_hub.specs.declared.fault.HubFault.TheVariants.{NoMemory, JournalFull}

-- the desk that is asked, with how many commands it takes at most; the commands that were asked here with their replies; and how many asks were refused
pub record Port : Type 0 where
  pub desk : DeskId
  pub asked : List (HubCommand × HubReply)
  pub refusals : ℕ

-- ---- the replies that a command may have

abbrev pub IsShortage : Refusal → Type 0
IsShortage NoTenant = ⊤
IsShortage NoPod = ⊤
IsShortage (Denied place) = ⊥
IsShortage NotAllowed = ⊥
IsShortage (Throttled moment) = ⊥
IsShortage NoNumbers = ⊥

abbrev pub IsDone : HubReply → Type 0
IsDone Done = ⊤
IsDone _ = ⊥

abbrev pub IsDoneOrNoSession : HubReply → Type 0
IsDoneOrNoSession Done = ⊤
IsDoneOrNoSession NoSession = ⊤
IsDoneOrNoSession _ = ⊥

abbrev pub IsApplied : HubReply → Type 0
IsApplied Done = ⊤
IsApplied (Stale version) = ⊤
IsApplied _ = ⊥

abbrev pub IsAdmission : HubReply → Type 0
IsAdmission (Admitted n) = ⊤
IsAdmission (No why) = ⊤
IsAdmission _ = ⊥

abbrev pub IsKey : HubReply → Type 0
IsKey (Key key) = ⊤
IsKey NoSession = ⊤
IsKey _ = ⊥

abbrev pub IsPick : HubReply → Type 0
IsPick (Picked place) = ⊤
IsPick (No why) = IsShortage why
IsPick _ = ⊥

abbrev pub IsTarget : HubReply → Type 0
IsTarget (MoveTo place) = ⊤
IsTarget Stay = ⊤
IsTarget NoSession = ⊤
IsTarget _ = ⊥

abbrev pub IsPlan : HubReply → Type 0
IsPlan (Moves moves) = ⊤
IsPlan _ = ⊥

abbrev pub IsFind : HubReply → Type 0
IsFind (Found place key) = ⊤
IsFind NoKey = ⊤
IsFind _ = ⊥

abbrev pub Suits : HubCommand → HubReply → Type 0
Suits (SetLists lists) r = IsDone r
Suits (Update row) r = IsApplied r
Suits (Admit addr tenant now) r = IsAdmission r
Suits (GiveKey n addr word) r = IsKey r
Suits (Pick tenant first second) r = IsPick r
Suits (Assign n place) r = IsDoneOrNoSession r
Suits (Bind n key) r = IsDoneOrNoSession r
Suits (Report addr tenant ok now) r = IsDone r
Suits (Target n) r = IsTarget r
Suits (Plan tenant) r = IsPlan r
Suits (Find key addr) r = IsFind r
Suits (Release n) r = IsDoneOrNoSession r

-- ---- one ask

-- a full journal is told with its limit
abbrev pub Tells : HubFault → ℕ → Type 0
Tells NoMemory limit = ⊤
Tells (JournalFull n) limit = n ≡ limit

-- by the answer: the command stands at the list's end with its reply, or it was refused and stands nowhere
abbrev pub Asks : Port → Port → HubCommand → Result HubReply HubFault → Type 0
Asks old new c (Ok r) = (new.desk ≡ old.desk) × (new.asked ≡ old.asked ++ (c, r) ∷ []) × (new.refusals ≡ old.refusals) × Suits c r
Asks old new c (Err f) = (new.desk ≡ old.desk) × (new.asked ≡ old.asked) × Rose old.refusals new.refusals × Tells f old.desk.most
