-- What a port of a desk asked, and where it stands in the hub's history.
use Rattle.std.specs.Prelude.{◌≡◌, ◌==◌, ℕ, List, [], ◌∷◌, ◌++◌, length, None, map, Result, Ok, Err}
use Rattle.std.specs.List.{IsDistinct}
use Rattle.counted_desk.specs.declared.entry.Entry.{Entry}
use Rattle.counted_desk.specs.declared.answer.CallFault.{CallFault}
use Rattle.counted_desk.specs.declared.answer.CallFault.TheVariants as call_fault
use Rattle.counted_desk.specs.History.{entry, behind}
use Rattle.counted_desk.specs.Calls.{Made, Missed}
use Rattle.counted_desk.specs.Seats.{Sight}
use Rattle.proxy_outside.specs.declared.addr.Addr.{Addr}
use Rattle.proxy_outside.specs.declared.identity.SessionNo.{SessionNo}
use Rattle.proxy_outside.specs.declared.identity.TenantId.{TenantId}
use Rattle.proxy_hub.specs.declared.command.HubCommand.{HubCommand}
use Rattle.proxy_hub.specs.declared.command.HubCommand.TheVariants.{Admit}
use Rattle.proxy_hub.specs.declared.reply.HubReply.{HubReply}
use Rattle.proxy_hub.specs.declared.reply.HubReply.TheVariants.{Admitted}
use Rattle.proxy_hub.specs.declared.fault.HubFault.{HubFault}
use Rattle.proxy_hub.specs.declared.fault.HubFault.TheVariants.{NoMemory, JournalFull}
use Rattle.proxy_hub.specs.States.{State, opening}
use Rattle.proxy_hub.specs.Steps.{hub_rules, refusal_of, next_number}
use Rattle.proxy_hub.specs.Ports.{Port}

abbrev pub HubEntry : Type 0
HubEntry = Entry HubCommand HubReply

-- the seat through which a port asks, and how often it was refused
pub record AtDesk : Type 0 where
  pub seat : Sight HubCommand HubReply
  pub refusals : ℕ

abbrev pub at_desk : Sight HubCommand HubReply → ℕ → AtDesk
at_desk seat refusals = record { seat = seat; refusals = refusals }

abbrev pub fault_of : CallFault → HubFault
fault_of call_fault.NoMemory = NoMemory
fault_of (call_fault.JournalFull most) = JournalFull most

-- the commands of a seat's own calls, with their replies
abbrev pub asked_by : Sight HubCommand HubReply → List (HubCommand × HubReply)
asked_by seat = map (λ (e : HubEntry). (e.command, e.reply)) seat.own

abbrev pub port_of : AtDesk → Port
port_of p = record { desk = p.seat.desk; asked = asked_by p.seat; refusals = p.refusals }

-- where these entries lead the hub from its opening
abbrev pub state_behind : List HubEntry → State
state_behind = behind hub_rules opening

-- the command with its reply stands in the history, and the reply is the hub's behind the entries before it
pub record IsAnswered (history : List HubEntry) (asked : HubCommand × HubReply) : Type 0 where
  pub before : List HubEntry
  pub ticket : ℕ
  pub after : List HubEntry
  pub place : history ≡ before ++ entry ticket asked.0 asked.1 ∷ after
  pub reply : asked.1 ≡ hub_rules.reply (state_behind before) asked.0

-- each ask stands at its place, which is how many entries stand before it
abbrev pub AreAt : List HubEntry → List (HubCommand × HubReply) → List ℕ → Type 0
AreAt history [] [] = Unit {0}
AreAt history (a ∷ more) (k ∷ ks) = ((x : IsAnswered history a) × (length x.before ≡ k)) × AreAt history more ks
AreAt history [] (k ∷ ks) = ⊥
AreAt history (a ∷ more) [] = ⊥

-- each ask stands at a place of its own
pub record AreAnswered (history : List HubEntry) (asked : List (HubCommand × HubReply)) : Type 0 where
  pub places : List ℕ
  pub apart : IsDistinct (λ j k. j == k) places
  pub each : AreAt history asked places

-- What a seat sees of an ask. The command stands with its reply behind all that the seat had seen; or it stands nowhere, and the desk's journal
-- is full exactly where the fault says so.
abbrev pub Sees : Sight HubCommand HubReply → Sight HubCommand HubReply → HubCommand → Result HubReply HubFault → Type 0
Sees old new c (Ok r) = (place : ℕ) × Made hub_rules old.desk.most old new c (record { place = place; reply = r })
Sees old new c (Err f) = (e : CallFault) × (f ≡ fault_of e) × Missed hub_rules old.desk.most old new e

-- who was admitted had nothing against a session there, and has the number that was next
abbrev pub AdmitsTheUnrefused : List HubEntry → Type 0
AdmitsTheUnrefused history =
    (addr : Addr) (tenant : TenantId) (now : ℕ) (n : SessionNo) (a : IsAnswered history (Admit addr tenant now, Admitted n)) →
    (refusal_of (state_behind a.before) addr tenant now ≡ None) × (n ≡ next_number (state_behind a.before))
