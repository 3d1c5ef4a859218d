-- Steps at the end of a list.
use Rattle.std.proofs.Common.{◌≡◌, ◌≤◌, ◌+◌, ◌-◌, ◌^◌, ℕ, min, List, [], ◌∷◌, ◌++◌, Bool, true, false, refl, sym, ap, ◌∙◌, subst, arith}
use Rattle.std.specs.Prelude.{Result, Ok, Err, IfOk, OnErr}
use Rattle.pgw_frames.specs.declared.memory.NoMemory.{NoMemory}
use Rattle.proxy_outside.specs.Reading.{Rose}
use Rattle.proxy_hub.specs.Kinds.{RepliesSuit}
use Rattle.proxy_hub.specs.Ports.{Port, Suits, Asks}
use Rattle.proxy_hub.specs.declared.fault.HubFault.TheVariants as fault
use Rattle.proxy_hub.specs.declared.command.HubCommand.{HubCommand}
use Rattle.proxy_hub.specs.declared.reply.HubReply.{HubReply}
use Rattle.proxy_hub.specs.Hubs.{StandsFor}
use Rattle.proxy_hub.specs.declared.hub.Hub.{Hub}
use Rattle.proxy_hub.specs.States.{State, opening}
use Rattle.proxy_hub.specs.Steps.{reply, next}
use Rattle.staged_hub.specs.Asks.{if_ask, asked_from, asked_by, no_desk, port_of, Asked}
use Rattle.staged_hub.specs.Steps.{state_from, state_behind, Steps}
use Rattle.staged_hub.specs.declared.step.Step.{Step}
use Rattle.staged_hub.specs.declared.port.StagedHub.{StagedHub}

abbrev pub step_of : HubCommand → Bool → Step
step_of c is_ask = record { command = c; is_ask = is_ask }

state_append : (s : State) (xs : List Step) (x : Step) → state_from s (xs ++ x ∷ []) ≡ next (state_from s xs) x.command
state_append s [] x = refl
state_append s (y ∷ ys) x = state_append (next s y.command) ys x

-- where a hub stood for what the steps lead to, and it was stepped once more
pub stands_longer : (h : Hub) (xs longer : List Step) (c : HubCommand) (is_ask : Bool) → longer ≡ xs ++ record { command = c; is_ask = is_ask } ∷ [] → StandsFor h (next (state_behind xs) c) → StandsFor h (state_behind longer)
stands_longer h xs longer c is_ask e st = subst (StandsFor h) (sym (ap state_behind e ∙ state_append opening xs (step_of c is_ask))) st

cons_append : (is_ask : Bool) (a : HubCommand × HubReply) (more last : List (HubCommand × HubReply)) → if_ask is_ask a (more ++ last) ≡ if_ask is_ask a more ++ last
cons_append true a more last = refl
cons_append false a more last = refl

asked_append : (s : State) (xs : List Step) (c : HubCommand) → asked_from s (xs ++ step_of c true ∷ []) ≡ asked_from s xs ++ (c, reply (state_from s xs) c) ∷ []
asked_append s [] c = refl
asked_append s (y ∷ ys) c =
    ap (if_ask y.is_ask (y.command, reply s y.command)) (asked_append (next s y.command) ys c)
    ∙ cons_append y.is_ask (y.command, reply s y.command) (asked_from (next s y.command) ys) ((c, reply (state_from (next s y.command) ys) c) ∷ [])

others_append : (s : State) (xs : List Step) (c : HubCommand) → asked_from s (xs ++ step_of c false ∷ []) ≡ asked_from s xs
others_append s [] c = refl
others_append s (y ∷ ys) c = ap (if_ask y.is_ask (y.command, reply s y.command)) (others_append (next s y.command) ys c)

-- an ask stands at the end of the asks, with its reply
pub asked_longer : (xs longer : List Step) (c : HubCommand) (r : HubReply) → longer ≡ xs ++ record { command = c; is_ask = true } ∷ [] → r ≡ reply (state_behind xs) c → asked_by longer ≡ asked_by xs ++ (c, r) ∷ []
asked_longer xs longer c r e is = ap asked_by e ∙ asked_append opening xs c ∙ ap (λ r. asked_by xs ++ (c, r) ∷ []) (sym is)

-- the step of another changes no asks
pub asked_same : (xs longer : List Step) (c : HubCommand) → longer ≡ xs ++ record { command = c; is_ask = false } ∷ [] → asked_by longer ≡ asked_by xs
asked_same xs longer c e = ap asked_by e ∙ others_append opening xs c

-- ---- a port

abbrev port : List (HubCommand × HubReply) → ℕ → Port
port asked refusals = record { desk = no_desk; asked = asked; refusals = refusals }

same_port : (old new : StagedHub) → asked_by new.hub ≡ asked_by old.hub → new.refusals ≡ old.refusals → port_of new ≡ port_of old
same_port old new a r = ap (λ xs. port xs new.refusals) a ∙ ap (port (asked_by old.hub)) r

-- another command was due, and stepped
pub goes_on : (start before due new : StagedHub) (c : HubCommand) (r : HubReply) → port_of before ≡ port_of start → due ≡ record before { staged = due.staged } → Steps due.hub new.hub c false r → new.refusals ≡ due.refusals → port_of new ≡ port_of start
goes_on start before due new c r sofar is steps refusals = same_port due new (asked_same due.hub new.hub c steps.0) refusals ∙ ap port_of is ∙ sofar

-- behind the commands of others the command was stepped, or nothing was
pub answered : (old staged new : StagedHub) (c : HubCommand) (res : Result HubReply NoMemory) → port_of staged ≡ port_of old → new.refusals ≡ staged.refusals → IfOk res (Steps staged.hub new.hub c true) → OnErr res (new.hub ≡ staged.hub) → Asked old new c res
answered old staged new c (Ok r) same refusals ok err = record {
  asked = asked_longer staged.hub new.hub c r ok.0 ok.1 ∙ ap (λ (p : Port). p.asked ++ (c, r) ∷ []) same;
  refusals = refusals ∙ ap (λ (p : Port). p.refusals) same;
  state = state_behind staged.hub;
  answer = ok.1;
}
answered old staged new c (Err e) same refusals ok err = same_port staged new (ap asked_by err) refusals ∙ same

-- what the port says of an ask
pub asks_ok : (old new : StagedHub) (c : HubCommand) (r : HubReply) → RepliesSuit → Asked old new c (Ok r) → Asks (port_of old) (port_of new) c (Ok r)
asks_ok old new c r suits a = (refl, a.asked, a.refusals, subst (Suits c) (sym a.answer) (suits a.state c))

rose : (b m n : ℕ) → m ≡ b → m ≤ 2 ^ 64 - 1 → n ≡ min (m + 1) (2 ^ 64 - 1) → Rose b n
rose b m n same fits is = omega arith

pub asks_err : (old before new : StagedHub) (c : HubCommand) → port_of before ≡ port_of old → before.refusals ≤ 2 ^ 64 - 1 → new.hub ≡ before.hub → new.refusals ≡ min (before.refusals + 1) (2 ^ 64 - 1) → Asks (port_of old) (port_of new) c (Err fault.NoMemory)
asks_err old before new c same fits hub is =
    (refl, ap asked_by hub ∙ ap (λ (p : Port). p.asked) same, rose old.refusals before.refusals new.refusals (ap (λ (p : Port). p.refusals) same) fits is, tt)
