-- What the hub was told.
use Rattle.std.proofs.Common.{◌≡◌, [], ◌∷◌, Some, None, refl, sym, subst, arith, append-nil}
use Rattle.std.specs.Prelude.{Option, Result, Ok, Err, option_to_list}
use Rattle.pgw_messages.specs.declared.pod_key.PodKey.{PodKey}
use Rattle.proxy_outside.specs.declared.identity.SessionNo.{SessionNo}
use Rattle.proxy_hub.specs.Ports.{Port}
use Rattle.proxy_hub.specs.Ports as port
use Rattle.proxy_hub.specs.declared.command.HubCommand.{HubCommand}
use Rattle.proxy_hub.specs.declared.command.HubCommand.TheVariants.{Bind}
use Rattle.proxy_hub.specs.declared.fault.HubFault.{HubFault}
use Rattle.proxy_hub.specs.declared.reply.HubReply.{HubReply}
use Rattle.session_asks.specs.Asks.{ask, Alone}
use Rattle.session_asks.specs.Between.{Binds}
use Rattle.session_admission.specs.Asking.{AsksOn}
use Rattle.session_admission.proofs.Asked.{asked_one, asked_none}
use Rattle.session_opening.specs.Booking.{Asks}

-- a command was answered, or refused
told : (old new : Port) (c : HubCommand) (r : HubReply) → port.Asks old new c (Ok r) → Asks (Alone c) old new
told old new c r h = record {
  asks = ask c (Some r) ∷ [];
  asked = asked_one old new c r h;
  fitting = record { reply = Some r; fitting = h.3; alone = refl };
}

untold : (old new : Port) (c : HubCommand) (f : HubFault) → port.Asks old new c (Err f) → Asks (Alone c) old new
untold old new c f h = record {
  asks = ask c None ∷ [];
  asked = asked_none old new c f h;
  fitting = record { reply = None; fitting = tt; alone = refl };
}

pub told_or_not : (old new : Port) (c : HubCommand) (r : Result HubReply HubFault) → port.Asks old new c r → Asks (Alone c) old new
told_or_not old new c (Ok r) h = told old new c r h
told_or_not old new c (Err f) h = untold old new c f h

-- a key was bound
bound : (old new : Port) (n : SessionNo) (k : PodKey) → Asks (Alone (Bind n k)) old new → Asks (Binds n (k ∷ [])) old new
bound old new n k a = record {
  asks = a.asks;
  asked = a.asked;
  fitting = record { front = a.asks; back = []; whole = sym (append-nil a.asks); begins = a.fitting; ends = refl };
}

pub asked_nothing : (p : Port) → AsksOn p p []
asked_nothing p = record { desk = refl; listed = sym (append-nil p.asked); missing = omega arith }

pub bound_some : (old new : Port) (n : SessionNo) (k : PodKey) (o : Option PodKey) → o ≡ Some k → Asks (Alone (Bind n k)) old new → Asks (Binds n (option_to_list o)) old new
bound_some old new n k o is a = subst (λ (x : Option PodKey). Asks (Binds n (option_to_list x)) old new) (sym is) (bound old new n k a)
