-- Asks, one after another.
use Rattle.std.proofs.Common.{◌≡◌, ◌+◌, List, [], ◌∷◌, ◌++◌, Some, None, sym, ap, ◌∙◌, arith, append_assoc, append-nil}
use Rattle.std.specs.Prelude.{Ok, Err}
use Rattle.proxy_hub.specs.Ports.{Port, Asks}
use Rattle.proxy_hub.specs.declared.command.HubCommand.{HubCommand}
use Rattle.proxy_hub.specs.declared.fault.HubFault.{HubFault}
use Rattle.proxy_hub.specs.declared.reply.HubReply.{HubReply}
use Rattle.session_asks.specs.Asks.{Ask, ask, answered, refused}
use Rattle.session_asks.proofs.Counted.{answered_append}
use Rattle.session_admission.specs.Asking.{AsksOn}

pub asked_one : (old new : Port) (c : HubCommand) (r : HubReply) → Asks old new c (Ok r) → AsksOn old new (ask c (Some r) ∷ [])
asked_one old new c r h = record { desk = h.0; listed = h.1; missing = let e = h.2 in omega arith }

pub asked_none : (old new : Port) (c : HubCommand) (f : HubFault) → Asks old new c (Err f) → AsksOn old new (ask c None ∷ [])
asked_none old new c f h = record { desk = h.0; listed = h.1 ∙ sym (append-nil old.asked); missing = let e = h.2 in omega arith }

refused_append : (xs ys : List Ask) → refused (xs ++ ys) ≡ refused xs + refused ys
refused_append [] ys = omega arith
refused_append (x ∷ xs) ys = let more = refused_append xs ys in omega arith

pub asked_more : (one two three : Port) (xs ys : List Ask) → AsksOn one two xs → AsksOn two three ys → AsksOn one three (xs ++ ys)
asked_more one two three xs ys p q = record {
  desk = q.desk ∙ p.desk;
  listed = q.listed ∙ ap (λ (v : List (HubCommand × HubReply)). v ++ answered ys) p.listed ∙ append_assoc one.asked (answered xs) (answered ys) ∙ ap (λ (v : List (HubCommand × HubReply)). one.asked ++ v) (sym (answered_append xs ys));
  missing = let a = p.missing in let b = q.missing in let e = refused_append xs ys in omega arith;
}
