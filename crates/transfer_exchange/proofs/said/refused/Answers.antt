use Rattle.std.proofs.Common.{refl}
use Rattle.std.proofs.lemmas.Str.{is_utf8-from_IsUtf8}
use Rattle.transfer_exchange.proofs.Taking.{not_utf8}
use Rattle.transfer_exchange.proofs.said.refused.Goals as goal

pub returns-in_ok-of-in-Ok : goal.returns-in_ok-of-in-Ok
returns-in_ok-of-in-Ok c =
    let read = c.in-Ok.ensures.cases in
    rw (is_utf8-from_IsUtf8 c.args.reason.now read.1, ← read.0, ← c.in_ok-of-in-Ok.ensures) refl

pub returns-in-Err : goal.returns-in-Err
returns-in-Err c = rw (not_utf8 c.args.reason.now c.in-Err.ensures.cases.0) refl
