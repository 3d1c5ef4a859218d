use Rattle.std.proofs.Common.{refl}
use Rattle.server_console.proofs.words.asked_by.Goals as goal

pub returns-in-None-default : goal.returns-in-None-default
returns-in-None-default c = rw c.in-None-default.is-0 tt

pub returns-in_ok-served-in-Some-None : goal.returns-in_ok-served-in-Some-None
returns-in_ok-served-in-Some-None c = rw (c.in-Some-None.is-0, c.in-Some-None.is-1, c.in_ok-served-in-Some-None.ensures) (refl, refl)
