use Rattle.std.proofs.Common.{refl}
use Rattle.server_console.proofs.words.counted.Goals as goal

pub returns-in_ok-served-in-Some : goal.returns-in_ok-served-in-Some
returns-in_ok-served-in-Some c = rw c.in_ok-served-in-Some.ensures (refl, c.in-Some.n, refl, rw c.in-Some.is at c.count_of.ensures)

pub returns-in-None : goal.returns-in-None
returns-in-None c = rw c.in-None.is at c.count_of.ensures
