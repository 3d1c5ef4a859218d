use Rattle.std.proofs.Common.{inr, refl, ◌≡◌}
use Rattle.pod_conn.proofs.login.let_in.Goals as goal

pub returns-in-None : goal.returns-in-None
returns-in-None g c = λ q. rw (← c.value-user.ensures, ← c.in-None.ensures) (inr (refl, λ now. c.log_in.ensures q now))
