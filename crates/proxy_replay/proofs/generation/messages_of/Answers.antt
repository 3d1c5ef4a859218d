use Rattle.std.proofs.Common.{◌≡◌, sym, ◌∙◌, arith}
use Rattle.std.proofs.lemmas.Fmt.{decimal_injective}
use Rattle.proxy_replay.proofs.generation.messages_of.Goals as goal
use Rattle.proxy_replay.proofs.generation.messages_of.Goals.{else-n-ge1-via-then-n-ge1+else-n-le100000, else-n-ge1-via-else-n-ge1}

pub returns-else-n-ge1 : goal.returns-else-n-ge1
returns-else-n-ge1 c n some few e =
    let same : c.in_ok-n.n ≡ n = decimal_injective c.in_ok-n.n n (omega arith) (omega arith) (sym c.in_ok-n.ensures ∙ e) in
    elim c.else-n-ge1.branch [
      | else-n-ge1-via-then-n-ge1+else-n-le100000 w ↦ omega (arith, w.if-n-le100000)
      | else-n-ge1-via-else-n-ge1 w ↦ omega (arith, w.if-n-ge1)
    ]
