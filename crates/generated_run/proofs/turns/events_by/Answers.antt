use Rattle.std.proofs.Common.{ℕ, ◌++◌, ◌∷◌, [], ◌≤◌, length, subst, sym, arith}
use Rattle.std.specs.Fmt.{decimal}
use Rattle.std.specs.List.{AllByRecursion}
use Rattle.std.proofs.lemmas.Fmt.{length-decimal-le}
use Rattle.std.proofs.lemmas.List.{length-append}
use Rattle.pgw_frames.specs.Frames.{IsGood}
use Rattle.generated_run.proofs.turns.events_by.Goals as goal

pub sends-requires-in_default-clause-good : goal.sends-requires-in_default-clause-good
sends-requires-in_default-clause-good c =
    let n : ℕ = c.args.number in
    let short : length (decimal n ++ 0 ∷ []) ≤ 16777216 = omega (arith, length-append (decimal n) (0 ∷ []), length-decimal-le 20 n (omega arith) (omega arith) (omega arith)) in
    subst (AllByRecursion IsGood) (sym c.in_ok-queries-in_default.ensures) (short, tt)
