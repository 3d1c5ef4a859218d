use Rattle.std.proofs.Common.{length, ◌≤◌, sym, subst, arith}
use Rattle.std.specs.Prelude.{Result, Ok, Err, IfOk}
use Rattle.generated_run.proofs.Short.{events_short}
use Rattle.generated_run.proofs.turns.turn.Goals as goal

pub returns-clause-short : goal.returns-clause-short
returns-clause-short c =
    on_ok c.events_by.result (λ es is. subst (λ xs. length xs ≤ 64) (sym is) (events_short c.args.number _ _ _ (omega arith))) c.events_by.ensures.events
  where
    on_ok : {A E : Type 0} {P Q : A → Type 0} (r : Result A E) → ((a : A) → P a → Q a) → IfOk r P → IfOk r Q
    on_ok (Ok a) f h = f a h
    on_ok (Err e) f h = tt
