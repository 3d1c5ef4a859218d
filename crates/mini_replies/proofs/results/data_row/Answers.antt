use Rattle.std.proofs.Common.{◌≡◌, ◌∙◌, List, Option, ℕ, subst, IfOk, arith}
use Rattle.pgw_messages.specs.Backend.{back_frame}
use Rattle.pgw_messages.specs.declared.backend.message.BackMsg.TheVariants as back
use Rattle.mini_replies.proofs.Rows.{row_of}
use Rattle.mini_replies.proofs.results.data_row.Goals as goal

pub returns : goal.returns
returns c =
    subst (λ (row : List (Option (List ℕ))). IfOk c.into_frame.result (λ f. f ≡ back_frame (back.Row row)))
    (row_of c.args.values.now c.loop-value.value-index _ (omega arith) (c.from_vec.ensures ∙ c.loop-value.invariant))
    c.into_frame.ensures
