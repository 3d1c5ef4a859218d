use Rattle.std.proofs.Common.{◌≡◌, List, Option, ℕ, subst, IfOk, Some, Bor, sym}
use Rattle.std.proofs.lemmas.Simd.{map-map}
use Rattle.pgw_messages.specs.Backend.{back_frame}
use Rattle.pgw_messages.specs.declared.backend.message.BackMsg.TheVariants as back
use Rattle.session_model.proofs.result_set.row.Goals as goal

pub returns : goal.returns
returns c =
    subst (λ (row : List (Option (List ℕ))). IfOk c.row_frame.result (λ f. f ≡ back_frame (back.Row row)))
    (sym (map-map Some (λ (v : Bor (List ℕ)). v.now) c.args.values.now))
    c.row_frame.ensures
