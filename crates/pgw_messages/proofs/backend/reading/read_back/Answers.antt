use Rattle.std.proofs.Common.{ℕ, List, subst}
use Rattle.std.specs.Prelude.{IfOk}
use Rattle.pgw_messages.specs.Reading.{Gives, whole}
use Rattle.pgw_messages.specs.Spelling.{Spells}
use Rattle.pgw_messages.specs.Backend.{back_at, back_of, back_tag, back_body, IsBack}
use Rattle.pgw_messages.proofs.BackLaws.{back_only, back_spelled}
use Rattle.pgw_messages.proofs.backend.reading.read_back.Goals as goal

pub returns-clause-found : goal.returns-clause-found
returns-clause-found c =
    back_spelled c.args.f.now c.read_whole.result (subst (λ (b : List ℕ). IfOk c.read_whole.result (Spells back_tag back_body IsBack c.args.f.now.tag b)) c.as_slice.ensures c.read_whole.ensures.found)

pub returns-clause-only : goal.returns-clause-only
unfolding back_of
returns-clause-only c =
    back_only c.args.f.now c.read_whole.result (subst (λ (b : List ℕ). Gives c.read_whole.result (whole (back_at c.args.f.now.tag b))) c.as_slice.ensures c.read_whole.ensures.value)
