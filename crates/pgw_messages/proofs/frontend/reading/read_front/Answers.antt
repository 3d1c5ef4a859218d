use Rattle.std.proofs.Common.{ℕ, List, subst}
use Rattle.std.specs.Prelude.{IfOk}
use Rattle.pgw_messages.specs.Reading.{Gives, whole}
use Rattle.pgw_messages.specs.Spelling.{Spells}
use Rattle.pgw_messages.specs.Frontend.{front_at, front_of, front_tag, front_body, IsFront}
use Rattle.pgw_messages.proofs.FrontLaws.{front_only, front_spelled}
use Rattle.pgw_messages.proofs.frontend.reading.read_front.Goals as goal

pub returns-clause-found : goal.returns-clause-found
returns-clause-found c =
    front_spelled c.args.f.now c.read_whole.result (subst (λ (b : List ℕ). IfOk c.read_whole.result (Spells front_tag front_body IsFront c.args.f.now.tag b)) c.as_slice.ensures c.read_whole.ensures.found)

pub returns-clause-only : goal.returns-clause-only
unfolding front_of
returns-clause-only c =
    front_only c.args.f.now c.read_whole.result (subst (λ (b : List ℕ). Gives c.read_whole.result (whole (front_at c.args.f.now.tag b))) c.as_slice.ensures c.read_whole.ensures.value)
