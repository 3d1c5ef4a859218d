-- What is told of a text that was taken one piece after another.
use Rattle.std.proofs.Common.{ℕ, List, ◌++◌, ap, ◌∙◌}
use Rattle.std.specs.Prelude.{option_map}
use Rattle.proxy_outside.specs.Reading.{Origin, Takes}
use Rattle.link_io.proofs.Parts.{push_push, left_left}

pub takes_then : (o m n : Origin) (a b : List ℕ) → Takes o m a → Takes m n b → Takes o n (a ++ b)
takes_then o m n a b p q = record {
  taken = q.taken ∙ ap (option_map (λ xs. xs ++ b)) p.taken ∙ push_push o.taken a b;
  left = p.left ∙ ap (option_map (λ xs. a ++ xs)) q.left ∙ left_left n.left a b;
}
