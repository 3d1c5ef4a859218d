use Rattle.std.proofs.Common.{true, ap, ◌∙◌}
use Rattle.mini_kind.specs.Mini.{Mini}
use Rattle.mini_parts.specs.Parts.{mini_of}
use Rattle.mini_parts.specs.Seen.{dropped_if}
use Rattle.mini_parts.proofs.Left.{dropped_is}
use Rattle.mini_parts.proofs.view.View.dropping.Goals as goal

pub returns-then-drops : goal.returns-then-drops
returns-then-drops c = rw c.if-drops.true (dropped_is (mini_of c.self.inside.parts.now) c.self.inside.fails c.self.inside.clears c.self.inside.named ∙ ap (λ (s : Mini). dropped_if true s) c.self.view_is)
