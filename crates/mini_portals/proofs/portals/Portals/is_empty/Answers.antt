use Rattle.std.proofs.Common.{List, ap, ◌∙◌}
use Rattle.mini_kind.specs.Dumps.{no_portals}
use Rattle.mini_kind.specs.Mini.{Portal}
use Rattle.mini_portals.proofs.ByName.{empty}
use Rattle.mini_portals.proofs.portals.Portals.is_empty.Goals as goal

pub returns : goal.returns
returns c = empty c.is_empty.result c.self.inside.map.entries c.is_empty.ensures ∙ ap (λ (p : List Portal). no_portals p) c.self.view_is
