use Rattle.std.proofs.Common.{List, ℕ, ap, ◌∙◌}
use Rattle.mini_kind.specs.Mini.{Portal, put_portal}
use Rattle.mini_portals.proofs.ByName.{inserted}
use Rattle.mini_portals.specs.Entries.{portal, portals_of}
use Rattle.mini_portals.proofs.portals.Portals.put.Goals as goal

pub returns-clause-ok : goal.returns-clause-ok
returns-clause-ok c =
    ap portals_of c.in_ok-insert.ensures.entries ∙ inserted c.self.inside.map.entries c.in_ok-name.name c.args.bound
    ∙ ap (λ (k : List ℕ). put_portal (portal k c.args.bound) (portals_of c.self.inside.map.entries)) c.in_ok-name.ensures.ok
    ∙ ap (λ (p : List Portal). put_portal (portal c.args.name.now c.args.bound) p) c.self.view_is
