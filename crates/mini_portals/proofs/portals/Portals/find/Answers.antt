use Rattle.std.proofs.Common.{List, ap, ◌∙◌}
use Rattle.std.specs.Option.{option_map}
use Rattle.mini_kind.specs.Mini.{Portal, find_portal}
use Rattle.mini_portals.proofs.ByName.{found, shown}
use Rattle.mini_portals.specs.Entries.{portal}
use Rattle.mini_portals.proofs.portals.Portals.find.Goals as goal

pub returns : goal.returns
returns c =
    shown c.args.name.now c.get.result ∙ ap (option_map (portal c.args.name.now)) c.get.ensures.value ∙ found c.args.name.now c.self.inside.map.entries
    ∙ ap (λ (p : List Portal). find_portal c.args.name.now p) c.self.view_is
