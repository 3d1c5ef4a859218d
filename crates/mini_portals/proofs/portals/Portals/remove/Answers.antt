use Rattle.std.proofs.Common.{List, sym, ap, ◌∙◌, string_bytes}
use Rattle.std.specs.Map.{lookup}
use Rattle.std.specs.Str.{bytes_eq}
use Rattle.std.specs.declared.alloc.Global.{Global}
use Rattle.std.specs.declared.string.String.{String}
use Rattle.mini_kind.specs.Mini.{Portal, without_portal}
use Rattle.mini_portals.proofs.ByName.{removed}
use Rattle.mini_portals.specs.Entries.{portals_of}
use Rattle.mini_portals.proofs.portals.Portals.remove.Goals as goal

pub returns : goal.returns
returns c =
    ap portals_of c.shift_remove-removed.ensures.entries
    ∙ removed c.args.name.now c.self.inside.map.entries (sym (ap (lookup (λ (k : String Global). bytes_eq c.args.name.now (string_bytes k))) c.shift_remove-removed.ensures.entries) ∙ c.shift_remove-removed.ensures.updates.1)
    ∙ ap (λ (p : List Portal). without_portal c.args.name.now p) c.self.view_is
