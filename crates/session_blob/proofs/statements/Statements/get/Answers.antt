use Rattle.std.proofs.Common.{List, ap, ◌∙◌}
use Rattle.std.specs.Option.{option_map}
use Rattle.session_blob.specs.Entries.{prepared}
use Rattle.session_blob.specs.Prepared.{Prepared, find_prepared}
use Rattle.session_blob.proofs.ByName.{found, shown}
use Rattle.session_blob.proofs.statements.Statements.get.Goals as goal

pub returns : goal.returns
returns c =
    shown c.args.name.now c.get.result ∙ ap (option_map (prepared c.args.name.now)) c.get.ensures.value ∙ found c.args.name.now c.self.inside.map.entries
    ∙ ap (λ (p : List Prepared). find_prepared c.args.name.now p) c.self.view_is
