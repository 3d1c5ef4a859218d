use Rattle.std.proofs.Common.{List, ℕ, ap, ◌∙◌}
use Rattle.session_blob.specs.Entries.{prepared_of}
use Rattle.session_blob.specs.Prepared.{Prepared, with_statement}
use Rattle.session_blob.proofs.Entries.{inserted_statement}
use Rattle.session_blob.proofs.statements.Statements.put_owned.Goals as goal

pub returns-clause-ok : goal.returns-clause-ok
returns-clause-ok c =
    ap prepared_of c.in_ok-insert.ensures.entries ∙ inserted_statement c.self.inside.map.entries c.in_ok-name.name c.args.query
    ∙ ap (λ (k : List ℕ). with_statement k c.args.query.query c.args.query.types (prepared_of c.self.inside.map.entries)) c.in_ok-name.ensures.ok
    ∙ ap (λ (p : List Prepared). with_statement c.args.name.now c.args.query.query c.args.query.types p) c.self.view_is
