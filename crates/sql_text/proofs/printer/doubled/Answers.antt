use Rattle.std.proofs.Common.{List, ℕ, subst, sym, ap, ◌∙◌}
use Rattle.std.proofs.lemmas.Bool.{false≢true}
use Rattle.std.specs.Str.{IsUtf8}
use Rattle.sql_text.specs.Printing.{doubled}
use Rattle.sql_text.proofs.Quotes.{doubled_utf8}
use Rattle.sql_text.proofs.printer.doubled.Goals as goal

pub unreachable-requires : goal.unreachable-requires
unreachable-requires c =
    let same = c.in_ok-bytes.ensures ∙ ap doubled c.as_bytes.ensures.value in
    false≢true (c.in_default.ensures.succeeds (subst (λ (b : List ℕ). IsUtf8 b) (sym same) (doubled_utf8 c.args.t.now c.utf8.t)))
