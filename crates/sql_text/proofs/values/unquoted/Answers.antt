use Rattle.std.proofs.Common.{List, ℕ, subst, sym, ap, ◌∙◌, false}
use Rattle.std.proofs.lemmas.Bool.{false≢true}
use Rattle.std.specs.Str.{IsUtf8}
use Rattle.sql_text.specs.Values.{behind_quote, unquoted_by}
use Rattle.sql_text.proofs.Quotes.{inside_utf8}
use Rattle.sql_text.proofs.values.unquoted.Goals as goal

pub unreachable-requires : goal.unreachable-requires
unreachable-requires c =
    let same = c.in_ok-bytes.ensures ∙ ap (unquoted_by false) (c.behind_quote.ensures ∙ ap behind_quote c.as_bytes.ensures.value) in
    false≢true (c.in_default.ensures.succeeds (subst (λ (b : List ℕ). IsUtf8 b) (sym same) (inside_utf8 c.args.quoted.now c.utf8.quoted)))
