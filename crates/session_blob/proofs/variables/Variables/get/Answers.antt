use Rattle.std.proofs.Common.{List, ap, sym, ◌∙◌, Some, string_bytes}
use Rattle.std.specs.Option.{option_copied, option_map}
use Rattle.pgw_messages.specs.Params.{value_of}
use Rattle.pgw_messages.specs.declared.params.Pair.{Pair}
use Rattle.session_blob.proofs.ByName.{found_value}
use Rattle.session_blob.proofs.variables.Variables.get.Goals as goal

pub returns-in_err-value : goal.returns-in_err-value
returns-in_err-value c =
    ap option_copied c.from_residual.ensures ∙ ap (option_map string_bytes) c.in_err-value.ensures.value ∙ found_value c.args.name.now c.self.inside.map.entries
    ∙ ap (λ (p : List Pair). value_of c.args.name.now p) c.self.view_is

pub returns : goal.returns
returns c =
    ap Some c.as_str.ensures.value ∙ ap (option_map string_bytes) c.in_ok-value.ensures.value ∙ found_value c.args.name.now c.self.inside.map.entries
    ∙ ap (λ (p : List Pair). value_of c.args.name.now p) c.self.view_is
