use Rattle.std.proofs.Common.{◌≡◌, List, Some, None, sym, ap, ◌∙◌}
use Rattle.std.specs.Prelude.{position}
use Rattle.std.specs.Option.{option_copied}
use Rattle.pgw_messages.specs.Params.{is_named, value_of}
use Rattle.pgw_messages.specs.declared.params.Pair.{Pair}
use Rattle.pgw_messages.proofs.ParamsLemmas.{absent, present}
use Rattle.pgw_messages.proofs.params.Params.value.Goals as goal

pub returns-in_err-i : goal.returns-in_err-i
returns-in_err-i c =
    let place : position (is_named c.args.name.now) c.self.inside.pairs.items ≡ None = ap (λ (p : List Pair). position (is_named c.args.name.now) p) (sym c.as_slice.ensures.value) ∙ sym c.place_of.ensures ∙ c.in_err-i.was in
    let none = (absent c.args.name.now c.self.inside.pairs.items place).value in
    ap option_copied c.from_residual.ensures ∙ sym none ∙ ap (λ (p : List Pair). value_of c.args.name.now p) c.self.view_is

pub returns : goal.returns
returns c =
    let place : position (is_named c.args.name.now) c.self.inside.pairs.items ≡ Some c.in_ok-i.i = ap (λ (p : List Pair). position (is_named c.args.name.now) p) (sym c.as_slice.ensures.value) ∙ sym c.place_of.ensures ∙ c.in_ok-i.was in
    let some = (present c.args.name.now c.self.inside.pairs.items c.in_ok-i.i c.index.result.now place).value in
    ap Some (c.as_str.ensures ∙ ap (λ (q : Pair). q.value) c.index.ensures) ∙ sym some ∙ ap (λ (p : List Pair). value_of c.args.name.now p) c.self.view_is
