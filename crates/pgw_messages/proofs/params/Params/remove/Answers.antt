use Rattle.std.proofs.Common.{List, ap, subst, sym, ◌∙◌, rules}
use Rattle.std.specs.Prelude.{not}
use Rattle.std.proofs.lemmas.Fn.{filter_same}
use Rattle.pgw_messages.specs.Params.{is_named, without, HasDistinctNames}
use Rattle.pgw_messages.specs.declared.params.Pair.{Pair}
use Rattle.pgw_messages.proofs.Taken.{distinct_without}
use Rattle.pgw_messages.proofs.params.Params.remove.Goals as goal

pub invariant_of-self : goal.invariant_of-self
invariant_of-self c =
    let kept = filter_same _ (λ q. not (is_named c.args.name.now q)) _ (λ x b f h. search (rules, h)) _ _ c.retain.ensures.filtered in
    subst HasDistinctNames (sym kept) (distinct_without c.args.name.now c.self.inside.pairs.items c.self.invariant)

pub returns : goal.returns
returns c =
    let kept = filter_same _ (λ q. not (is_named c.args.name.now q)) _ (λ x b f h. search (rules, h)) _ _ c.retain.ensures.filtered in
    kept ∙ ap (λ (p : List Pair). without c.args.name.now p) c.self.view_is
