use Rattle.std.proofs.Common.{◌≡◌, List, Some, None, refl, sym, ap, subst, ◌∙◌}
use Rattle.std.specs.Prelude.{position}
use Rattle.std.proofs.Math.ListN.{set}
use Rattle.pgw_messages.specs.Params.{is_named, with_value, HasDistinctNames}
use Rattle.pgw_messages.specs.declared.params.Pair.{Pair}
use Rattle.pgw_messages.proofs.ParamsLemmas.{absent, present, distinct_with_value}
use Rattle.pgw_messages.proofs.params.Params.put_at.Goals as goal

replaced : (c : goal.After-drop-index_mut) → set c.self.inside.pairs.items c.in-Some.i (record { name = c.index_mut.result.now.name; value = c.in_ok-value.value }) ≡ with_value c.args.name.now c.args.value.now c.self.inside.pairs.items
replaced c =
    let p : List Pair = c.self.inside.pairs.items in
    let place : position (is_named c.args.name.now) p ≡ Some c.in-Some.i = ap (λ (q : List Pair). position (is_named c.args.name.now) q) c.self.view_is ∙ sym c.requires ∙ c.in-Some.is in
    let found = present c.args.name.now p c.in-Some.i c.index_mut.result.now place in
    rw (found.there c.args.value.now, ← c.index_mut.ensures.value, c.in_ok-value.ensures) refl

added : (c : goal.In_ok-push-in-None) → c.push.new.self.items ≡ with_value c.args.name.now c.args.value.now c.self.inside.pairs.items
added c =
    let p : List Pair = c.self.inside.pairs.items in
    let place : position (is_named c.args.name.now) p ≡ None = ap (λ (q : List Pair). position (is_named c.args.name.now) q) c.self.view_is ∙ sym c.requires ∙ c.in-None.is in
    let nowhere = absent c.args.name.now p place in
    rw (nowhere.last c.args.value.now, ← c.in_ok-value.ensures, ← c.in_ok-name-in-None.ensures) c.in_ok-push-in-None.ensures.items

pub invariant_of-self : goal.invariant_of-self
invariant_of-self c = subst HasDistinctNames (sym (replaced c)) (distinct_with_value c.args.name.now c.args.value.now c.self.inside.pairs.items c.self.invariant)

pub returns-in-Some-clause-ok : goal.returns-in-Some-clause-ok
returns-in-Some-clause-ok c = replaced c ∙ ap (λ (p : List Pair). with_value c.args.name.now c.args.value.now p) c.self.view_is

pub returns-in_ok-push-in-None-clause-ok : goal.returns-in_ok-push-in-None-clause-ok
returns-in_ok-push-in-None-clause-ok c = added c ∙ ap (λ (p : List Pair). with_value c.args.name.now c.args.value.now p) c.self.view_is

pub invariant_of-self-in-None : goal.invariant_of-self-in-None
invariant_of-self-in-None c = subst HasDistinctNames (sym (added c)) (distinct_with_value c.args.name.now c.args.value.now c.self.inside.pairs.items c.self.invariant)
