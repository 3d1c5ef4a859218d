use Rattle.std.proofs.Common.{◌≡◌, [], length, ap, ◌∙◌}
use Rattle.std.proofs.lemmas.Result.{err_from_is_err_and}
use Rattle.toml.specs.View.{items_view, array_view}
use Rattle.proxy_config.specs.Reading.{entries, item_key}
use Rattle.proxy_config.proofs.Walks.{goes_on, stops}
use Rattle.proxy_config.proofs.entry.entries.Goals as goal

pub returns-in_err-item : goal.returns-in_err-item
returns-in_err-item g c =
    let p = err_from_is_err_and c.from_residual-in_err-item.result c.from_residual-in_err-item.ensures.1 in
    let named : c.as_str.result.now ≡ item_key c.args.key.now (length c.loop-value.items) = c.as_str.ensures.value ∙ c.in_ok-item_key.ensures ∙ ap (item_key c.args.key.now) c.len.ensures in
    let so_far = c.loop-value.invariant ∙ ap (λ xs. entries g.E.Entry.at c.args.key.now [] (items_view xs)) c.deref-value-items.ensures.value in
    rw (p.1, p.2) (stops c.in_err-item.field-0.0 g.E.Entry.at c.args.key.now c.loop-value.items c.deref-value-items.result.now c.loop-value.value-index c.value-item.result c.as_slice.result.now c.as_str.result.now (entries g.E.Entry.at c.args.key.now [] (array_view c.args.array.now)) c.loop-value-test.true c.value-item.is c.as_slice.ensures named c.in_err-item.ensures so_far)

pub loop-value-preserved : goal.loop-value-preserved
loop-value-preserved g c =
    let named : c.as_str.result.now ≡ item_key c.args.key.now (length c.loop-value.items) = c.as_str.ensures.value ∙ c.in_ok-item_key.ensures ∙ ap (item_key c.args.key.now) c.len.ensures in
    rw c.in_ok-push.ensures.ok (goes_on g.E.Entry.at c.args.key.now c.loop-value.items c.deref-value-items.result.now c.loop-value.value-index c.value-item.result c.as_slice.result.now c.as_str.result.now c.in_ok-item.item _ c.loop-value-test.true c.value-item.is c.as_slice.ensures named c.in_ok-item.ensures c.loop-value.invariant)
