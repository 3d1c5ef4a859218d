use Rattle.std.proofs.Common.{◌≡◌, ◌<◌, ◌++◌, length, get_or, ap, sym, ◌∙◌}
use Rattle.std.specs.Option.{option_copied, option_to_list}
use Rattle.std.specs.Prelude.{slice_get}
use Rattle.mini_store.proofs.Picking.{picked_more}
use Rattle.mini_store.proofs.row.StoredRow.picked.Goals as goal

pub loop-place-preserved : goal.loop-place-preserved
loop-place-preserved c =
    let lt : c.loop-place.place-index < length c.args.places.now = c.loop-place-test.true in
    let at : option_copied c.value.result ≡ slice_get c.args.self.now (get_or c.args.places.now c.loop-place.place-index 0) = c.value.ensures in
    let more = picked_more c.args.places.now c.args.self.now c.loop-place.place-index lt in
    let is : c.push_copy.new.row ≡ c.loop-place.row ++ option_to_list (option_copied c.value.result) = c.in_ok-push_copy.ensures in
    is ∙ ap (λ o. c.loop-place.row ++ option_to_list o) at ∙ ap (λ r. r ++ option_to_list (slice_get c.args.self.now (get_or c.args.places.now c.loop-place.place-index 0))) c.loop-place.invariant ∙ sym more
