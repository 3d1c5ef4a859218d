use Rattle.std.proofs.Common.{◌≡◌, ap, sym, ◌∙◌, Some, None}
use Rattle.std.specs.List.{position}
use Rattle.std.specs.Ordering.{is_lt}
use Rattle.mini_store.specs.Values.{row_order}
use Rattle.mini_store.proofs.Places.{put_before, put_last}
use Rattle.mini_store.proofs.row_lists.place_row.Goals as goal

pub returns-in_ok-insert-in-Some : goal.returns-in_ok-insert-in-Some
returns-in_ok-insert-in-Some c =
    let at : position (λ s. is_lt (row_order c.args.row s)) c.args.rows.now.items ≡ Some c.in-Some.place = ap (position (λ s. is_lt (row_order c.args.row s))) (sym c.deref.ensures.value) ∙ sym c.in-Some.ensures in
    let put = (put_before c.args.row c.args.rows.now.items c.in-Some.place at).1 in
    cc (put, c.in_ok-insert-in-Some.ensures.items)

pub returns-in_ok-push-in-None : goal.returns-in_ok-push-in-None
returns-in_ok-push-in-None c =
    let none : position (λ s. is_lt (row_order c.args.row s)) c.args.rows.now.items ≡ None = ap (position (λ s. is_lt (row_order c.args.row s))) (sym c.deref.ensures.value) ∙ sym c.in-None.ensures in
    let put = put_last c.args.row c.args.rows.now.items none in
    cc (put, c.in_ok-push-in-None.ensures.items)
