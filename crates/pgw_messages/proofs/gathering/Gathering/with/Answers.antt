use Rattle.std.proofs.Common.{rules, ◌≡◌, List, Some, None}
use Rattle.std.specs.Prelude.{position}
use Rattle.pgw_messages.specs.Params.{is_named}
use Rattle.pgw_messages.specs.declared.params.Pair.{Pair}
use Rattle.pgw_messages.proofs.PlacesLemmas.{points_kept, points_new}
use Rattle.pgw_messages.proofs.gathering.Gathering.with.Goals as goal

pub invariant_of-result : goal.invariant_of-result
invariant_of-result c =
    let p : List Pair = c.self.inside.params in
    let there : Some c.in-Some.place ≡ position (is_named c.args.name.now) p = search rules in
    rw c.in_ok-put_at.ensures.ok (points_kept c.self.inside.places p c.args.name.now c.args.value.now c.in-Some.place c.self.invariant there)

pub invariant_of-result-2 : goal.invariant_of-result-2
invariant_of-result-2 c =
    let p : List Pair = c.self.inside.params in
    let nowhere : None ≡ position (is_named c.args.name.now) p = search rules in
    rw c.in_ok-put_at-2.ensures.ok (points_new c.self.inside.places c.insert.new.self p c.args.name.now c.args.value.now c.len.result c.self.invariant nowhere c.len.ensures.value c.in_ok-insert.ensures.updates)
