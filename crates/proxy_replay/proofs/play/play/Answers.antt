use Rattle.std.proofs.Common.{◌+◌, ◌++◌, ◌∷◌, [], ℕ, List, refl, sym, ap, subst, ◌∙◌, arith}
use Rattle.std.proofs.lemmas.List.{length_push}
use Rattle.forwarder_world.specs.World.{run}
use Rattle.forwarder_core.specs.Stands.{WorldStands}
use Rattle.forwarder_core.proofs.Schedules.{run-append}
use Rattle.proxy_replay.specs.Schedule.{IsReadTo, IsFirstBad}
use Rattle.proxy_replay.proofs.ReadTo.{read_none, read_more, read_whole, read_bad, few_events}
use Rattle.proxy_replay.proofs.play.play.Goals as goal

pub loop-line-init : goal.loop-line-init
loop-line-init g c = ([], subst (λ (left : List ℕ). IsReadTo g.T.Commands.says c.args.text.now [] left) (sym c.of-lines.ensures) (read_none g.T.Commands.says c.args.text.now), refl, λ key p d stands. stands)

pub overflow_add-number : goal.overflow_add-number
overflow_add-number g c =
    let i = c.loop-line.invariant in
    let few = few_events g.T.Commands.says c.args.text.now i.0 c.loop-line.lines i.1 in
    let number = i.2 in
    let short = c.requires in
    omega arith

pub loop-line-preserved : goal.loop-line-preserved
loop-line-preserved g c =
    let i = c.loop-line.invariant in
    let k = g.S.Session.kind in
    let rules = g.S.Store.Machine.rules in
    let t = rw c.if-not-branch.false at c.in_ok-play_line.ensures in (
      i.0 ++ t.0 ∷ [],
      read_more g.T.Commands.says c.args.text.now i.0 c.loop-line.lines c.in-Some.line.now c.next_line.new.self t.0 i.1 c.in-Some.ensures.some t.1,
      ap (λ (n : ℕ). n + 1) i.2 ∙ sym (length_push i.0 t.0),
      λ key p d stands. subst (WorldStands g.S.Session.state g.S.Store.Machine.stands_for key p c.play_line.new.world) (sym (run-append k rules key p d i.0 (t.0 ∷ []))) (t.2 key p (run k rules key p d i.0) (i.3 key p d stands)),
    )

pub returns-then-not-branch : goal.returns-then-not-branch
returns-then-not-branch g c =
    let i = c.loop-line.invariant in
    let t = rw c.if-not-branch.true at c.in_ok-play_line.ensures in
    let bad = read_bad g.T.Commands.says c.args.text.now i.0 c.loop-line.lines c.in-Some.line.now c.next_line.new.self i.1 c.in-Some.ensures.some t in
    subst (λ (n : ℕ). IsFirstBad g.T.Commands.says c.args.text.now n) (ap (λ (n : ℕ). n + 1) (sym i.2)) bad

pub returns : goal.returns
returns g c =
    let i = c.loop-line.invariant in
    (i.0, read_whole g.T.Commands.says c.args.text.now i.0 (subst (λ (left : List ℕ). IsReadTo g.T.Commands.says c.args.text.now i.0 left) c.in_default.ensures.none.0 i.1), i.3)
