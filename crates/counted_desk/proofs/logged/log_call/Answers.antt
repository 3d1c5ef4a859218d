use Rattle.std.proofs.Common.{[], ◌∷◌, ◌++◌, ap, ◌∙◌}
use Rattle.counted_desk.specs.History.{call, state_of}
use Rattle.counted_desk.proofs.Totals.{state-longer}
use Rattle.counted_desk.proofs.logged.log_call.Goals as goal

pub returns-in-Ok-clause-whole : goal.returns-in-Ok-clause-whole
returns-in-Ok-clause-whole g c =
    let m = g.M.Machine in
    let items = c.args.logged.now.journal.items in
    state-longer m.rules (m.stands_for c.step.new.self) items c.args.ticket c.args.command _ (c.push_reserved.ensures.items ∙ ap (λ l. l ++ call c.args.ticket c.args.command ∷ []) c.reserve.ensures.items)
    (c.in-Ok.ensures.state (state_of m.rules items) c.requires.whole)
