use Rattle.std.proofs.Common.{◌≡◌, ℕ, List, sym, subst, ◌∙◌}
use Rattle.proxy_replay.specs.TallyCommands.{says_nothing}
use Rattle.proxy_replay.specs.Schedule.{IsSchedule}
use Rattle.proxy_replay.proofs.Ends.{run_completes, no_usage}
use Rattle.proxy_replay.proofs.top.replay_text.Goals as goal

pub returns-in-All-clause-complete : goal.returns-in-All-clause-complete
returns-in-All-clause-complete g c no_read_fault no_write_fault few given =
    let t = rw c.in-All.is at c.read_all.ensures.reading in
    let text : c.as_slice.result.now ≡ t.0 = c.as_slice.ensures ∙ t.2.0 in
    let schedule = given t.0 t.1 in
    run_completes c.run.result c.as_slice.result.now (g.K.Sink.target c.args.report.now) (g.K.Sink.target c.run.new.report) schedule.1.0 c.run.ensures no_write_fault
    (subst (λ (b : List ℕ). IsSchedule says_nothing b schedule.1.0) (sym text) schedule.1.1)

pub returns-in-All-clause-usage : goal.returns-in-All-clause-usage
returns-in-All-clause-usage g c = no_usage c.run.result c.as_slice.result.now (g.K.Sink.target c.args.report.now) (g.K.Sink.target c.run.new.report) c.run.ensures
