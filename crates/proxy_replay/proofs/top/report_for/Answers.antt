use Rattle.std.proofs.Common.{◌∙◌, ap}
use Rattle.forwarder_world.specs.World.{phase_of, counts_of}
use Rattle.proxy_replay.specs.Replaying.{report_by}
use Rattle.proxy_replay.specs.Report.{report_text}
use Rattle.proxy_replay.proofs.top.report_for.Goals as goal

pub returns : goal.returns
unfolding report_by
returns g c key p d h =
    c.in_ok-report.ensures.text
    ∙ ap (λ w. report_text w c.counts.result c.received.result.now) (c.phase.ensures key p d h)
    ∙ ap (λ n. report_text (phase_of d.mode) n c.received.result.now) (c.counts.ensures key p d h)
    ∙ ap (λ b. report_text (phase_of d.mode) (counts_of d) b) (c.received.ensures.stands key p d h)
