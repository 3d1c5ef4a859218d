use Rattle.std.proofs.Common.{ap, sym, ◌∙◌}
use Rattle.transfer_stages.specs.Exchange.{row_said, takes}
use Rattle.transfer_stages.specs.declared.stage.Stage.{Stage}
use Rattle.transfer_exchange.proofs.stages.after_frame.Goals as goal

pub returns-in-OldRow : goal.returns-in-OldRow
unfolding takes
returns-in-OldRow c = λ t p h. c.after_row.ensures ∙ ap (row_said c.args.f) (h c.in-OldRow.is) ∙ sym (ap (λ (x : Stage). takes t p x c.args.f) c.in-OldRow.is)

pub returns-in-AskOld : goal.returns-in-AskOld
unfolding takes
returns-in-AskOld c = λ t p h. sym (ap (λ (x : Stage). takes t p x c.args.f) c.in-AskOld.is)

pub returns-in-Dial : goal.returns-in-Dial
unfolding takes
returns-in-Dial c = λ t p h. sym (ap (λ (x : Stage). takes t p x c.args.f) c.in-Dial.is)

pub returns-in-Packet : goal.returns-in-Packet
unfolding takes
returns-in-Packet c = λ t p h. sym (ap (λ (x : Stage). takes t p x c.args.f) c.in-Packet.is)

pub returns-in-Restore : goal.returns-in-Restore
unfolding takes
returns-in-Restore c = λ t p h. sym (ap (λ (x : Stage). takes t p x c.args.f) c.in-Restore.is)

pub returns-in-Ended : goal.returns-in-Ended
unfolding takes
returns-in-Ended c = λ t p h. sym (ap (λ (x : Stage). takes t p x c.args.f) c.in-Ended.is)
