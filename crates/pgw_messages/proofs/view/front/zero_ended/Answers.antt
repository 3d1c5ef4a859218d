use Rattle.pgw_messages.proofs.Texts.{endless, ends_at}
use Rattle.pgw_messages.proofs.view.front.zero_ended.Goals as goal

pub returns-in_err-end : goal.returns-in_err-end
returns-in_err-end c = rw c.from_residual.ensures (endless c.args.bytes.now c.in_err-end.ensures)

pub returns : goal.returns
returns c = rw (c.split_at-2.ensures.back, c.split_at.ensures.front, c.split_at.ensures.back) (ends_at c.args.bytes.now c.in_ok-end.end c.in_ok-end.ensures)
