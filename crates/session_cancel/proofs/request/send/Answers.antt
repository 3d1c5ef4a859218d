use Rattle.session_cancel.proofs.Sending.{sent_on}
use Rattle.session_cancel.proofs.request.send.Goals as goal

pub returns-in-Link : goal.returns-in-Link
returns-in-Link g c =
    sent_on c.args.place c.args.key _ _ _ _ _ _ c.write_all-whole.result c.request_of-request.result c.request_of-request.ensures c.in-Link.ensures c.write_all-whole.ensures c.hang_up.ensures
