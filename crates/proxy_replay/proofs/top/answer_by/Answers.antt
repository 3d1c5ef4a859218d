use Rattle.forwarder_world.specs.World.{start}
use Rattle.tally_session.specs.Tally.{tally_kind, tally_rules}
use Rattle.proxy_replay.specs.Client.{client_key, client_params}
use Rattle.proxy_replay.specs.Generating.{world_of}
use Rattle.proxy_replay.proofs.Ends.{known}
use Rattle.proxy_replay.proofs.top.answer_by.Goals as goal

pub returns : goal.returns
returns c = λ begun.
    let t = rw c.in_default.is at c.in_ok-n.ensures in
    (t.0, t.1, c.in_ok-report.ensures client_key client_params (world_of t.0) (t.2 client_key client_params (start tally_kind tally_rules client_params) begun), known t.0)
