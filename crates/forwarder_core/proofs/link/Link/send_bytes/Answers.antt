use Rattle.std.proofs.Common.{◌-◌, length}
use Rattle.forwarder_core.proofs.link.Link.send_bytes.Goals as goal

pub returns : goal.returns
returns g c m held h = record {
  startup = h.startup;
  unopened = h.unopened;
  pod = (h.pod.0, h.pod.1, c.in_ok-give.ensures m.sent (m.delivered - length m.startup) h.pod.0 h.pod.2);
  bound = h.bound;
  replies = h.replies;
  reads = h.reads;
  session = h.session;
  cut = h.cut;
}
