use Rattle.route_laws.proofs.Answered.{routes_short, routes_fit, routes_unreserved, routes_tokenless}
use Rattle.route_laws.proofs.laws.routes_can_be_sent.Goals as goal

pub returns : goal.returns
returns c = record { short = routes_short; fit = routes_fit; reserved = routes_unreserved; token = routes_tokenless }
