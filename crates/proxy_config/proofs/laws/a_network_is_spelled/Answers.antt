use Rattle.proxy_config.proofs.Networks.{net_from, net_to}
use Rattle.proxy_config.proofs.laws.a_network_is_spelled.Goals as goal

pub returns : goal.returns
returns c = λ text net. (net_to text net, net_from text net)
