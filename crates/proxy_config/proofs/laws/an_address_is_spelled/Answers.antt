use Rattle.proxy_config.proofs.Addresses.{addr_from, addr_to}
use Rattle.proxy_config.proofs.laws.an_address_is_spelled.Goals as goal

pub returns : goal.returns
returns c = λ text a. (addr_to text a, addr_from text a)
