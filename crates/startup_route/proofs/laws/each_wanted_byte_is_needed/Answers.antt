use Rattle.startup_route.proofs.EntranceLemmas.{wanted_needed}
use Rattle.startup_route.proofs.laws.each_wanted_byte_is_needed.Goals as goal

pub returns : goal.returns
returns c = λ b more h. wanted_needed b more h
