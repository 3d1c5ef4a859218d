use Rattle.std.proofs.Common.{arith}
use Rattle.tcp_links.proofs.Parts.{part_rest}
use Rattle.tcp_links.proofs.read_ahead.ReadAhead.hand.Goals as goal

pub returns-clause-rest : goal.returns-clause-rest
returns-clause-rest c = part_rest c.args.self.now.at c.args.self.now.end c.min-count.result c.args.self.now.buffer.items (omega arith)
