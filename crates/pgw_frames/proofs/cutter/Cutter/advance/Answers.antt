use Rattle.pgw_frames.proofs.Lending.{drops_first}
use Rattle.pgw_frames.proofs.cutter.Cutter.advance.Goals as goal

pub returns-in-Whole : goal.returns-in-Whole
returns-in-Whole c = drops_first c.as_slice-bytes.result.now c.self.inside.held c.args.self.now c.drop_front.new.self c.in-Whole.count c.as_slice-bytes.ensures c.self.view_is c.drop_front.ensures c.in-Whole.ensures
