use Rattle.session_door.proofs.Reading.{stopped}
use Rattle.session_door.proofs.door.read_piece.Goals as goal

pub returns-in-Err : goal.returns-in-Err
returns-in-Err g c = stopped c.cut_by.result c.in-Err.e _ _ _ _ _ _ _ c.cut_by.ensures c.in-Err.ensures
