use Rattle.session_door.proofs.Turns.{so_none, so_wants, so_more, so_over}
use Rattle.session_door.proofs.door.read_entry.Goals as goal

pub loop-init : goal.loop-init
loop-init g c = so_none _ _ _ _ c.requires.new c.requires.patient

pub read_piece-requires-clause-wants : goal.read_piece-requires-clause-wants
read_piece-requires-clause-wants g c = so_wants _ _ _ _ _ _ _ c.loop.invariant

pub loop-preserved : goal.loop-preserved
loop-preserved g c = so_more _ _ _ _ _ _ _ _ _ _ _ c.loop.invariant c.in-On.ensures

pub returns-in-Over : goal.returns-in-Over
returns-in-Over g c = so_over _ _ _ _ _ _ _ _ _ _ _ c.loop.invariant c.in-Over.ensures
