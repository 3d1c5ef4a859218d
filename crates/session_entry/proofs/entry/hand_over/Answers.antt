use Rattle.std.proofs.Common.{refl}
use Rattle.session_entry.proofs.Handed.{handed, untold, full}
use Rattle.session_entry.proofs.entry.hand_over.Goals as goal

pub returns-then-not-tell : goal.returns-then-not-tell
returns-then-not-tell g c = untold c.args.peer c.args.key _ _ _ _ _ _ c.in-Err-JournalFull.field-0 c.in-Err-JournalFull.ensures c.if-not-tell.ensures

pub returns-in-Ok : goal.returns-in-Ok
returns-in-Ok g c = handed c.args.peer c.args.key _ _ _ _ _ c.in-Ok.field-0 c.in-Ok.ensures

pub returns-in-Err-NoMemory : goal.returns-in-Err-NoMemory
returns-in-Err-NoMemory g c = untold c.args.peer c.args.key _ _ _ _ _ _ c.in-Err-NoMemory.field-0 c.in-Err-NoMemory.ensures refl

pub returns-else-not-tell : goal.returns-else-not-tell
returns-else-not-tell g c = full c.args.peer c.args.key c.in-Err-JournalFull.most _ _ _ _ _ _ c.in-Err-JournalFull.field-0 c.in-Err-JournalFull.field-0-is c.in-Err-JournalFull.ensures c.if-not-tell.ensures
