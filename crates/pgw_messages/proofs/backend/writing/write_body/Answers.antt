use Rattle.pgw_messages.proofs.Writing.{row_is, fields_are}
use Rattle.pgw_messages.proofs.backend.writing.write_body.Goals as goal

pub returns-in-Row-clause-good : goal.returns-in-Row-clause-good
returns-in-Row-clause-good c = row_is c.args.m.now _ c.list-in-Row.result c.in-Row.is c.list-in-Row.ensures.good

pub returns-in-Fault-clause-good : goal.returns-in-Fault-clause-good
returns-in-Fault-clause-good c = fields_are c.args.m.now _ c.write_fields.result c.in-Fault.is c.write_fields.ensures.good
