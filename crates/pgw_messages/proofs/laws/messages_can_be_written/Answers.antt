use Rattle.pgw_messages.proofs.CanBeWritten.{front_fields, back_fields}
use Rattle.pgw_messages.proofs.laws.messages_can_be_written.Goals as goal

pub returns-clause-front : goal.returns-clause-front
returns-clause-front c = front_fields

pub returns-clause-back : goal.returns-clause-back
returns-clause-back c = back_fields
