use Rattle.pgw_messages.proofs.Texts.{text_is, no_text}
use Rattle.pgw_messages.proofs.reader.Reader.str.Goals as goal

pub returns-in_default : goal.returns-in_default
returns-in_default c = no_text _ c.in_ok-bytes.bytes.now _ c.in_ok-bytes.ensures c.in_default.ensures.cases.0

pub returns : goal.returns
returns c = rw c.in-Ok.ensures.cases.0 (text_is _ c.in_ok-bytes.bytes.now c.zero_ended.new.self c.in_ok-bytes.ensures c.in-Ok.ensures.cases.1)
