use Rattle.session_blob.proofs.Texts.{text_is, no_text}
use Rattle.session_blob.proofs.reader.Reader.text.Goals as goal

pub returns-in_default : goal.returns-in_default
returns-in_default c = no_text _ c.in_ok-len.len c.u32.new.self c.in_ok-bytes.bytes.now c.slice.new.self c.in_ok-len.ensures c.in_ok-bytes.ensures c.in_default.ensures.cases.0

pub returns : goal.returns
returns c = rw c.in-Ok.ensures.cases.0 (text_is _ c.in_ok-len.len c.u32.new.self c.in_ok-bytes.bytes.now c.slice.new.self c.in_ok-len.ensures c.in_ok-bytes.ensures c.in-Ok.ensures.cases.1)
