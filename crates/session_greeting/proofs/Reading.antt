-- The meaning of a message, by how it is read.
use Rattle.std.proofs.Common.{◌≡◌, ◌∙◌, sym, ap, Ok, Err}
use Rattle.pgw_frames.specs.declared.frame.Frame.{Frame}
use Rattle.pgw_messages.specs.Backend.{back_of}
use Rattle.pgw_messages.specs.declared.backend.message.BackMsg.{BackMsg}
use Rattle.pgw_messages.specs.declared.fault.MsgFault.{MsgFault}
use Rattle.session_greeting.specs.declared.meaning.Meaning.{Meaning}
use Rattle.session_greeting.specs.Meanings.{read_meaning, unread_meaning, meaning_by, meaning_of}

pub by_read : (f : Frame) (m : BackMsg) (is : Meaning) → back_of f ≡ Ok m → is ≡ read_meaning m → is ≡ meaning_of f
by_read f m is e h = h ∙ sym (ap (meaning_by f.tag) e)

pub by_unread : (f : Frame) (e : MsgFault) (is : Meaning) → back_of f ≡ Err e → is ≡ unread_meaning f.tag → is ≡ meaning_of f
by_unread f e is x h = h ∙ sym (ap (meaning_by f.tag) x)
