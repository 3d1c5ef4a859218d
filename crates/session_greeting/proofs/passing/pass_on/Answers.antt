use Rattle.std.proofs.Common.{rules}
use Rattle.session_greeting.proofs.Keyed.{key_passed}
use Rattle.session_greeting.proofs.passing.pass_on.Goals as goal

pub returns-then-f-eq-BACKEND_KEY_DATA : goal.returns-then-f-eq-BACKEND_KEY_DATA
returns-then-f-eq-BACKEND_KEY_DATA g c = key_passed c.args.key c.args.f.now _ _ c.write_all.result c.key_message-message.result (search rules) c.key_message-message.ensures c.write_all.ensures
