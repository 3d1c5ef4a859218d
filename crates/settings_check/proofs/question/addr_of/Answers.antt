use Rattle.std.proofs.Common.{sym}
use Rattle.proxy_config.proofs.Addresses.{addr_from, refused}
use Rattle.settings_check.proofs.question.addr_of.Goals as goal

pub returns-in-Ok : goal.returns-in-Ok
returns-in-Ok c = sym (addr_from c.args.text.now c.in-Ok.addr c.in-Ok.ensures)

pub returns-in-Err : goal.returns-in-Err
returns-in-Err c = refused c.args.text.now c.in-Err.field-0 c.in-Err.ensures
