use Rattle.std.proofs.Common.{sym, ◌∙◌, arith}
use Rattle.proxy_config.specs.Settings.{most_number}
use Rattle.settings_check.proofs.Numbers.{spelled, unspelled}
use Rattle.settings_check.proofs.question.tenant_of.Goals as goal

pub returns-in_err-n : goal.returns-in_err-n
returns-in_err-n c = c.from_residual.ensures ∙ unspelled 1 most_number c.args.text.now (omega arith) c.in_err-n.ensures

pub returns : goal.returns
returns c = c.tenant_in.ensures ∙ sym (spelled 1 most_number c.args.text.now c.in_ok-n.n (omega arith) c.in_ok-n.ensures)
