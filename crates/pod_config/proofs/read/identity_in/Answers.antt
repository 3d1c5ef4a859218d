use Rattle.std.proofs.Common.{◌≡◌, Ok, codes}
use Rattle.std.proofs.lemmas.Result.{err_from_is_err_and}
use Rattle.proxy_config.specs.Settings.{most_moment}
use Rattle.proxy_config.specs.Sections.{part_of, number}
use Rattle.proxy_config.proofs.Walks.{bind_fails}
use Rattle.pod_config.proofs.read.identity_in.Goals as goal

pub returns-in_err-token_until : goal.returns-in_err-token_until
returns-in_err-token_until c =
    let p = err_from_is_err_and c.from_residual-in_err-token_until.result c.from_residual-in_err-token_until.ensures.1 in
    rw (p.1, p.2, c.in_ok-tenant.ensures, c.in_ok-secret.ensures) (bind_fails c.in_err-token_until.field-0.0 (number 0 most_moment (codes "token_until") (part_of c.args.section.now)) _ c.in_err-token_until.ensures)
