use Rattle.std.proofs.Common.{ℕ, None, ap, ◌∙◌}
use Rattle.std.specs.FinMap as map
use Rattle.cancel_keys.proofs.Changes.{key_put}
use Rattle.cancel_keys.proofs.keys.Keys.give.Goals as goal

pub returns-clause-ok : goal.returns-clause-ok
returns-clause-ok c =
    key_put c.args.self.now c.self.inside.given c.insert.new.self c.args.session (record { addr = c.args.addr; secret = c.secret_of-secret.result; target = None }) c.self.view_is c.in_ok-insert.ensures.updates
    ∙ ap (λ (n : ℕ). map.insert c.args.self.now c.args.session (record { addr = c.args.addr; secret = n; target = None })) c.secret_of-secret.ensures
