use Rattle.std.proofs.Common.{None, Some, is_some, rules, ap, ◌∙◌}
use Rattle.proxy_outside.specs.Orders.{sessions}
use Rattle.proxy_outside.specs.Tables.{table_of}
use Rattle.cancel_keys.proofs.Changes.{key_put, key_at, bound_none, bound_some}
use Rattle.cancel_keys.proofs.keys.Keys.bind.Goals as goal

pub returns-in_default-clause-value : goal.returns-in_default-clause-value
returns-in_default-clause-value c = ap is_some (key_at c.args.self.now c.self.inside.given c.args.session None c.self.view_is c.in_default.ensures.value)

pub returns-in_default-clause-bound : goal.returns-in_default-clause-bound
returns-in_default-clause-bound c =
    ap (table_of {R = sessions}) c.get_mut.follows.holds-at-none ∙ c.self.view_is
    ∙ bound_none c.args.self.now c.args.session (c.args.place, c.args.key) (key_at c.args.self.now c.self.inside.given c.args.session None c.self.view_is c.in_default.ensures.value)

pub returns-clause-value : goal.returns-clause-value
returns-clause-value c = ap is_some (key_at c.args.self.now c.self.inside.given c.args.session (Some c.in-Some.given.now) c.self.view_is c.in-Some.ensures.value)

pub returns-clause-bound : goal.returns-clause-bound
returns-clause-bound c =
    key_put c.args.self.now c.self.inside.given (c.get_mut.follows.lender (record c.in-Some.given.now { target = Some (c.args.place, c.args.key) })) c.args.session (record c.in-Some.given.now { target = Some (c.args.place, c.args.key) }) c.self.view_is
    ((c.get_mut.follows.holds (record c.in-Some.given.now { target = Some (c.args.place, c.args.key) })).3 (search rules))
    ∙ bound_some c.args.self.now c.args.session c.in-Some.given.now (c.args.place, c.args.key)
    (key_at c.args.self.now c.self.inside.given c.args.session (Some c.in-Some.given.now) c.self.view_is c.in-Some.ensures.value)
