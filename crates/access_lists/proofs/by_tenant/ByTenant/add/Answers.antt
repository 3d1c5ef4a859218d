use Rattle.std.proofs.Common.{Some, rules, ap, ◌∙◌}
use Rattle.std.proofs.lemmas.Result.{on_err_weaker}
use Rattle.access_lists.proofs.Listed.{lists_made, lists_stay}
use Rattle.access_lists.proofs.by_tenant.ByTenant.add.Goals as goal

pub returns-in-Some-clause-err : goal.returns-in-Some-clause-err
returns-in-Some-clause-err c =
    on_err_weaker c.add.result (λ same. lists_stay c.args.self.now.lists (c.get_mut.follows.lender c.add.new.self) c.args.tenant c.add.new.self (ap Some same ∙ c.in-Some.ensures.value) ((c.get_mut.follows.holds c.add.new.self).3 (search rules)))
    c.add.ensures.err

pub returns-clause-ok : goal.returns-clause-ok
returns-clause-ok c =
    lists_made c.args.self.now.lists _ c.insert.new.self (record { tenant = c.args.tenant; net = c.args.net }) c.in_ok-of.field-0 c.get_mut.follows.holds-at-none c.in_default.ensures.value c.in_ok-of.ensures c.in_ok-insert.ensures.updates
