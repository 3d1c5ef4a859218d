use Rattle.mini_store.specs.Values.{picked}
use Rattle.mini_store.proofs.Paged.{nothing_more}
use Rattle.mini_store.proofs.page.Page.pick.Goals as goal

pub returns-then-not-may_be_hit : goal.returns-then-not-may_be_hit
returns-then-not-may_be_hit c = nothing_more (picked c.args.places.now) c.args.hit.now c.args.self.now c.args.out.now (c.may_be_hit.ensures c.if-not-may_be_hit.true)
