use Rattle.std.proofs.Common.{sym, ap, ◌∙◌, arith}
use Rattle.pgw_messages.specs.Frontend.{front_at}
use Rattle.pgw_messages.proofs.Arms.{whole_is}
use Rattle.pgw_messages.proofs.FrontLaws.{front_found}
use Rattle.pgw_messages.proofs.frontend.reading.read_whole.Goals as goal

pub returns-clause-found : goal.returns-clause-found
returns-clause-found c =
    let read = ap (front_at c.args.tag) (sym c.new-r.ensures) ∙ c.in_ok-message.ensures in
    front_found c.args.tag c.args.body.now c.in_ok-message.message (λ i. omega (arith, c.type_inv.body i)) (whole_is (front_at c.args.tag c.args.body.now) c.in_ok-message.message c.read_body.new.r c.in_ok-finish.field-0 read c.in_ok-finish.ensures)
