use Rattle.std.proofs.Common.{sym, ◌∙◌}
use Rattle.std.proofs.lemmas.Result.{err_from_is_err_and}
use Rattle.sql_text.specs.Grammar.{more_form, with_front}
use Rattle.sql_text.proofs.Items.{goes_on, stops}
use Rattle.sql_text.proofs.parser.Parser.more.Goals as goal

pub returns-in_err-read : goal.returns-in_err-read
returns-in_err-read g c =
    let p = err_from_is_err_and c.from_residual.result c.from_residual.ensures.1 in
    let comma = sym c.takes.ensures.value ∙ c.if-not-takes.false in
    rw (p.1, p.2) (stops c.in_err-read.field-0.0 g.T.Item.form c.loop.items c.args.most c.loop.counter c.loop.self c.takes.new.self (with_front c.args.items (more_form g.T.Item.form c.args.most c.args.self.now)) c.loop-test.true comma c.takes.ensures.left c.in_err-read.ensures c.loop.invariant)

pub loop-preserved : goal.loop-preserved
loop-preserved g c =
    let comma = sym c.takes.ensures.value ∙ c.if-not-takes.false in
    rw c.in_ok-push.ensures.ok (goes_on g.T.Item.form c.loop.items c.args.most c.loop.counter c.loop.self c.takes.new.self c.in_ok-read.field-0 c.read.new.p (with_front c.args.items (more_form g.T.Item.form c.args.most c.args.self.now)) c.loop-test.true comma c.takes.ensures.left c.in_ok-read.ensures c.loop.invariant)
