use Rattle.std.proofs.Common.{sym, ◌∙◌}
use Rattle.mini_kind.specs.Dumps.{is_quiet, state_in}
use Rattle.mini_kind.specs.Mini.{in_turn}
use Rattle.mini_parts.proofs.Spelled.{dumped_at, without_blob}
use Rattle.mini_parts.proofs.view.View.dump.Goals as goal

pub returns-in-Ok : goal.returns-in-Ok
returns-in-Ok c =
    dumped_at (is_quiet c.args.self.now) (in_turn c.args.self.now.turn) (state_in c.args.self.now) c.in-Ok.blob (sym c.is_quiet.ensures ∙ c.if-not-is_quiet.false) (sym c.in_turn.ensures ∙ c.if-in_turn.false) c.in-Ok.ensures.spelled

pub returns-in-Err : goal.returns-in-Err
returns-in-Err c =
    without_blob (is_quiet c.args.self.now) (in_turn c.args.self.now.turn) (state_in c.args.self.now) _ c.without_blob.result (sym c.is_quiet.ensures ∙ c.if-not-is_quiet.false) (sym c.in_turn.ensures ∙ c.if-in_turn.false) c.in-Err.ensures.value c.without_blob.ensures
