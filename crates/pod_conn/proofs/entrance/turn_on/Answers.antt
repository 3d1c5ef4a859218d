use Rattle.std.proofs.Common.{◌≡◌, ◌∙◌, ap, sym}
use Rattle.pod_conn.specs.Packets.{packet_of}
use Rattle.pod_conn.proofs.Coming.{cancel_over, unfit_over, lacking_over, came_in}
use Rattle.pod_conn.proofs.Packets.{startup_is_long}
use Rattle.pod_conn.proofs.entrance.turn_on.Goals as goal

pub drop_front-requires : goal.drop_front-requires
drop_front-requires g c = startup_is_long _ c.in-Ok-Starting.params c.in-Ok-Starting.len (sym (sym c.in-Ok-Starting.field-0-is ∙ c.in-Ok-Starting.ensures ∙ ap packet_of c.as_slice.ensures))

pub returns-in-Ok-Cancelling : goal.returns-in-Ok-Cancelling
returns-in-Ok-Cancelling g c = cancel_over _ _ c.args.left _ (sym c.in-Ok-Cancelling.field-0-is ∙ c.in-Ok-Cancelling.ensures ∙ ap packet_of c.as_slice.ensures)

pub returns-in-Ok-Starting : goal.returns-in-Ok-Starting
returns-in-Ok-Starting g c = came_in _ _ c.args.left c.in-Ok-Starting.params c.in-Ok-Starting.len _ _ (sym c.in-Ok-Starting.field-0-is ∙ c.in-Ok-Starting.ensures ∙ ap packet_of c.as_slice.ensures) c.drop_front.ensures

pub returns-in-Ok-Unfit : goal.returns-in-Ok-Unfit
returns-in-Ok-Unfit g c = unfit_over _ _ c.args.left _ (sym c.in-Ok-Unfit.field-0-is ∙ c.in-Ok-Unfit.ensures ∙ ap packet_of c.as_slice.ensures)

pub returns-in-Err : goal.returns-in-Err
returns-in-Err g c = lacking_over _ _ c.args.left _
