use Rattle.std.proofs.Common.{◌≡◌, ℕ, zero, suc, true, false}
use Rattle.pod_conn.proofs.Coming.{third_over, answered_on, unanswered_over}
use Rattle.pod_conn.proofs.Packets.{request_is_long}
use Rattle.pod_conn.proofs.entrance.refuse.Goals as goal

pub returns-then-left-eq0 : goal.returns-then-left-eq0
returns-then-left-eq0 g c = third_over _ _ c.args.left _ c.requires c.if-left-eq0.true

pub drop_front-requires : goal.drop_front-requires
drop_front-requires g c = request_is_long _ c.requires

pub returns-then-write_all : goal.returns-then-write_all
returns-then-write_all g c = answered_on _ _ c.args.left _ _ _ c.requires c.if-left-eq0.false c.drop_front.ensures c.if-write_all.ensures

pub returns-else-write_all : goal.returns-else-write_all
returns-else-write_all g c = unanswered_over _ _ c.args.left _ _ c.if-write_all.ensures
