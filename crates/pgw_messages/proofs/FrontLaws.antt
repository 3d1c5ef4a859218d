-- The messages of a client, both ways.
use Rattle.std.proofs.Common.{◌≡◌, ℕ, List, Ok, Err, Result, refl, ap, subst, ◌∙◌}
use Rattle.std.specs.Prelude.{IfOk}
use Rattle.pgw_frames.specs.Frames.{IsBytes}
use Rattle.pgw_frames.specs.declared.frame.Frame.{Frame}
use Rattle.pgw_messages.specs.declared.fault.MsgFault.{MsgFault}
use Rattle.pgw_messages.specs.declared.frontend.message.FrontMsg.{FrontMsg}
use Rattle.pgw_messages.specs.declared.frontend.message.FrontMsg.TheVariants as front
use Rattle.pgw_messages.specs.Reading.{Gives, whole}
use Rattle.pgw_messages.specs.Spelling.{Spells}
use Rattle.pgw_messages.specs.Frontend.{front_at, front_of, front_tag, front_body, front_frame, IsFront}
use Rattle.pgw_messages.proofs.Codecs.{text}
use Rattle.pgw_messages.proofs.FrontCodecs.{parse, bind, part, execute}
use Rattle.pgw_messages.proofs.Arms.{body_of, nothing, remaining, arm, arm_again}

-- what is read is spelled so
pub front_found : (tag : ℕ) (b : List ℕ) (m : FrontMsg) → IsBytes b → whole (front_at tag b) ≡ Ok m → Spells front_tag front_body IsFront tag b m
front_found tag b m fits e =
    arm (body_of text) front_tag front_body IsFront front.Query 81 (record { tag = λ x. refl; body = λ x. refl; good = λ x is. is }) tag b m _ fits e (λ e1.
    arm (body_of parse) front_tag front_body IsFront front.Parse 80 (record { tag = λ x. refl; body = λ x. refl; good = λ x is. is }) tag b m _ fits e1 (λ e2.
    arm (body_of bind) front_tag front_body IsFront front.Bind 66 (record { tag = λ x. refl; body = λ x. refl; good = λ x is. is }) tag b m _ fits e2 (λ e3.
    arm (body_of part) front_tag front_body IsFront front.Describe 68 (record { tag = λ x. refl; body = λ x. refl; good = λ x is. is }) tag b m _ fits e3 (λ e4.
    arm (body_of execute) front_tag front_body IsFront front.Execute 69 (record { tag = λ x. refl; body = λ x. refl; good = λ x is. is }) tag b m _ fits e4 (λ e5.
    arm nothing front_tag front_body IsFront (λ u. front.Sync) 83 (record { tag = λ x. refl; body = λ x. refl; good = λ x is. is }) tag b m _ fits e5 (λ e6.
    arm nothing front_tag front_body IsFront (λ u. front.Flush) 72 (record { tag = λ x. refl; body = λ x. refl; good = λ x is. is }) tag b m _ fits e6 (λ e7.
    arm (body_of part) front_tag front_body IsFront front.Close 67 (record { tag = λ x. refl; body = λ x. refl; good = λ x is. is }) tag b m _ fits e7 (λ e8.
    arm remaining front_tag front_body IsFront front.Call 70 (record { tag = λ x. refl; body = λ x. refl; good = λ x is. is }) tag b m _ fits e8 (λ e9.
    arm remaining front_tag front_body IsFront front.CopyData 100 (record { tag = λ x. refl; body = λ x. refl; good = λ x is. is }) tag b m _ fits e9 (λ e10.
    arm nothing front_tag front_body IsFront (λ u. front.CopyDone) 99 (record { tag = λ x. refl; body = λ x. refl; good = λ x is. is }) tag b m _ fits e10 (λ e11.
    arm (body_of text) front_tag front_body IsFront front.CopyFail 102 (record { tag = λ x. refl; body = λ x. refl; good = λ x is. is }) tag b m _ fits e11 (λ e12.
    arm remaining front_tag front_body IsFront front.Password 112 (record { tag = λ x. refl; body = λ x. refl; good = λ x is. is }) tag b m _ fits e12 (λ e13.
    arm nothing front_tag front_body IsFront (λ u. front.Terminate) 88 (record { tag = λ x. refl; body = λ x. refl; good = λ x is. is }) tag b m _ fits e13 (λ e14.
    absurd cc))))))))))))))

-- what is spelled so is read
pub front_again : (m : FrontMsg) → IsFront m → front_of (front_frame m) ≡ Ok m
unfolding front_of
front_again (front.Query x) is = arm_again (body_of text) front.Query x is
front_again (front.Parse x) is = arm_again (body_of parse) front.Parse x is
front_again (front.Bind x) is = arm_again (body_of bind) front.Bind x is
front_again (front.Describe x) is = arm_again (body_of part) front.Describe x is
front_again (front.Execute x) is = arm_again (body_of execute) front.Execute x is
front_again front.Sync is = refl
front_again front.Flush is = refl
front_again (front.Close x) is = arm_again (body_of part) front.Close x is
front_again (front.Call x) is = arm_again remaining front.Call x is
front_again (front.CopyData x) is = arm_again remaining front.CopyData x is
front_again front.CopyDone is = refl
front_again (front.CopyFail x) is = arm_again (body_of text) front.CopyFail x is
front_again (front.Password x) is = arm_again remaining front.Password x is
front_again front.Terminate is = refl

-- the same, as the answer of a call
pub front_only : (f : Frame) (r : Result FrontMsg MsgFault) → Gives r (front_of f) → (m : FrontMsg) → IsFront m → f ≡ front_frame m → Gives r (Ok m)
front_only f r given m is e = subst (λ (read : Result FrontMsg MsgFault). Gives r read) (ap front_of e ∙ front_again m is) given

frame_is : (f : Frame) (m : FrontMsg) → Spells front_tag front_body IsFront f.tag f.body m → IsFront m × (f ≡ front_frame m)
frame_is f m s = (s.good, λ i. record { tag = s.tag i; body = s.body i })

pub front_spelled : (f : Frame) (r : Result FrontMsg MsgFault) → IfOk r (Spells front_tag front_body IsFront f.tag f.body) → IfOk r (λ m. IsFront m × (f ≡ front_frame m))
front_spelled f (Ok m) s = frame_is f m s
front_spelled f (Err e) s = tt
