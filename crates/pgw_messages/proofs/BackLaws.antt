-- The messages of a server, both ways.
use Rattle.std.proofs.Common.{◌≡◌, ℕ, List, [], Ok, Err, Result, refl, ap, subst, ◌∙◌}
use Rattle.std.specs.Prelude.{IfOk}
use Rattle.pgw_frames.specs.Frames.{IsBytes}
use Rattle.pgw_frames.specs.declared.frame.Frame.{Frame}
use Rattle.pgw_messages.specs.declared.fault.MsgFault.{MsgFault}
use Rattle.pgw_messages.specs.declared.backend.auth.AuthMsg.{AuthMsg}
use Rattle.pgw_messages.specs.declared.backend.message.BackMsg.{BackMsg}
use Rattle.pgw_messages.specs.declared.backend.message.BackMsg.TheVariants as back
use Rattle.pgw_messages.specs.Reading.{Gives, whole}
use Rattle.pgw_messages.specs.Spelling.{Spells}
use Rattle.pgw_messages.specs.Backend.{auth_at, auth_bytes, IsAuth, back_at, back_of, back_tag, back_body, back_frame, IsBack}
use Rattle.pgw_messages.proofs.Codecs.{step, again_then, ok_is, number32, text, types, values}
use Rattle.pgw_messages.proofs.BackCodecs.{key, columns, notify, copy, pair, ready}
use Rattle.pgw_messages.proofs.EndedCodecs.{fields}
use Rattle.pgw_messages.proofs.Arms.{Body, body_of, nothing, arm, arm_again}

-- a code and all that it brings with it
auth_takes : (b : List ℕ) (m : AuthMsg) → IsBytes b → auth_at b ≡ Ok (m, []) → (b ≡ auth_bytes m) × IsAuth m
auth_takes b m fits e =
    let code = step number32 b _ (m, []) fits e in
    let made : AuthMsg = record { code = code.value; rest = code.rest } in
    let same : made ≡ m = ap (λ (p : AuthMsg × List ℕ). p.0) (ok_is (made, []) (m, []) code.next) in
    subst (λ (n : AuthMsg). (b ≡ auth_bytes n) × IsAuth n) same (code.takes.parts, record { code = code.is })

auth_again : (m : AuthMsg) → IsAuth m → auth_at (auth_bytes m) ≡ Ok (m, [])
auth_again m is = again_then number32 m.code m.rest _ is.code

auth : Body auth_at auth_bytes IsAuth
auth = record { takes = auth_takes; again = auth_again }

-- what is read is spelled so
pub back_found : (tag : ℕ) (b : List ℕ) (m : BackMsg) → IsBytes b → whole (back_at tag b) ≡ Ok m → Spells back_tag back_body IsBack tag b m
back_found tag b m fits e =
    arm auth back_tag back_body IsBack back.Auth 82 (record { tag = λ x. refl; body = λ x. refl; good = λ x is. is }) tag b m _ fits e (λ e1.
    arm (body_of pair) back_tag back_body IsBack back.Status 83 (record { tag = λ x. refl; body = λ x. refl; good = λ x is. is }) tag b m _ fits e1 (λ e2.
    arm (body_of key) back_tag back_body IsBack back.Key 75 (record { tag = λ x. refl; body = λ x. refl; good = λ x is. is }) tag b m _ fits e2 (λ e3.
    arm (body_of ready) back_tag back_body IsBack back.Ready 90 (record { tag = λ x. refl; body = λ x. refl; good = λ x is. is }) tag b m _ fits e3 (λ e4.
    arm (body_of columns) back_tag back_body IsBack back.Columns 84 (record { tag = λ x. refl; body = λ x. refl; good = λ x is. is }) tag b m _ fits e4 (λ e5.
    arm (body_of values) back_tag back_body IsBack back.Row 68 (record { tag = λ x. refl; body = λ x. refl; good = λ x is. is }) tag b m _ fits e5 (λ e6.
    arm (body_of text) back_tag back_body IsBack back.Complete 67 (record { tag = λ x. refl; body = λ x. refl; good = λ x is. is }) tag b m _ fits e6 (λ e7.
    arm nothing back_tag back_body IsBack (λ u. back.Empty) 73 (record { tag = λ x. refl; body = λ x. refl; good = λ x is. is }) tag b m _ fits e7 (λ e8.
    arm (body_of fields) back_tag back_body IsBack back.Fault 69 (record { tag = λ x. refl; body = λ x. refl; good = λ x is. is }) tag b m _ fits e8 (λ e9.
    arm (body_of fields) back_tag back_body IsBack back.Notice 78 (record { tag = λ x. refl; body = λ x. refl; good = λ x is. is }) tag b m _ fits e9 (λ e10.
    arm (body_of notify) back_tag back_body IsBack back.Notify 65 (record { tag = λ x. refl; body = λ x. refl; good = λ x is. is }) tag b m _ fits e10 (λ e11.
    arm nothing back_tag back_body IsBack (λ u. back.ParseDone) 49 (record { tag = λ x. refl; body = λ x. refl; good = λ x is. is }) tag b m _ fits e11 (λ e12.
    arm nothing back_tag back_body IsBack (λ u. back.BindDone) 50 (record { tag = λ x. refl; body = λ x. refl; good = λ x is. is }) tag b m _ fits e12 (λ e13.
    arm nothing back_tag back_body IsBack (λ u. back.CloseDone) 51 (record { tag = λ x. refl; body = λ x. refl; good = λ x is. is }) tag b m _ fits e13 (λ e14.
    arm (body_of types) back_tag back_body IsBack back.ParamTypes 116 (record { tag = λ x. refl; body = λ x. refl; good = λ x is. is }) tag b m _ fits e14 (λ e15.
    arm nothing back_tag back_body IsBack (λ u. back.NoRows) 110 (record { tag = λ x. refl; body = λ x. refl; good = λ x is. is }) tag b m _ fits e15 (λ e16.
    arm nothing back_tag back_body IsBack (λ u. back.Suspended) 115 (record { tag = λ x. refl; body = λ x. refl; good = λ x is. is }) tag b m _ fits e16 (λ e17.
    arm (body_of copy) back_tag back_body IsBack back.CopyIn 71 (record { tag = λ x. refl; body = λ x. refl; good = λ x is. is }) tag b m _ fits e17 (λ e18.
    absurd cc))))))))))))))))))

-- what is spelled so is read
pub back_again : (m : BackMsg) → IsBack m → back_of (back_frame m) ≡ Ok m
unfolding back_of
back_again (back.Auth x) is = arm_again auth back.Auth x is
back_again (back.Status x) is = arm_again (body_of pair) back.Status x is
back_again (back.Key x) is = arm_again (body_of key) back.Key x is
back_again (back.Ready x) is = arm_again (body_of ready) back.Ready x is
back_again (back.Columns x) is = arm_again (body_of columns) back.Columns x is
back_again (back.Row x) is = arm_again (body_of values) back.Row x is
back_again (back.Complete x) is = arm_again (body_of text) back.Complete x is
back_again back.Empty is = refl
back_again (back.Fault x) is = arm_again (body_of fields) back.Fault x is
back_again (back.Notice x) is = arm_again (body_of fields) back.Notice x is
back_again (back.Notify x) is = arm_again (body_of notify) back.Notify x is
back_again back.ParseDone is = refl
back_again back.BindDone is = refl
back_again back.CloseDone is = refl
back_again (back.ParamTypes x) is = arm_again (body_of types) back.ParamTypes x is
back_again back.NoRows is = refl
back_again back.Suspended is = refl
back_again (back.CopyIn x) is = arm_again (body_of copy) back.CopyIn x is

-- the same, as the answer of a call
pub back_only : (f : Frame) (r : Result BackMsg MsgFault) → Gives r (back_of f) → (m : BackMsg) → IsBack m → f ≡ back_frame m → Gives r (Ok m)
back_only f r given m is e = subst (λ (read : Result BackMsg MsgFault). Gives r read) (ap back_of e ∙ back_again m is) given

frame_is : (f : Frame) (m : BackMsg) → Spells back_tag back_body IsBack f.tag f.body m → IsBack m × (f ≡ back_frame m)
frame_is f m s = (s.good, λ i. record { tag = s.tag i; body = s.body i })

pub back_spelled : (f : Frame) (r : Result BackMsg MsgFault) → IfOk r (Spells back_tag back_body IsBack f.tag f.body) → IfOk r (λ m. IsBack m × (f ≡ back_frame m))
back_spelled f (Ok m) s = frame_is f m s
back_spelled f (Err e) s = tt
