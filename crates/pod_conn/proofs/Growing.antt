-- Further bytes and further answers add to what is written.
use Rattle.std.proofs.Common.{◌≡◌, ℕ, zero, suc, ◌+◌, Bool, true, false, List, [], ◌∷◌, ◌++◌, drop, Option, Some, None, refl, ap, sym, subst, ◌∙◌, append_assoc, append-nil, arith}
use Rattle.std.specs.Prelude.{◌==◌, if◌then◌else◌, replicate}
use Rattle.std.proofs.lemmas.List.{drop-append-le, replicate-append-replicate}
use Rattle.pgw_frames.specs.declared.frame.Frame.{Frame}
use Rattle.pgw_frames.specs.Frames.{Front, Whole, Partial, Malformed, front, frames, rest, Begins, frame_bytes, render}
use Rattle.pgw_frames.proofs.Fronts.{frames-append, whole-append, bad-append}
use Rattle.pgw_messages.specs.Params.{value_of}
use Rattle.pgw_messages.specs.Tags as tag
use Rattle.pgw_messages.specs.declared.params.Pair.{Pair}
use Rattle.session_model.specs.Kind.{Kind}
use Rattle.pod_conn.specs.declared.fatal.Fatal.{Fatal}
use Rattle.pod_conn.specs.declared.packet.Packet.{Packet}
use Rattle.pod_conn.specs.declared.packet.Packet.TheVariants.{Part, Request, Cancelling, Starting, Unfit}
use Rattle.pod_conn.specs.declared.settings.PodSettings.{PodSettings}
use Rattle.pod_conn.specs.Courses.{Standing, Left, Course, stands}
use Rattle.pod_conn.specs.Packets.{packet_of}
use Rattle.pod_conn.specs.Entrances.{Nobody, Visitor, Canceller, Stranger, Entrance, comes, entrance_with}
use Rattle.pod_conn.specs.Logins.{user_name, revival_name, session_params, login_fault, token_fault, password_request, unless, by_password, by_token, login_with, login}
use Rattle.pod_conn.specs.Sessions.{answered, told, served, begun, ending}
use Rattle.pod_conn.specs.Replies.{logged_in, received, course_of, conn_course}
use Rattle.pod_conn.specs.Coming.{says_behind}
use Rattle.pod_conn.specs.Growing.{RepliesGrow}
use Rattle.pod_conn.proofs.Packets.{packet_stays, request_is_long, startup_is_long}
use Rattle.pod_conn.proofs.Coming.{last_is, third_is, request_is}

nothing : (ys : List ℕ) → Begins [] ys
nothing ys = (ys, refl)

same : (xs : List ℕ) → Begins xs xs
same xs = ([], append-nil xs)

behind_grows : (w xs ys : List ℕ) → Begins xs ys → Begins (w ++ xs) (w ++ ys)
behind_grows w xs ys b = (b.0, append_assoc w xs b.0 ∙ ap (λ v. w ++ v) b.1)

module _ {S C R : Type 0} (k : Kind S C R) where
  -- ---- messages

  answered_grows : (s : S) (f : Frame) (o : Option C) (rs os : List R) (next other : S → List R → Course C R) → ((t : S) (q : List R) → Begins (next t q).written (other t (q ++ os)).written)
      → Begins (answered k s f o rs next).written (answered k s f o (rs ++ os) other).written
  answered_grows s f None rs os next other h = behind_grows (render (k.tells s f None).1) (next (k.tells s f None).0 rs).written (other (k.tells s f None).0 (rs ++ os)).written (h (k.tells s f None).0 rs)
  answered_grows s f (Some c) [] os next other h = nothing (answered k s f (Some c) os other).written
  answered_grows s f (Some c) (a ∷ rs) os next other h = behind_grows (render (k.tells s f (Some a)).1) (next (k.tells s f (Some a)).0 rs).written (other (k.tells s f (Some a)).0 (rs ++ os)).written (h (k.tells s f (Some a)).0 rs)

  if_grows : (b : Bool) (x y : Course C R) → Begins x.written y.written → Begins (if b then stands Left else x).written (if b then stands Left else y).written
  if_grows true x y h = nothing []
  if_grows false x y h = h

  told_grows : (fs gs : List Frame) (s : S) (end more : Standing) (rs os : List R) → Begins (told k s fs end rs).written (told k s (fs ++ gs) more (rs ++ os)).written
  told_grows [] gs s end more rs os = nothing (told k s gs more (rs ++ os)).written
  told_grows (f ∷ fs) gs s end more rs os =
      answered_grows s f (k.asks s f) rs os (λ t q. if f.tag == tag.terminate then stands Left else told k t fs end q) (λ t q. if f.tag == tag.terminate then stands Left else told k t (fs ++ gs) more q)
      (λ t q. if_grows (f.tag == tag.terminate) (told k t fs end q) (told k t (fs ++ gs) more (q ++ os)) (told_grows fs gs t end more q os))

  served_grows : (s : S) (b x : List ℕ) (rs os : List R) → Begins (served k s b rs).written (served k s (b ++ x) (rs ++ os)).written
  served_grows s b x rs os =
      subst (λ (fs : List Frame). Begins (served k s b rs).written (told k s fs (ending (b ++ x)) (rs ++ os)).written) (sym (frames-append b x))
      (told_grows (frames b) (frames (rest b ++ x)) s (ending b) (ending (b ++ x)) rs os)

  begun_grows : (p : List Pair) (b x : List ℕ) (rs os : List R) → Begins (begun k p b rs).written (begun k p (b ++ x) (rs ++ os)).written
  begun_grows p b x rs os = behind_grows (render (k.begins p).1) (served k (k.begins p).0 b rs).written (served k (k.begins p).0 (b ++ x) (rs ++ os)).written (served_grows (k.begins p).0 b x rs os)

  module _ (pod : PodSettings) (now : ℕ) where
    -- ---- the login

    unless_grows : (o : Option Fatal) (q : List Pair) (b x : List ℕ) (rs os : List R) → Begins (logged_in k pod (unless o q b) rs).written (logged_in k pod (unless o q (b ++ x)) (rs ++ os)).written
    unless_grows None q b x rs os = begun_grows q b x rs os
    unless_grows (Some why) q b x rs os = same (logged_in k pod (unless (Some why) q b) rs).written

    password_grows : (user : Option (List ℕ)) (q : List Pair) (a : Front) (b x : List ℕ) (rs os : List R) → front b ≡ a
        → Begins (logged_in k pod (by_token pod now user None q b) rs).written (logged_in k pod (by_token pod now user None q (b ++ x)) (rs ++ os)).written
    password_grows user q (Whole f others) b x rs os e =
        rw (e, whole-append b x f others e) (behind_grows password_request (logged_in k pod (unless (login_fault pod user f) q others) rs).written (logged_in k pod (unless (login_fault pod user f) q (others ++ x)) (rs ++ os)).written
        (unless_grows (login_fault pod user f) q others x rs os))
    password_grows user q Partial b x rs os e = rw e (behind_grows password_request [] (logged_in k pod (by_password pod user q (front (b ++ x)) (b ++ x)) (rs ++ os)).written (nothing (logged_in k pod (by_password pod user q (front (b ++ x)) (b ++ x)) (rs ++ os)).written))
    password_grows user q (Malformed n) b x rs os e = rw (e, bad-append b x n e) (same password_request)

    token_grows : (user token : Option (List ℕ)) (q : List Pair) (b x : List ℕ) (rs os : List R)
        → Begins (logged_in k pod (by_token pod now user token q b) rs).written (logged_in k pod (by_token pod now user token q (b ++ x)) (rs ++ os)).written
    token_grows user (Some text) q b x rs os = unless_grows (token_fault pod now user text) q b x rs os
    token_grows user None q b x rs os = password_grows user q (front b) b x rs os refl

    with_grows : (p : List Pair) (o : Option (List Pair)) (b x : List ℕ) (rs os : List R)
        → Begins (logged_in k pod (login_with pod now p o b) rs).written (logged_in k pod (login_with pod now p o (b ++ x)) (rs ++ os)).written
    with_grows p None b x rs os = nothing []
    with_grows p (Some q) b x rs os = token_grows (value_of user_name p) (value_of revival_name p) q b x rs os

    -- ---- the entrance

    abbrev out : Entrance → List R → List ℕ
    out e rs = (course_of k pod now e rs).written

    at_grows : (e f : Entrance) (b c : Entrance) (rs os : List R) → b ≡ e → c ≡ f → Begins (out e rs) (out f (rs ++ os)) → Begins (out b rs) (out c (rs ++ os))
    at_grows e f b c rs os p q h = rw (p, q) h

    out_more : (e : Entrance) (rs : List R) → out (says_behind 1 e) rs ≡ 78 ∷ out e rs
    out_more e rs = ap (λ (v : List ℕ). v ++ (received k pod now e.comer rs).written) (sym (replicate-append-replicate 1 e.says 78))

    more_grows : (e f : Entrance) (rs os : List R) → Begins (out e rs) (out f (rs ++ os)) → Begins (out (says_behind 1 e) rs) (out (says_behind 1 f) (rs ++ os))
    more_grows e f rs os h = rw (out_more e rs, out_more f (rs ++ os)) (behind_grows (78 ∷ []) (out e rs) (out f (rs ++ os)) h)

    enter_by : (left : ℕ) (b x : List ℕ) (rs os : List R) (q : Packet) → packet_of b ≡ q
        → ((l : ℕ) → left ≡ suc l → Begins (out (entrance_with l (drop 8 b)) rs) (out (entrance_with l (drop 8 b ++ x)) (rs ++ os))) → Begins (out (entrance_with left b) rs) (out (entrance_with left (b ++ x)) (rs ++ os))
    enter_by left b x rs os Part e h = at_grows (comes (Nobody b)) (entrance_with left (b ++ x)) (entrance_with left b) (entrance_with left (b ++ x)) rs os (last_is left b Part e tt) refl (nothing (out (entrance_with left (b ++ x)) (rs ++ os)))
    enter_by zero b x rs os Request e h =
        at_grows (comes Stranger) (comes Stranger) (entrance_with 0 b) (entrance_with 0 (b ++ x)) rs os (third_is b e) (third_is (b ++ x) (packet_stays b x Request e tt)) (nothing [])
    enter_by (suc left) b x rs os Request e h =
        at_grows (says_behind 1 (entrance_with left (drop 8 b))) (says_behind 1 (entrance_with left (drop 8 b ++ x))) (entrance_with (suc left) b) (entrance_with (suc left) (b ++ x)) rs os
        (request_is left b e)
        (request_is left (b ++ x) (packet_stays b x Request e tt) ∙ ap (λ v. says_behind 1 (entrance_with left v)) (drop-append-le 8 b x (request_is_long b e)))
        (more_grows (entrance_with left (drop 8 b)) (entrance_with left (drop 8 b ++ x)) rs os (h left refl))
    enter_by left b x rs os Cancelling e h = at_grows (comes Canceller) (entrance_with left (b ++ x)) (entrance_with left b) (entrance_with left (b ++ x)) rs os (last_is left b Cancelling e tt) refl (nothing (out (entrance_with left (b ++ x)) (rs ++ os)))
    enter_by left b x rs os Unfit e h = at_grows (comes Stranger) (entrance_with left (b ++ x)) (entrance_with left b) (entrance_with left (b ++ x)) rs os (last_is left b Unfit e tt) refl (nothing (out (entrance_with left (b ++ x)) (rs ++ os)))
    enter_by left b x rs os (Starting p len) e h =
        at_grows (comes (Visitor p (drop len b))) (comes (Visitor p (drop len b ++ x))) (entrance_with left b) (entrance_with left (b ++ x)) rs os
        (last_is left b (Starting p len) e tt)
        (last_is left (b ++ x) (Starting p len) (packet_stays b x (Starting p len) e tt) tt ∙ ap (λ v. comes (Visitor p v)) (drop-append-le len b x (startup_is_long b p len e)))
        (with_grows p (session_params pod p) (drop len b) x rs os)

    enter_grows : (left : ℕ) (b x : List ℕ) (rs os : List R) → Begins (out (entrance_with left b) rs) (out (entrance_with left (b ++ x)) (rs ++ os))
    enter_grows zero b x rs os = enter_by 0 b x rs os (packet_of b) refl (λ l e. absurd cc)
    enter_grows (suc left) b x rs os =
        enter_by (suc left) b x rs os (packet_of b) refl
        (λ l e. let is : left ≡ l = omega arith in subst (λ (n : ℕ). Begins (out (entrance_with n (drop 8 b)) rs) (out (entrance_with n (drop 8 b ++ x)) (rs ++ os))) is (enter_grows left (drop 8 b) x rs os))

  pub replies_grow : RepliesGrow k
  replies_grow pod now b more rs others = enter_grows pod now 2 b more rs others
