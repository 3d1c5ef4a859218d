-- The route with which bytes are answered.
use Rattle.std.proofs.Common.{◌≡◌, ℕ, zero, suc, ◌-◌, ◌≤◌, Bool, true, false, List, length, take, drop, Result, Ok, Err, refl, subst, arith}
use Rattle.std.specs.Prelude.{◌==◌, ◌||◌, nat_lt, if◌then◌else◌}
use Rattle.std.proofs.lemmas.Bool.{cond_both, ltb-false}
use Rattle.std.proofs.lemmas.List.{length-take}
use Rattle.startup_route.specs.declared.fault.DoorFault.{DoorFault}
use Rattle.startup_route.specs.declared.fault.DoorFault.TheVariants as fault
use Rattle.startup_route.specs.declared.step.DoorStep.{DoorStep}
use Rattle.startup_route.specs.declared.step.DoorStep.TheVariants as step
use Rattle.startup_route.specs.declared.step.Route.{Route}
use Rattle.startup_route.specs.Entrances.{Entrance, behind, entrance_with, entrance}
use Rattle.startup_route.specs.Packets.{word_at, kind_of, answer_left, encryption_step, cancel_step, opened, startup_step, step_by, step_with, step_of}
use Rattle.startup_route.specs.Routes.{route_of}
use Rattle.route_laws.specs.Laws.{RoutesAreShort, RoutesFit, RoutesNameNothingReserved, RoutesHaveNoToken}
use Rattle.route_laws.proofs.Every.{Every}
use Rattle.route_laws.proofs.Sizes.{packet_size}
use Rattle.route_laws.proofs.RouteSizes.{ComesFrom, route_from}
use Rattle.route_laws.proofs.Unreserved.{no_value}

-- a route of a packet of at most 10,000 bytes, 8 of them before its parameters
abbrev Small : Route → Type 0
Small r = ComesFrom 9992 r

abbrev Answers : DoorStep → Type 0
Answers (step.Ready r) = Small r
Answers step.Need = Unit {0}
Answers step.Say = Unit {0}
Answers (step.Cancel k) = Unit {0}
Answers (step.Refused f) = Unit {0}

opens : (n : ℕ) (r : Result Route DoorFault) → n ≤ 9992 → Every (ComesFrom n) r → Answers (opened r)
opens n (Ok route) le h = record { short = omega (arith, h.short, le); free = h.free }
opens n (Err f) le h = tt

starts : (len : ℕ) (b : List ℕ) → len ≤ 10000 → Answers (startup_step len b)
starts len b le =
    cond_both (len == 8) (step.Refused (fault.BadLength len)) (if nat_lt (length b) len then step.Need else opened (route_of body)) Answers (λ e. tt)
    (λ e. cond_both (nat_lt (length b) len) step.Need (opened (route_of body)) Answers (λ f. tt)
    (λ f. opens (length body) (route_of body) (omega (arith, length-take (len - 8) (drop 8 b), le)) (route_from body)))
  where
    body : List ℕ
    body = take (len - 8) (drop 8 b)

left_answers : (left : ℕ) → Answers (answer_left left)
left_answers zero = tt
left_answers (suc left) = tt

encrypts : (left len : ℕ) → Answers (encryption_step left len)
encrypts left len = cond_both (len == 8) (answer_left left) (step.Refused (fault.BadLength len)) Answers (λ e. left_answers left) (λ e. tt)

cancels : (len : ℕ) (b : List ℕ) → Answers (cancel_step len b)
cancels len b =
    cond_both (len == 16) (if nat_lt (length b) 16 then step.Need else step.Cancel (record { process = word_at 8 b; secret = word_at 12 b })) (step.Refused (fault.BadLength len)) Answers
    (λ e. cond_both (nat_lt (length b) 16) step.Need (step.Cancel (record { process = word_at 8 b; secret = word_at 12 b })) Answers (λ f. tt) (λ f. tt)) (λ e. tt)

-- whichever kind the code is of
of_kind : (code left len : ℕ) (b : List ℕ) (x y z : Bool) → (code == 80877103 || code == 80877104) ≡ x → (code == 80877102) ≡ y → (code == 196608) ≡ z → len ≤ 10000 → Answers (step_by (kind_of code) left len b)
of_kind code left len b true y z e f g le = rw e (encrypts left len)
of_kind code left len b false true z e f g le = rw (e, f) (cancels len b)
of_kind code left len b false false true e f g le = rw (e, f, g) (starts len b le)
of_kind code left len b false false false e f g le = rw (e, f, g) tt

with_len : (len left : ℕ) (b : List ℕ) → Answers (step_with len left b)
with_len len left b =
    cond_both (nat_lt 10000 len) (step.Refused (fault.TooLong len)) short Answers (λ e. tt)
    (λ e. cond_both (nat_lt len 8) (step.Refused (fault.BadLength len)) whole Answers (λ f. tt)
    (λ f. cond_both (nat_lt (length b) 8) step.Need (step_by (kind_of (word_at 4 b)) left len b) Answers (λ g. tt)
    (λ g. of_kind (word_at 4 b) left len b _ _ _ refl refl refl (let most = ltb-false 10000 len e in omega (arith, most)))))
  where
    whole : DoorStep
    whole = if nat_lt (length b) 8 then step.Need else step_by (kind_of (word_at 4 b)) left len b

    short : DoorStep
    short = if nat_lt len 8 then step.Refused (fault.BadLength len) else whole

of_step : (left : ℕ) (b : List ℕ) → Answers (step_of left b)
unfolding step_of
of_step left b = cond_both (nat_lt (length b) 4) step.Need (step_with (word_at 0 b) left b) Answers (λ e. tt) (λ e. with_len (word_at 0 b) left b)

behind_step : (s : DoorStep) (next : Entrance) → Answers s → Answers next.step → Answers (behind s next).step
behind_step step.Say next h k = k
behind_step step.Need next h k = tt
behind_step (step.Ready r) next h k = h
behind_step (step.Cancel c) next h k = tt
behind_step (step.Refused f) next h k = tt

of_entrance : (left : ℕ) (b : List ℕ) → Answers (entrance_with left b).step
unfolding entrance_with
of_entrance zero b = of_step 0 b
of_entrance (suc left) b = behind_step (step_of (suc left) b) (entrance_with left (drop 8 b)) (of_step (suc left) b) (of_entrance left (drop 8 b))

small : (fed : List ℕ) (r : Route) → (entrance fed).step ≡ step.Ready r → Small r
small fed r e = subst Answers e (of_entrance 2 fed)

-- ---- the laws

pub routes_short : RoutesAreShort
routes_short fed r e = omega (arith, packet_size r.params, (small fed r e).short)

pub routes_fit : RoutesFit
routes_fit fed r e = omega (arith, routes_short fed r e)

pub routes_unreserved : RoutesNameNothingReserved
routes_unreserved fed r name e reserved = no_value name r.params reserved (small fed r e).free

pub routes_tokenless : RoutesHaveNoToken
routes_tokenless fed r e = routes_unreserved fed r _ e refl
