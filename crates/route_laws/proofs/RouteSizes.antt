-- The parameters of a route.
use Rattle.std.proofs.Common.{◌≡◌, ℕ, ◌+◌, ◌<◌, ◌≤◌, List, [], length, Option, Some, None, Result, Ok, Err, refl, ap, arith}
use Rattle.std.specs.Prelude.{codes, ◌==◌}
use Rattle.std.specs.Option.{unwrap_or}
use Rattle.std.specs.List.{find}
use Rattle.std.proofs.lemmas.Bool.{cond_both, eqb-false}
use Rattle.pgw_messages.specs.declared.fault.MsgFault.{MsgFault}
use Rattle.pgw_messages.specs.declared.params.Pair.{Pair}
use Rattle.pgw_messages.specs.Params.{value_of, with_value, without}
use Rattle.pgw_messages.specs.Startup.{params_of}
use Rattle.startup_route.specs.declared.fault.DoorFault.{DoorFault}
use Rattle.startup_route.specs.declared.fault.DoorFault.TheVariants as fault
use Rattle.startup_route.specs.declared.step.Route.{Route}
use Rattle.startup_route.specs.Clusters.{options_left, database_left}
use Rattle.startup_route.specs.Routes.{◌>>=◌, as_pairs, text_of, is_reserved, by_reserved, unreserved, nonempty, cluster_of, tenant_of, or_user, with_options, rewritten, routed, route_of}
use Rattle.route_laws.proofs.Every.{Every, every_any}
use Rattle.route_laws.proofs.Sizes.{size, grown, filtered, text_held, replaced, other_value}
use Rattle.route_laws.proofs.OptionSizes.{options_len, database_len}
use Rattle.route_laws.proofs.PacketSizes.{ParamsIn, params_in}
use Rattle.route_laws.proofs.Unreserved.{HasNoReserved, free_rewritten}

-- ---- without the cluster

options_size : (options : List ℕ) (p : List Pair) → length options ≤ length (text_of (codes "options") p) → size (with_options options p) ≤ size p
options_size options p le =
    cond_both (length options == 0) (without (codes "options") p) (with_value (codes "options") options p) (λ x. size x ≤ size p)
    (λ e. filtered _ p) (λ e. replaced (codes "options") options p (let ne = eqb-false (length options) 0 e in omega (arith, ne)) le)

database_size : (user : List ℕ) (p : List Pair) → length user + 2 ≤ size p → size (with_value (codes "database") (or_user user (database_left (text_of (codes "database") p))) p) ≤ size p + size p + 8
database_size user p u =
    cond_both (length left == 0) user left (λ x. size (with_value (codes "database") x p) ≤ size p + size p + 8)
    (λ e. omega (arith, grown (codes "database") user p, u))
    (λ e. let ne = eqb-false (length left) 0 e in omega (arith, replaced (codes "database") left p (omega (arith, ne)) (database_len (text_of (codes "database") p))))
  where
    left : List ℕ
    left = database_left (text_of (codes "database") p)

-- the parameters of a route to a user
abbrev params_left : List ℕ → List Pair → List Pair
params_left user p = rewritten user (text_of (codes "options") p) (text_of (codes "database") p) p

left_size : (user : List ℕ) (p : List Pair) → length user + 2 ≤ size p → size (params_left user p) ≤ size p + size p + 8
left_size user p u =
    let named : List ℕ = or_user user (database_left (text_of (codes "database") p)) in
    let same : value_of (codes "options") (with_value (codes "database") named p) ≡ value_of (codes "options") p = other_value (codes "options") (codes "database") named p refl in
    let text : length (text_of (codes "options") (with_value (codes "database") named p)) ≡ length (text_of (codes "options") p) = ap (λ (o : Option (List ℕ)). length (unwrap_or o [])) same in
    let fewer = options_size (options_left (text_of (codes "options") p)) (with_value (codes "database") named p) (omega (arith, options_len (text_of (codes "options") p), text)) in
    omega (arith, fewer, database_size user p u)

-- ---- step by step

-- behind a step of the door
every_step : {A B : Type 0} (P : A → Type 0) (Q : B → Type 0) (r : Result A DoorFault) (f : A → Result B DoorFault) → Every P r → ((x : A) → P x → Every Q (f x)) → Every Q (r >>= f)
every_step P Q (Ok x) f h g = g x h
every_step P Q (Err e) f h g = tt

-- the parameters of this route come from a packet with so many bytes behind its version
pub record ComesFrom (n : ℕ) (r : Route) : Type 0 where
  pub short : size r.params ≤ n + n + 6
  pub free : HasNoReserved r.params

as_read : (P : List Pair → Type 0) (r : Result (List Pair) MsgFault) → Every P r → Every P (as_pairs r)
as_read P (Ok p) h = h
as_read P (Err e) h = tt

-- such parameters, with no reserved name
abbrev FreeIn : ℕ → List Pair → Type 0
FreeIn n p = ParamsIn n p × HasNoReserved p

free_in : (n : ℕ) (p : List Pair) → ParamsIn n p → Every (FreeIn n) (unreserved p)
free_in n p h = by (find is_reserved p) refl
  where
    by : (o : Option Pair) → find is_reserved p ≡ o → Every (FreeIn n) (by_reserved p o)
    by (Some q) e = tt
    by None e = (h, e)

abbrev IsSome : List ℕ → List ℕ → Type 0
IsSome text user = (user ≡ text) × (0 < length user)

some_user : (text : List ℕ) → Every (IsSome text) (nonempty text)
some_user text =
    cond_both (length text == 0) (Err fault.NoUser) (Ok text) (Every (IsSome text))
    (λ e. tt) (λ e. (refl, let ne = eqb-false (length text) 0 e in omega (arith, ne)))

left_in : (n : ℕ) (p : List Pair) (user : List ℕ) → FreeIn n p → IsSome (text_of (codes "user") p) user → (size (params_left user p) ≤ n + n + 6) × HasNoReserved (params_left user p)
left_in n p user h u =
    let same : length user ≡ length (text_of (codes "user") p) = ap (λ (t : List ℕ). length t) u.0 in
    let held = text_held (codes "user") p (omega (arith, same, u.1)) in
    (omega (arith, left_size user p (omega (arith, held, same)), h.0), free_rewritten user (text_of (codes "options") p) (text_of (codes "database") p) p h.1)

abbrev ok_route : Route → Result Route DoorFault
ok_route r = Ok r

routed_from : (n : ℕ) (p : List Pair) → FreeIn n p → Every (ComesFrom n) (routed p)
routed_from n p h =
    every_step (IsSome (text_of (codes "user") p)) (ComesFrom n) (nonempty (text_of (codes "user") p))
    (λ user. cluster_of p >>= λ cluster. tenant_of cluster >>= λ tenant. ok_route (record { tenant = tenant; user = user; params = params_left user p }))
    (some_user (text_of (codes "user") p))
    (λ user u.
    every_step (λ x. Unit {0}) (ComesFrom n) (cluster_of p) (λ cluster. tenant_of cluster >>= λ tenant. ok_route (record { tenant = tenant; user = user; params = params_left user p })) (every_any (cluster_of p))
    (λ cluster c.
    every_step (λ x. Unit {0}) (ComesFrom n) (tenant_of cluster) (λ tenant. ok_route (record { tenant = tenant; user = user; params = params_left user p })) (every_any (tenant_of cluster))
    (λ tenant t. let k = left_in n p user h u in record { short = k.0; free = k.1 })))

pub route_from : (body : List ℕ) → Every (ComesFrom (length body)) (route_of body)
unfolding route_of
route_from body =
    every_step (ParamsIn (length body)) (ComesFrom (length body)) (as_pairs (params_of body)) (λ all. unreserved all >>= λ p. routed p) (as_read (ParamsIn (length body)) (params_of body) (params_in body))
    (λ all a. every_step (FreeIn (length body)) (ComesFrom (length body)) (unreserved all) (λ p. routed p) (free_in (length body) all a) (λ p f. routed_from (length body) p f))
