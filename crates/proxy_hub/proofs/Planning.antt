-- The loads of a tenant's pods, and what a plan makes of them.
use Rattle.std.proofs.Common.{◌≡◌, ℕ, zero, suc, ◌<◌, List, [], ◌∷◌, map, length, Option, Some, None, Result, Ok, Err, Bor, refl, sym, ap, ◌∙◌, arith}
use Rattle.std.specs.Prelude.{find, option_map, IfOk, slice_index_or}
use Rattle.std.specs.Option.{option_copied}
use Rattle.std.specs.List.{AllByRecursion}
use Rattle.std.proofs.lemmas.List.{length-map}
use Rattle.std.proofs.lemmas.List.Elements.{All-from_recursion}
use Rattle.pgw_frames.specs.declared.memory.NoMemory.{NoMemory}
use Rattle.tenant_directory.specs.Newest.{pods_of}
use Rattle.tenant_directory.specs.Pods.{IsFit, number_at}
use Rattle.tenant_directory.specs.declared.pod.Pod.{Pod}
use Rattle.pod_balancer.specs.declared.load.Load.{Load}
use Rattle.pod_balancer.specs.declared.homed.Homed.{Homed}
use Rattle.pod_balancer.specs.declared.moves.Move.{Move}
use Rattle.pod_balancer.specs.Picks.{pick_of}
use Rattle.pod_balancer.specs.Plans.{AreApart, AreCounts, sessions_on, plan_of}
use Rattle.session_roster.specs.Rosters.{Roll, homes_of}
use Rattle.session_roster.proofs.Rising.{counts_homes}
use Rattle.proxy_outside.specs.declared.identity.PodNo.{PodNo}
use Rattle.proxy_outside.specs.declared.identity.SessionNo.{SessionNo}
use Rattle.proxy_outside.specs.declared.identity.TenantId.{TenantId}
use Rattle.proxy_outside.specs.declared.place.Place.{Place}
use Rattle.proxy_hub.specs.declared.hub.Hub.{Hub}
use Rattle.proxy_hub.specs.declared.reply.HubReply.TheVariants as say
use Rattle.proxy_hub.specs.Loads.{load_in}
use Rattle.proxy_hub.specs.States.{State, tenant_of, live_of}
use Rattle.proxy_hub.specs.Steps.{load_of, untried, placed, picked, pick_for, plan_by, plan_for, place_of, is_of, heading, target_by, target_for}
use Rattle.proxy_hub.specs.Hubs.{StandsFor}

-- ---- what a plan asks of its loads

none_within : (i : ℕ) → i < 0 → ⊥
none_within i within = omega arith

differs : (i j : ℕ) → i < j → i ≡ j → ⊥
differs i j less same = omega (arith, same)

length_loads : (r : Roll) (t : TenantId) (pods : List Pod) → length (map (load_in r t) pods) ≡ length pods
length_loads r t pods = length-map pods (load_in r t)

number_is : (r : Roll) (t : TenantId) (pods : List Pod) (i : ℕ) (d : Load) → i < length pods → number_at pods i ≡ Some (slice_index_or (map (load_in r t) pods) i d).pod
number_is r t [] i d within = absurd (none_within i within)
number_is r t (p ∷ ps) zero d within = refl
number_is r t (p ∷ ps) (suc i) d within = number_is r t ps i d (omega arith)

pub apart : (r : Roll) (t : TenantId) (pods : List Pod) → IsFit pods → AreApart (map (load_in r t) pods)
apart r t pods fit = λ i j d less within one.
    let short : j < length pods = omega (arith, length_loads r t pods) in
    let at_i = number_is r t pods i d (omega arith) in
    let at_j = number_is r t pods j d short in
    let same : i ≡ j = fit.differ i j (slice_index_or (map (load_in r t) pods) j d).pod (at_i ∙ (λ k. Some (record { 0 = one k }))) at_j in
    differs i j less same

counted : (r : Roll) (t : TenantId) (pods : List Pod) → AllByRecursion (λ (l : Load). l.sessions ≡ sessions_on l.pod (homes_of t r.live)) (map (load_in r t) pods)
counted r t [] = tt
counted r t (p ∷ ps) = (counts_homes t p.place.pod r.live, counted r t ps)

pub are_counts : (r : Roll) (t : TenantId) (pods : List Pod) → AreCounts (map (load_in r t) pods) (homes_of t r.live)
are_counts r t pods = All-from_recursion (λ (l : Load). l.sessions ≡ sessions_on l.pod (homes_of t r.live)) (map (load_in r t) pods) (counted r t pods)

-- ---- the same by the state

pub loads_are : (h : Hub) (s : State) (t : TenantId) (pods : List Pod) → StandsFor h s → map (load_in h.roster t) pods ≡ map (load_of s t) pods
loads_are h s t pods st = ap (λ (r : Roll). map (load_in r t) pods) st.roster

homes_are : (h : Hub) (s : State) (t : TenantId) → StandsFor h s → homes_of t h.roster.live ≡ homes_of t (live_of s)
homes_are h s t st = ap (λ (r : Roll). homes_of t r.live) st.roster

pub pods_are : (s : State) (t : TenantId) (o : Option (Bor (List Pod))) (pods : Bor (List Pod)) → option_copied o ≡ pods_of s.rows t → o ≡ Some pods → pods_of s.rows t ≡ Some pods.now
pods_are s t o pods is some = sym is ∙ ap option_copied some

planned : (h : Hub) (s : State) (t : TenantId) (pods : Bor (List Pod)) (loads : List Load) (homes : List Homed) (moves : List Move) → StandsFor h s → pods_of s.rows t ≡ Some pods.now
    → loads ≡ map (load_in h.roster t) pods.now → homes ≡ homes_of t h.roster.live → moves ≡ plan_of loads homes → moves ≡ plan_for s t
planned h s t pods loads homes moves st some loads_is homes_is is =
    is ∙ ap (λ (ls : List Load). plan_of ls homes) (loads_is ∙ loads_are h s t pods.now st) ∙ ap (plan_of (map (load_of s t) pods.now)) (homes_is ∙ homes_are h s t st) ∙ ap (plan_by s t) (sym some)

pub plans : (h : Hub) (t : TenantId) (o : Option (Bor (List Pod))) (pods : Bor (List Pod)) (loads : List Load) (homes : List Homed) (r : Result (List Move) NoMemory)
    → ((s : State) → StandsFor h s → option_copied o ≡ pods_of s.rows t) → o ≡ Some pods
    → loads ≡ map (load_in h.roster t) pods.now → homes ≡ homes_of t h.roster.live → IfOk r (λ moves. moves ≡ plan_of loads homes)
    → IfOk r (λ moves. (s : State) → StandsFor h s → moves ≡ plan_for s t)
plans h t o pods loads homes (Ok moves) at some loads_is homes_is is = λ s st. planned h s t pods loads homes moves st (pods_are s t o pods (at s st) some) loads_is homes_is is
plans h t o pods loads homes (Err e) at some loads_is homes_is is = tt

-- ---- picks and targets

pub picks : (h : Hub) (s : State) (t : TenantId) (first second : Option PodNo) (o : Option (Bor (List Pod))) (pods : Bor (List Pod)) (loads : List Load) (n : Option PodNo) (place : Option Place) → StandsFor h s
    → option_copied o ≡ pods_of s.rows t → o ≡ Some pods → loads ≡ map (load_in h.roster t) (untried first second pods.now) → n ≡ pick_of loads → place ≡ placed pods.now n
    → picked place ≡ pick_for s t first second (pods_of s.rows t)
picks h s t first second o pods loads n place st at some loads_is n_is place_is =
    ap picked (place_is ∙ ap (placed pods.now) (n_is ∙ ap pick_of (loads_is ∙ loads_are h s t (untried first second pods.now) st))) ∙ ap (pick_for s t first second) (sym (pods_are s t o pods at some))

pub no_target : (s : State) (n : SessionNo) → tenant_of s n ≡ None → say.NoSession ≡ target_for s n (tenant_of s n)
no_target s n none = ap (target_for s n) (sym none)

none_found : (o : Option Move) → option_map (λ (m : Move). m.to) o ≡ None → o ≡ None
none_found None is = refl
none_found (Some m) is = grind (arith)

pub stays : (s : State) (n : SessionNo) (t : TenantId) (moves : List Move) (to : Option PodNo) → tenant_of s n ≡ Some t → moves ≡ plan_for s t → to ≡ option_map (λ (m : Move). m.to) (find (is_of n) moves) → to ≡ None → say.Stay ≡ target_for s n (tenant_of s n)
stays s n t moves to is moves_are to_is none =
    let not_found : find (is_of n) (plan_for s t) ≡ None = none_found (find (is_of n) (plan_for s t)) (ap (λ (ms : List Move). option_map (λ (m : Move). m.to) (find (is_of n) ms)) (sym moves_are) ∙ sym to_is ∙ none) in
    ap (λ (o : Option Move). target_by o (pods_of s.rows t)) (sym not_found) ∙ ap (target_for s n) (sym is)

goes_by : (o : Option Move) (pods : List Pod) (to : PodNo) → option_map (λ (m : Move). m.to) o ≡ Some to → heading (place_of pods to) ≡ target_by o (Some pods)
goes_by None pods to is = grind (arith)
goes_by (Some m) pods to is = ap (λ (x : Option PodNo). heading (placed pods x)) (sym is)

pub goes : (s : State) (n : SessionNo) (t : TenantId) (moves : List Move) (to : PodNo) (o : Option PodNo) (ps : Option (Bor (List Pod))) (pods : Bor (List Pod)) → tenant_of s n ≡ Some t → moves ≡ plan_for s t
    → o ≡ option_map (λ (m : Move). m.to) (find (is_of n) moves) → o ≡ Some to → option_copied ps ≡ pods_of s.rows t → ps ≡ Some pods → heading (place_of pods.now to) ≡ target_for s n (tenant_of s n)
goes s n t moves to o ps pods is moves_are to_is some at there =
    goes_by (find (is_of n) (plan_for s t)) pods.now to (ap (λ (ms : List Move). option_map (λ (m : Move). m.to) (find (is_of n) ms)) (sym moves_are) ∙ sym to_is ∙ some)
    ∙ ap (target_by (find (is_of n) (plan_for s t))) (sym (pods_are s t ps pods at there))
    ∙ ap (target_for s n) (sym is)
