-- One plan that is asked for.
use Rattle.std.proofs.Common.{◌≡◌, ◌==◌, ℕ, ◌<◌, ◌^◌, true, false, List, [], ◌∷◌, map, length, Option, refl, sym, subst, arith, append-nil, true≢false}
use Rattle.std.specs.Prelude.{Ok}
use Rattle.std.proofs.lemmas.List.{length-map}
use Rattle.std.proofs.lemmas.Bool.{eqb-true}
use Rattle.proxy_outside.specs.declared.identity.SessionNo.{SessionNo}
use Rattle.proxy_outside.specs.declared.identity.TenantId.{TenantId}
use Rattle.proxy_links.specs.Told.{Grows}
use Rattle.pod_balancer.specs.declared.moves.Move.{Move}
use Rattle.proxy_hub.specs.Ports.{Port, Asks}
use Rattle.proxy_hub.specs.declared.command.HubCommand.TheVariants.{Plan}
use Rattle.proxy_hub.specs.declared.reply.HubReply.{HubReply}
use Rattle.proxy_hub.specs.declared.reply.HubReply.TheVariants.{Moves}
use Rattle.pod_drain.specs.Watching.{without_tenant, rings_of, unless_still}
use Rattle.pod_drain.specs.Rounds.{scene, Counts, AskedAll}
use Rattle.pod_drain.proofs.Follow.{grows_none}
use Rattle.pod_drain.proofs.Asking.{one}

abbrev session_of : Move → SessionNo
session_of m = m.session

counts_of : (t : TenantId) (moves : List Move) (n : ℕ) → n ≡ length moves → n < 2 ^ 64 → Counts ((Plan t, Moves moves) ∷ []) n
unfolding rings_of
counts_of t moves n is small =
    let len : length (rings_of ((Plan t, Moves moves) ∷ [])) ≡ length moves = simp (append-nil, length-map) in
    omega (arith, len, is, small)

still_at : (w v : List TenantId) (p q : Port) (rs : Option (List SessionNo)) (t : TenantId) (moves : List Move) → Asks p q (Plan t) (Ok (Moves moves)) → (length moves == 0) ≡ true → v ≡ without_tenant t w
    → AskedAll Counts (Plan t ∷ []) (scene w p rs) (scene v q rs) 0
still_at w v p q rs t [] h none e = one Counts (Plan t) (Moves []) w v p q rs rs 0 h e (grows_none rs) (counts_of t [] 0 refl (omega arith))
still_at w v p q rs t (m ∷ moves) h none e = absurd (omega (arith, eqb-true (length (m ∷ moves)) 0 none))

-- a plan with no moves
pub still : (w v : List TenantId) (p q : Port) (rs : Option (List SessionNo)) (t : TenantId) (r : HubReply) (moves : List Move) → Moves moves ≡ r → Asks p q (Plan t) (Ok r) → (length moves == 0) ≡ true → v ≡ without_tenant t w
    → AskedAll Counts (Plan t ∷ []) (scene w p rs) (scene v q rs) 0
still w v p q rs t r moves is h none e = still_at w v p q rs t moves (subst (λ (x : HubReply). Asks p q (Plan t) (Ok x)) (sym is) h) none e

some_moves : (w : List TenantId) (t : TenantId) (moves : List Move) → (length moves == 0) ≡ false → w ≡ unless_still t moves w
some_moves w t [] h = absurd (true≢false h)
some_moves w t (m ∷ moves) h = refl

-- a plan with moves, whose sessions were rung
pub moving : (w : List TenantId) (p q : Port) (rs ts : Option (List SessionNo)) (t : TenantId) (r : HubReply) (moves : List Move) (n : ℕ) → Moves moves ≡ r → Asks p q (Plan t) (Ok r) → (length moves == 0) ≡ false → n ≡ length moves → n < 2 ^ 64
    → Grows rs ts (map session_of moves) → AskedAll Counts (Plan t ∷ []) (scene w p rs) (scene w q ts) n
moving w p q rs ts t r moves n is h some len small g =
    one Counts (Plan t) (Moves moves) w w p q rs ts n (subst (λ (x : HubReply). Asks p q (Plan t) (Ok x)) (sym is) h) (some_moves w t moves some) g (counts_of t moves n len small)
