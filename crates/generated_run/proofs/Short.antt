-- A turn has few events.
use Rattle.std.proofs.Common.{◌≡◌, ℕ, ◌+◌, ◌*◌, ◌%◌, ◌≤◌, ◌<◌, ◌^◌, List, [], ◌∷◌, ◌++◌, length, refl, arith}
use Rattle.std.specs.Prelude.{◌==◌, nat_lt, replicate}
use Rattle.std.specs.Fmt.{decimal}
use Rattle.std.specs.Int.{div_ceil}
use Rattle.std.proofs.Math.Nat.{div-le_self}
use Rattle.std.proofs.lemmas.Bool.{cond_both}
use Rattle.std.proofs.lemmas.Fmt.{length-decimal-le}
use Rattle.std.proofs.lemmas.List.{length-append, length-replicate}
use Rattle.rand_pcg.specs.Lcg.{Lcg}
use Rattle.pgw_frames.specs.Frames.{render}
use Rattle.pgw_frames.specs.declared.frame.Frame.{Frame}
use Rattle.session_model.specs.declared.transfer.TransferKey.{TransferKey}
use Rattle.tally_session.specs.declared.store.Nothing.{Nothing}
use Rattle.forwarder_world.specs.declared.event.Event.{Event}
use Rattle.forwarder_world.specs.declared.event.Event.TheVariants.{Give, Read, Forward, Deliver, Pod, Back, Pass}
use Rattle.generated_run.specs.Generated.{queries, syncs, copies, sends, dials, rest, cut, moves, events_by, key_of}

few_pieces : (n piece : ℕ) → div_ceil n piece ≤ n + 1
few_pieces n piece = omega (arith, div-le_self n piece)

joined : (x y z : Event Nothing) (a b c d : List (Event Nothing)) → length (x ∷ a ++ b ++ y ∷ c ++ z ∷ d) ≡ length a + length b + length c + length d + 3
joined x y z a b c d = omega (arith, length-append (x ∷ a ++ b ++ y ∷ c) (z ∷ d), length-append (x ∷ a ++ b) (y ∷ c), length-append (x ∷ a) b)

sends_short : (fs : List Frame) (piece replies : ℕ) → length (sends fs piece replies) ≤ length (render fs) + 2 * length fs + replies + 4
unfolding sends
sends_short fs piece replies =
    let bytes : List ℕ = render fs in
    let pieces : ℕ = div_ceil (length bytes) piece in
    let count : ℕ = length fs in
    let one_read : Event Nothing = Read piece in
    let one_forward : Event Nothing = Forward in
    let one_pod : Event Nothing = Pod in
    let one_pass : Event Nothing = Pass in
    let e = joined (Give bytes) (Deliver 65535) (Back 65535) (replicate pieces one_read) (replicate count one_forward) (replicate count one_pod) (replicate replies one_pass) in
    omega (arith, e, few_pieces (length bytes) piece, length-replicate pieces one_read, length-replicate count one_forward, length-replicate count one_pod, length-replicate replies one_pass)

dials_are : (key : TransferKey) → length (dials key) ≡ 12
unfolding dials
dials_are key = refl

moves_short : (kind : ℕ) (key : TransferKey) → length (moves kind key) ≤ 64
unfolding moves
moves_short kind key =
    cond_both (nat_lt kind 2) (dials key ++ rest) _ (λ (es : List (Event Nothing)). length es ≤ 64)
    (λ e. omega (arith, dials_are key, length-append (dials key) rest))
    (λ e. cond_both (kind == 2) _ (dials key ++ cut) (λ (es : List (Event Nothing)). length es ≤ 64)
    (λ f. omega (arith, dials_are key))
    (λ f. omega (arith, dials_are key, length-append (dials key) cut)))

query_short : (i : ℕ) → i < 2 ^ 32 → length (render (queries i)) ≤ 32
query_short i small =
    omega (arith, length-append (decimal i) (0 ∷ []), length-append (decimal i ++ 0 ∷ []) [], length-decimal-le 20 i (omega arith) (omega arith) (omega arith))

copies_are : length (render copies) ≡ 34
copies_are = refl

syncs_are : length (render syncs) ≡ 5
syncs_are = refl

pub events_short : (i kind v : ℕ) (g : Lcg) → i < 2 ^ 32 → length (events_by i kind v g) ≤ 64
unfolding events_by
events_short i kind v g small =
    cond_both (kind == 7) _ _ (λ (es : List (Event Nothing)). length es ≤ 64) (λ e. moves_short (v % 4) (key_of g))
    (λ e. cond_both (kind == 6) _ _ (λ (es : List (Event Nothing)). length es ≤ 64) (λ f. omega (arith, copies_are, sends_short copies (v % 64 + 1) 3))
    (λ f. cond_both (kind == 5) _ _ (λ (es : List (Event Nothing)). length es ≤ 64) (λ h. omega (arith, syncs_are, sends_short syncs (v % 64 + 1) 1))
    (λ h. omega (arith, query_short i small, sends_short (queries i) (v % 64 + 1) 2))))
