-- What was written is good, item by item, and is read again.
use Rattle.std.proofs.Common.{◌≡◌, ℕ, ◌+◌, List, [], ◌∷◌, ◌++◌, length, drop, Ok, refl, ap, ◌∙◌}
use Rattle.std.specs.Int.{w32, to_be_bytes}
use Rattle.std.specs.List.{AllByRecursion}
use Rattle.pgw_frames.specs.declared.frame.Frame.{Frame}
use Rattle.pgw_messages.specs.declared.params.Pair.{Pair}
use Rattle.pgw_messages.specs.declared.frontend.message.FrontMsg.{FrontMsg}
use Rattle.pgw_messages.specs.declared.backend.message.BackMsg.{BackMsg}
use Rattle.pgw_messages.specs.Params.{HasDistinctNames}
use Rattle.pgw_messages.specs.Startup.{startup_packet, startup_body, params_bytes, params_of, IsParam}
use Rattle.pgw_messages.specs.Frontend.{front_of, front_frame, IsFront}
use Rattle.pgw_messages.specs.Backend.{back_of, back_frame, IsBack}
use Rattle.pgw_messages.proofs.FrontLaws.{front_again}
use Rattle.pgw_messages.proofs.BackLaws.{back_again}
use Rattle.pgw_messages.proofs.ParamsAgain.{params_again}

-- where all have what it takes
pub given : {A : Type 0} (Needs Is : A → Type 0) (xs : List A) → AllByRecursion (λ x. Needs x → Is x) xs → AllByRecursion Needs xs → AllByRecursion Is xs
given Needs Is [] f h = tt
given Needs Is (x ∷ xs) f h = (f.0 h.0, given Needs Is xs f.1 h.1)

pub front_read : (m : FrontMsg) (f : Frame) → IsFront m → f ≡ front_frame m → front_of f ≡ Ok m
front_read m f is e = ap front_of e ∙ front_again m is

pub back_read : (m : BackMsg) (f : Frame) → IsBack m → f ≡ back_frame m → back_of f ≡ Ok m
back_read m f is e = ap back_of e ∙ back_again m is

-- what stands behind the length and the version
behind : (n : ℕ) (p : List Pair) → drop 8 (to_be_bytes w32 n ++ (to_be_bytes w32 196608 ++ params_bytes p)) ≡ params_bytes p
behind n p = refl

behind_version : (p : List Pair) → HasDistinctNames p → AllByRecursion IsParam p → drop 8 (startup_packet p) ≡ params_bytes p
unfolding startup_packet
behind_version p distinct is =
    ap (λ (b : List ℕ). drop 8 (to_be_bytes w32 (length (startup_body p) + 4) ++ b)) (params_again p distinct is).0 ∙ behind (length (startup_body p) + 4) p

pub packet_read : (p : List Pair) (b : List ℕ) → HasDistinctNames p → AllByRecursion IsParam p → b ≡ startup_packet p → params_of (drop 8 b) ≡ Ok p
packet_read p b distinct is e = ap (λ (x : List ℕ). params_of (drop 8 x)) e ∙ ap params_of (behind_version p distinct is) ∙ (params_again p distinct is).1
