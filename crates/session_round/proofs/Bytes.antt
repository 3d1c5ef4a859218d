-- Bytes that are told.
use Rattle.std.proofs.Common.{◌≡◌, ℕ, zero, suc, List, [], ◌∷◌, ◌++◌, length, drop, Option, Some, None, refl, arith}
use Rattle.pgw_frames.specs.Frames.{IsBytes}
use Rattle.proxy_links.specs.Told.{push}
use Rattle.session_round.specs.Standing.{TellsBytes}

pub bytes_both : (xs ys : List ℕ) → IsBytes xs → IsBytes ys → IsBytes (xs ++ ys)
bytes_both [] ys a b i = b i
bytes_both (x ∷ xs) ys a b zero = a 0
bytes_both (x ∷ xs) ys a b (suc i) = bytes_both xs ys (λ k. a (suc k)) b i

pub bytes_front : (xs ys : List ℕ) → IsBytes (xs ++ ys) → IsBytes xs
bytes_front [] ys a i = omega arith
bytes_front (x ∷ xs) ys a zero = a 0
bytes_front (x ∷ xs) ys a (suc i) = bytes_front xs ys (λ k. a (suc k)) i

pub bytes_back : (xs ys : List ℕ) → IsBytes (xs ++ ys) → IsBytes ys
bytes_back [] ys a = a
bytes_back (x ∷ xs) ys a = bytes_back xs ys (λ k. a (suc k))

pub told_front : (o : Option (List ℕ)) (xs : List ℕ) → TellsBytes (push o xs) → TellsBytes o
told_front None xs t = t
told_front (Some b) xs t = bytes_front b xs t

pub told_back : (o : Option (List ℕ)) (xs : List ℕ) → TellsBytes (push o xs) → IsBytes xs
told_back None xs t = absurd t
told_back (Some b) xs t = bytes_back b xs t

pub drop_front : (xs ys : List ℕ) → drop (length xs) (xs ++ ys) ≡ ys
drop_front [] ys = refl
drop_front (x ∷ xs) ys = drop_front xs ys
