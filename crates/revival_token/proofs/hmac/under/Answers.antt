use Rattle.std.proofs.Common.{◌≡◌, ℕ, suc, ◌+◌, ◌<◌, ◌≤◌, List, [], ◌∷◌, ◌++◌, length, take, map, get_or, set, sym, ap, subst, ◌∙◌, arith}
use Rattle.std.specs.Prelude.{bit_xor}
use Rattle.std.proofs.Math.ListN.{length-set}
use Rattle.std.proofs.Math.Seq.{take-suc, take-suc-set}
use Rattle.std.proofs.lemmas.List.{map-append, take_all}
use Rattle.revival_token.proofs.hmac.under.Goals as goal

one_more : (f : ℕ → ℕ) (out xs : List ℕ) (i : ℕ) → i < length out → i < length xs → take i out ≡ map f (take i xs) → take (i + 1) (set out i (f (get_or xs i 0))) ≡ map f (take (i + 1) xs)
one_more f out xs i lo lx h =
    let e : suc i ≡ i + 1 = omega arith in
    let v : ℕ = f (get_or xs i 0) in
    let front : map f (take (suc i) xs) ≡ map f (take i xs) ++ v ∷ [] = ap (map f) (take-suc xs i 0 lx) ∙ map-append f (take i xs) (get_or xs i 0 ∷ []) in
    subst (λ (n : ℕ). take n (set out i v) ≡ map f (take n xs)) e (take-suc-set out i v lo ∙ ap (λ (a : List ℕ). a ++ v ∷ []) h ∙ sym front)

all_done : (f : ℕ → ℕ) (out xs : List ℕ) (i : ℕ) → length out ≤ i → length xs ≤ i → take i out ≡ map f (take i xs) → out ≡ map f xs
all_done f out xs i lo lx h = sym (take_all i out lo) ∙ h ∙ ap (map f) (take_all i xs lx)

pub loop-i-preserved : goal.loop-i-preserved
loop-i-preserved c =
    let long : length c.loop-i.masked ≡ 64 = c.loop-i.invariant.long in
    record {
      long = omega (arith, length-set {A = ℕ});
      front = one_more (λ (x : ℕ). bit_xor x c.args.pad) c.loop-i.masked c.args.block.now c.loop-i.i (omega arith) (omega arith) c.loop-i.invariant.front;
    }

pub returns : goal.returns
returns c =
    let long : length c.loop-i.masked ≡ 64 = c.loop-i.invariant.long in
    all_done (λ (x : ℕ). bit_xor x c.args.pad) c.loop-i.masked c.args.block.now c.loop-i.i (omega arith) (omega arith) c.loop-i.invariant.front
