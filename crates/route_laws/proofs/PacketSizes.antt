-- The parameters that are read have no more bytes than what they are read of.
use Rattle.std.proofs.Common.{◌≡◌, ℕ, zero, suc, ◌+◌, ◌≤◌, Bool, true, false, List, [], ◌∷◌, length, Result, Ok, Err, arith}
use Rattle.std.specs.Prelude.{if◌then◌else◌}
use Rattle.std.specs.Str.{is_utf8}
use Rattle.std.proofs.lemmas.Bool.{cond_both}
use Rattle.pgw_messages.specs.declared.fault.MsgFault.{MsgFault}
use Rattle.pgw_messages.specs.declared.fault.MsgFault.TheVariants as fault
use Rattle.pgw_messages.specs.declared.params.Pair.{Pair}
use Rattle.pgw_messages.specs.Params.{put_all}
use Rattle.pgw_messages.specs.Reading.{Read, ◌>>=◌, is_zero, zero_ended, text_at, end_at, ended_at, ended}
use Rattle.pgw_messages.specs.Startup.{pair_at, pairs_at, params_of}
use Rattle.route_laws.proofs.Every.{Every, every_any}
use Rattle.route_laws.proofs.Sizes.{size, put_size}

-- behind a reading
every_read : {A B : Type 0} (P : A → Type 0) (Q : B → Type 0) (r : Result A MsgFault) (f : A → Result B MsgFault) → Every P r → ((x : A) → P x → Every Q (f x)) → Every Q (r >>= f)
every_read P Q (Ok x) f h g = g x h
every_read P Q (Err e) f h g = tt

-- a text and its zero byte, and what is left, are no longer than this
abbrev TextIn : ℕ → List ℕ × List ℕ → Type 0
TextIn n t = length t.0 + 1 + length t.1 ≤ n

zero_in : (b : List ℕ) → Every (TextIn (length b)) (zero_ended b)
zero_in [] = tt
zero_in (c ∷ b) =
    cond_both (is_zero c) (Ok ([], b)) (zero_ended b >>= λ t. Ok (c ∷ t.0, t.1)) (Every (TextIn (length (c ∷ b))))
    (λ e. omega arith)
    (λ e. every_read (TextIn (length b)) (TextIn (length (c ∷ b))) (zero_ended b) (λ t. Ok (c ∷ t.0, t.1)) (zero_in b) (λ t h. omega (arith, h)))

text_in : (b : List ℕ) → Every (TextIn (length b)) (text_at b)
unfolding text_at
text_in b =
    every_read (TextIn (length b)) (TextIn (length b)) (zero_ended b) (λ t. if is_utf8 t.0 then Ok t else Err fault.NotText) (zero_in b)
    (λ t h. cond_both (is_utf8 t.0) (Ok t) (Err fault.NotText) (Every (TextIn (length b))) (λ e. h) (λ e. tt))

abbrev PairIn : ℕ → Pair × List ℕ → Type 0
PairIn n q = length q.0.name + length q.0.value + 2 + length q.1 ≤ n

abbrev ok_pair : Pair × List ℕ → Read Pair
ok_pair x = Ok x

pair_in : (b : List ℕ) → Every (PairIn (length b)) (pair_at b)
pair_in b =
    every_read (TextIn (length b)) (PairIn (length b)) (text_at b) (λ name. text_at name.1 >>= λ value. ok_pair (record { name = name.0; value = value.0 }, value.1)) (text_in b)
    (λ name h.
    every_read (TextIn (length name.1)) (PairIn (length b)) (text_at name.1) (λ value. ok_pair (record { name = name.0; value = value.0 }, value.1)) (text_in name.1)
    (λ value k. omega (arith, h, k)))

-- whether an end stands here, which is then a byte, and what is left
abbrev EndIn : ℕ → Bool × List ℕ → Type 0
EndIn n e = (e.0 ≡ true → length e.1 + 1 ≤ n) × (length e.1 ≤ n)

end_in : (b : List ℕ) → Every (EndIn (length b)) (end_at b)
end_in [] = tt
end_in (c ∷ b) =
    cond_both (is_zero c) (Ok (true, b)) (Ok (false, c ∷ b)) (Every (EndIn (length (c ∷ b))))
    (λ e. (λ t. omega arith, omega arith)) (λ e. (λ t. absurd cc, omega arith))

-- pairs, the zero byte behind them and what is left
abbrev PairsIn : ℕ → List Pair × List ℕ → Type 0
PairsIn n x = size x.0 + 1 + length x.1 ≤ n

abbrev ok_pairs : List Pair × List ℕ → Read (List Pair)
ok_pairs x = Ok x

abbrev behind_first : ℕ → Pair × List ℕ → Read (List Pair)
behind_first n first = ended_at pair_at n first.1 >>= λ others. ok_pairs (first.0 ∷ others.0, others.1)

abbrev behind_end : ℕ → Bool × List ℕ → Read (List Pair)
behind_end n end = if end.0 then Ok ([], end.1) else pair_at end.1 >>= λ first. behind_first n first

ended_in : (n : ℕ) (b : List ℕ) → Every (PairsIn (length b)) (ended_at pair_at n b)
ended_in zero b = tt
ended_in (suc n) b =
    every_read (EndIn (length b)) (PairsIn (length b)) (end_at b) (behind_end n) (end_in b)
    (λ end h. cond_both end.0 (ok_pairs ([], end.1)) (pair_at end.1 >>= λ first. behind_first n first) (Every (PairsIn (length b)))
    (λ e. omega (arith, h.0 e))
    (λ e. every_read (PairIn (length end.1)) (PairsIn (length b)) (pair_at end.1) (behind_first n) (pair_in end.1)
    (λ first k. every_read (PairsIn (length first.1)) (PairsIn (length b)) (ended_at pair_at n first.1) (λ others. ok_pairs (first.0 ∷ others.0, others.1)) (ended_in n first.1)
    (λ others l. omega (arith, h.1, k, l)))))

pairs_in : (b : List ℕ) → Every (PairsIn (length b)) (pairs_at b)
unfolding pairs_at
pairs_in b =
    every_read (PairsIn (length b)) (PairsIn (length b)) (ended_at pair_at (length b) b) (λ pairs. ok_pairs (put_all [] pairs.0, pairs.1)) (ended_in (length b) b)
    (λ pairs h. omega (arith, h, put_size [] pairs.0))

-- the parameters and the zero byte behind them
abbrev pub ParamsIn : ℕ → List Pair → Type 0
ParamsIn n p = size p + 1 ≤ n

abbrev ok_params : List Pair → Result (List Pair) MsgFault
ok_params p = Ok p

pub params_in : (b : List ℕ) → Every (ParamsIn (length b)) (params_of b)
unfolding params_of
params_in b =
    every_read (PairsIn (length b)) (ParamsIn (length b)) (pairs_at b) (λ x. ended x.1 >>= λ nothing. ok_params x.0) (pairs_in b)
    (λ x h. every_read (λ u. Unit {0}) (ParamsIn (length b)) (ended x.1) (λ nothing. ok_params x.0) (every_any (ended x.1)) (λ u k. omega (arith, h)))
