-- Reading items one after the other, as a loop does.
use Rattle.std.proofs.Common.{◌≡◌, ℕ, suc, ◌-◌, ◌+◌, ◌≤◌, ◌<◌, List, [], ◌∷◌, ◌++◌, Ok, Err, refl, sym, ap, ◌∙◌, append_assoc, arith}
use Rattle.std.proofs.lemmas.List.{append-nil}
use Rattle.pgw_messages.specs.declared.fault.MsgFault.{MsgFault}
use Rattle.pgw_messages.specs.declared.fault.MsgFault.TheVariants as fault
use Rattle.pgw_messages.specs.Reading.{Read, ◌>>=◌, Fails, many_at}

-- what was read before, and what is still read
abbrev pub with_front : {A : Type 0} → List A → Read (List A) → Read (List A)
with_front front read = read >>= λ x. Ok (front ++ x.0, x.1)

pub regroup : {A : Type 0} (front : List A) (x : A) (read : Read (List A)) → with_front front (read >>= λ y. Ok (x ∷ y.0, y.1)) ≡ with_front (front ++ x ∷ []) read
regroup front x (Ok y) = ap (λ xs. Ok (xs, y.1)) (simp append_assoc)
regroup front x (Err f) = refl

pub bind_fails : {A B : Type 0} (e : MsgFault) (read : Read A) (f : A × List ℕ → Read B) → Fails e read → Fails e (read >>= f)
bind_fails (fault.UnknownTag t) read f h = rw h refl
bind_fails fault.Short read f h = rw h refl
bind_fails fault.Trailing read f h = rw h refl
bind_fails fault.NotText read f h = rw h refl
bind_fails fault.BadValue read f h = rw h refl
bind_fails fault.NoMemory read f h = tt

pub fails_as : {A : Type 0} (e : MsgFault) (read other : Read A) → read ≡ other → Fails e read → Fails e other
fails_as e read other same h = rw (← same) h

pub goes_on : {A : Type 0} (item : List ℕ → Read A) (front : List A) (count i : ℕ) (b : List ℕ) (x : A) (rest : List ℕ) (total : Read (List A)) → i < count → item b ≡ Ok (x, rest)
    → with_front front (many_at item (count - i) b) ≡ total → with_front (front ++ x ∷ []) (many_at item (count - (i + 1)) rest) ≡ total
goes_on item front count i b x rest total lt h so_far =
    let k : count - i ≡ suc (count - (i + 1)) = omega arith in
    let one : with_front front (many_at item (count - i) b) ≡ with_front (front ++ x ∷ []) (many_at item (count - (i + 1)) rest) = rw (k, h) (regroup front x (many_at item (count - (i + 1)) rest)) in
    sym one ∙ so_far

pub stops : {A : Type 0} (e : MsgFault) (item : List ℕ → Read A) (front : List A) (count i : ℕ) (b : List ℕ) (total : Read (List A)) → i < count → Fails e (item b)
    → with_front front (many_at item (count - i) b) ≡ total → Fails e total
stops e item front count i b total lt h so_far =
    let k : count - i ≡ suc (count - (i + 1)) = omega arith in
    let whole : with_front front (many_at item (suc (count - (i + 1))) b) ≡ total = rw k at so_far in
    let inner = bind_fails e (item b) (λ first. many_at item (count - (i + 1)) first.1 >>= λ others. Ok (first.0 ∷ others.0, others.1)) h in
    fails_as e (with_front front (many_at item (suc (count - (i + 1))) b)) total whole (bind_fails e (many_at item (suc (count - (i + 1))) b) (λ x. Ok (front ++ x.0, x.1)) inner)

pub is_done : {A : Type 0} (item : List ℕ → Read A) (front : List A) (count i : ℕ) (b : List ℕ) (total : Read (List A)) → count ≤ i → with_front front (many_at item (count - i) b) ≡ total → total ≡ Ok (front, b)
is_done item front count i b total le so_far =
    let k : count - i ≡ 0 = omega arith in
    let one : with_front front (many_at item (count - i) b) ≡ Ok (front, b) = rw k (ap (λ xs. Ok (xs, b)) (append-nil front)) in
    sym so_far ∙ one
