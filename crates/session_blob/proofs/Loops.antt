-- Reading items under names one after the other, as a loop does.
use Rattle.std.proofs.Common.{◌≡◌, ℕ, suc, ◌-◌, ◌+◌, ◌<◌, List, [], ◌∷◌, ◌++◌, map, Ok, Err, sym, ap, subst, ◌∙◌, arith}
use Rattle.std.proofs.lemmas.List.{map-append}
use Rattle.pgw_messages.proofs.Codecs.{ok_is}
use Rattle.pgw_messages.proofs.Ended.{bind_ok}
use Rattle.pgw_messages.proofs.Lists.{with_front, regroup, bind_fails, fails_as}
use Rattle.pgw_messages.specs.declared.fault.MsgFault.{MsgFault}
use Rattle.pgw_messages.specs.declared.fault.MsgFault.TheVariants as fault
use Rattle.pgw_messages.specs.Reading.{Read, ◌>>=◌, Fails, mapped}
use Rattle.session_blob.specs.Reading.{entry_at, named_at}

abbrev bad : {A : Type 0} → MsgFault → Read A
bad e = Err e

fault_is : {A : Type 0} (d e : MsgFault) → bad {A = A} d ≡ bad e → d ≡ e
fault_is d e h = cc

err_mapped : {A B : Type 0} (f : A → B) (read : Read A) (e : MsgFault) → mapped f read ≡ Err e → read ≡ Err e
err_mapped f (Ok x) e h = absurd cc
err_mapped f (Err d) e h = ap Err (fault_is d e h)

fails_mapped : {A B : Type 0} (e : MsgFault) (f : A → B) (read : Read A) → Fails e (mapped f read) → Fails e read
fails_mapped (fault.UnknownTag t) f read h = err_mapped f read _ h
fails_mapped fault.Short f read h = err_mapped f read _ h
fails_mapped fault.Trailing f read h = err_mapped f read _ h
fails_mapped fault.NotText f read h = err_mapped f read _ h
fails_mapped fault.BadValue f read h = err_mapped f read _ h
fails_mapped fault.NoMemory f read h = tt

abbrev done : {A : Type 0} → List A × List ℕ → Read (List A)
done x = Ok x

module _ {A : Type 0} (name : A → List ℕ) (item : List ℕ → List ℕ → Read A)
  where
    abbrev pub one_more : List A → List ℕ → Read (List A)
    one_more front b = mapped (λ x. front ++ x ∷ []) (entry_at item (map name front) b)

    onward : (front : List A) (count i : ℕ) (b : List ℕ) (x : A) (rest : List ℕ) → i < count → entry_at item (map name front) b ≡ Ok (x, rest)
        → with_front front (named_at name item (count - i) (map name front) b) ≡ with_front (front ++ x ∷ []) (named_at name item (count - (i + 1)) (map name front ++ name x ∷ []) rest)
    onward front count i b x rest lt e =
        let k : count - i ≡ suc (count - (i + 1)) = omega arith in
        rw (k, e) (regroup front x (named_at name item (count - (i + 1)) (map name front ++ name x ∷ []) rest))

    pub goes_on : (front : List A) (count i : ℕ) (b : List ℕ) (next : List A) (rest : List ℕ) (total : Read (List A)) → i < count → one_more front b ≡ done (next, rest)
        → with_front front (named_at name item (count - i) (map name front) b) ≡ total → with_front next (named_at name item (count - (i + 1)) (map name next) rest) ≡ total
    goes_on front count i b next rest total lt h so_far =
        let x = bind_ok (entry_at item (map name front) b) (λ (x : A × List ℕ). done (front ++ x.0 ∷ [], x.1)) (next, rest) h in
        let left : ℕ = count - (i + 1) in
        let one = onward front count i b x.0.0 x.0.1 lt x.1 in
        let names : map name (front ++ x.0.0 ∷ []) ≡ map name front ++ name x.0.0 ∷ [] = map-append name front (x.0.0 ∷ []) in
        let here : with_front (front ++ x.0.0 ∷ []) (named_at name item left (map name (front ++ x.0.0 ∷ [])) x.0.1) ≡ total = ap (λ (ns : List (List ℕ)). with_front (front ++ x.0.0 ∷ []) (named_at name item left ns x.0.1)) names ∙ sym one ∙ so_far in
        subst (λ (y : List A × List ℕ). with_front y.0 (named_at name item left (map name y.0) y.1) ≡ total) (ok_is (front ++ x.0.0 ∷ [], x.0.1) (next, rest) x.2) here

    pub stops : (e : MsgFault) (front : List A) (count i : ℕ) (b : List ℕ) (total : Read (List A)) → i < count → Fails e (one_more front b)
        → with_front front (named_at name item (count - i) (map name front) b) ≡ total → Fails e total
    stops e front count i b total lt h so_far =
        let left : ℕ = count - (i + 1) in
        let k : count - i ≡ suc left = omega arith in
        let whole : with_front front (named_at name item (suc left) (map name front) b) ≡ total = rw k at so_far in
        let inner = bind_fails e (entry_at item (map name front) b) (λ first. named_at name item left (map name front ++ name first.0 ∷ []) first.1 >>= λ others. Ok (first.0 ∷ others.0, others.1)) (fails_mapped e (λ x. front ++ x ∷ []) (entry_at item (map name front) b) h) in
        fails_as e (with_front front (named_at name item (suc left) (map name front) b)) total whole (bind_fails e (named_at name item (suc left) (map name front) b) (λ x. Ok (front ++ x.0, x.1)) inner)
