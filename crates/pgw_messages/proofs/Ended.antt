-- Reading items up to a zero byte, as a loop does.
use Rattle.std.proofs.Common.{◌≡◌, ℕ, zero, suc, ◌≤◌, ◌<◌, Bool, true, false, List, [], ◌∷◌, length, Result, Ok, Err, refl, sym, ap, ◌∙◌, true≢false, arith}
use Rattle.std.specs.Prelude.{if◌then◌else◌}
use Rattle.std.specs.Str.{is_utf8}
use Rattle.pgw_messages.specs.declared.fault.MsgFault.{MsgFault}
use Rattle.pgw_messages.specs.declared.fault.MsgFault.TheVariants as fault
use Rattle.pgw_messages.specs.Reading.{Read, ◌>>=◌, Fails, is_zero, end_at, zero_ended, text_at, ended_at}
use Rattle.pgw_messages.proofs.Lists.{bind_fails, fails_as}

-- how the items are gathered: join is all of them at once, put is one
pub record Gathers {A S : Type 0} (put : S → A → S) (join : S → List A → S) : Type 0 where
  pub none : (s : S) → join s [] ≡ s
  pub one : (s : S) (x : A) (xs : List A) → join s (x ∷ xs) ≡ join (put s x) xs

abbrev pub onto : {A S : Type 0} → (S → List A → S) → S → Read (List A) → Read S
onto join s read = read >>= λ x. Ok (join s x.0, x.1)

-- what was gathered, with what is still read, is the whole
pub record Keeps {A S : Type 0} (item : List ℕ → Read A) (join : S → List A → S) (s : S) (b : List ℕ) (total : Read S) : Type 0 where
  pub fuel : ℕ
  pub enough : length b ≤ fuel
  pub same : onto join s (ended_at item fuel b) ≡ total

-- the value of a step that did not fail
pub bind_ok : {A B : Type 0} (r : Result A MsgFault) (f : A → Result B MsgFault) (y : B) → (r >>= f) ≡ Ok y → (x : A) × (r ≡ Ok x) × (f x ≡ Ok y)
bind_ok (Ok x) f y e = (x, refl, e)
bind_ok (Err d) f y e = absurd cc

-- ---- what stands at the front

abbrev ok_end : Bool × List ℕ → Read Bool
ok_end x = Ok x

abbrev short_end : Read Bool
short_end = Err fault.Short

end_is : (x y : Bool × List ℕ) → ok_end x ≡ ok_end y → x ≡ y
end_is x y e = cc

going_by : (c : ℕ) (b rest : List ℕ) (x : Bool) → (if x then ok_end (true, b) else ok_end (false, c ∷ b)) ≡ ok_end (false, rest) → rest ≡ c ∷ b
going_by c b rest true e = absurd (true≢false (ap (λ (p : Bool × List ℕ). p.0) (end_is (true, b) (false, rest) e)))
going_by c b rest false e = sym (ap (λ (p : Bool × List ℕ). p.1) (end_is (false, c ∷ b) (false, rest) e))

-- where no end stands, all bytes are left
pub going : (b rest : List ℕ) → end_at b ≡ Ok (false, rest) → rest ≡ b
going [] rest e = absurd cc
going (c ∷ b) rest e = going_by c b rest (is_zero c) e

nothing : (b : List ℕ) → length b ≤ 0 → b ≡ []
nothing [] le = refl
nothing (c ∷ b) le = absurd (omega arith)

no_end : (b : List ℕ) (x : Bool × List ℕ) → length b ≤ 0 → end_at b ≡ Ok x → ⊥
no_end [] x le e = absurd cc
no_end (c ∷ b) x le e = absurd (omega arith)

-- ---- the loop

pub begins : {A S : Type 0} (item : List ℕ → Read A) (join : S → List A → S) (s : S) (b : List ℕ) (total : Read S) → onto join s (ended_at item (length b) b) ≡ total → Keeps item join s b total
begins item join s b total e = record { fuel = length b; enough = omega arith; same = e }

onto_one : {A S : Type 0} (put : S → A → S) (join : S → List A → S) (gathers : Gathers put join) (s : S) (x : A) (read : Read (List A))
    → onto join s (read >>= λ others. Ok (x ∷ others.0, others.1)) ≡ onto join (put s x) read
onto_one put join gathers s x (Ok y) = ap (λ t. Ok (t, y.1)) (gathers.one s x y.0)
onto_one put join gathers s x (Err f) = refl

step : {A S : Type 0} (put : S → A → S) (join : S → List A → S) (gathers : Gathers put join) (item : List ℕ → Read A) (s : S) (b : List ℕ) (x : A) (rest : List ℕ) (total : Read S)
    (fuel : ℕ) → length b ≤ fuel → onto join s (ended_at item fuel b) ≡ total → end_at b ≡ Ok (false, b) → item b ≡ Ok (x, rest) → length rest < length b → Keeps item join (put s x) rest total
step put join gathers item s b x rest total zero enough same end e less = absurd (no_end b (false, b) enough end)
step put join gathers item s b x rest total (suc n) enough same end e less =
    let now : onto join s (ended_at item (suc n) b) ≡ onto join (put s x) (ended_at item n rest) = rw (end, e) (onto_one put join gathers s x (ended_at item n rest)) in
    record { fuel = n; enough = omega arith; same = sym now ∙ same }

pub goes_on : {A S : Type 0} (put : S → A → S) (join : S → List A → S) (gathers : Gathers put join) (item : List ℕ → Read A) (s : S) (b more : List ℕ) (x : A) (rest : List ℕ) (total : Read S)
    → Keeps item join s b total → end_at b ≡ Ok (false, more) → item more ≡ Ok (x, rest) → length rest < length more → Keeps item join (put s x) rest total
goes_on put join gathers item s b more x rest total k end e less =
    let same : more ≡ b = going b more end in
    step put join gathers item s b x rest total k.fuel k.enough k.same (end ∙ ap (λ (m : List ℕ). ok_end (false, m)) same) (sym (ap item same) ∙ e) (rw same at less)

done_by : {A S : Type 0} (put : S → A → S) (join : S → List A → S) (gathers : Gathers put join) (item : List ℕ → Read A) (s : S) (b rest : List ℕ) (total : Read S)
    (fuel : ℕ) → length b ≤ fuel → onto join s (ended_at item fuel b) ≡ total → end_at b ≡ Ok (true, rest) → total ≡ Ok (s, rest)
done_by put join gathers item s b rest total zero enough same end = absurd (no_end b (true, rest) enough end)
done_by put join gathers item s b rest total (suc n) enough same end =
    let now : onto join s (ended_at item (suc n) b) ≡ Ok (s, rest) = rw end (ap (λ t. Ok (t, rest)) (gathers.none s)) in
    sym same ∙ now

pub is_done : {A S : Type 0} (put : S → A → S) (join : S → List A → S) (gathers : Gathers put join) (item : List ℕ → Read A) (s : S) (b rest : List ℕ) (total : Read S)
    → Keeps item join s b total → end_at b ≡ Ok (true, rest) → total ≡ Ok (s, rest)
is_done put join gathers item s b rest total k end = done_by put join gathers item s b rest total k.fuel k.enough k.same end

endless_by : {A S : Type 0} (e : MsgFault) (item : List ℕ → Read A) (join : S → List A → S) (s : S) (b : List ℕ) (total : Read S)
    (fuel : ℕ) → length b ≤ fuel → onto join s (ended_at item fuel b) ≡ total → Fails e (end_at b) → Fails e total
endless_by e item join s b total zero enough same h =
    let short : end_at b ≡ short_end = ap end_at (nothing b enough) in
    let here : Fails e short_end = fails_as e (end_at b) short_end short h in
    fails_as e (onto join s (ended_at item zero b)) total same (bind_fails e (ended_at item zero b) (λ x. Ok (join s x.0, x.1)) (bind_fails e short_end (λ x. Err fault.Short) here))
endless_by e item join s b total (suc n) enough same h =
    fails_as e (onto join s (ended_at item (suc n) b)) total same (bind_fails e (ended_at item (suc n) b) (λ x. Ok (join s x.0, x.1)) (bind_fails e (end_at b) (λ end. if end.0 then Ok ([], end.1) else item end.1 >>= λ first. ended_at item n first.1 >>= λ others. Ok (first.0 ∷ others.0, others.1)) h))

-- no end and no item stands here
pub is_endless : {A S : Type 0} (e : MsgFault) (item : List ℕ → Read A) (join : S → List A → S) (s : S) (b : List ℕ) (total : Read S) → Keeps item join s b total → Fails e (end_at b) → Fails e total
is_endless e item join s b total k h = endless_by e item join s b total k.fuel k.enough k.same h

stops_by : {A S : Type 0} (e : MsgFault) (item : List ℕ → Read A) (join : S → List A → S) (s : S) (b : List ℕ) (total : Read S)
    (fuel : ℕ) → length b ≤ fuel → onto join s (ended_at item fuel b) ≡ total → end_at b ≡ Ok (false, b) → Fails e (item b) → Fails e total
stops_by e item join s b total zero enough same end h = absurd (no_end b (false, b) enough end)
stops_by e item join s b total (suc n) enough same end h =
    let inner = bind_fails e (item b) (λ first. ended_at item n first.1 >>= λ others. Ok (first.0 ∷ others.0, others.1)) h in
    let here : ended_at item (suc n) b ≡ (item b >>= λ first. ended_at item n first.1 >>= λ others. Ok (first.0 ∷ others.0, others.1)) = rw end refl in
    fails_as e (onto join s (ended_at item (suc n) b)) total same (bind_fails e (ended_at item (suc n) b) (λ x. Ok (join s x.0, x.1)) (fails_as e (item b >>= λ first. ended_at item n first.1 >>= λ others. Ok (first.0 ∷ others.0, others.1)) (ended_at item (suc n) b) (sym here) inner))

-- the item that stands here is at fault
pub stops : {A S : Type 0} (e : MsgFault) (item : List ℕ → Read A) (join : S → List A → S) (s : S) (b more : List ℕ) (total : Read S) → Keeps item join s b total → end_at b ≡ Ok (false, more) → Fails e (item more) → Fails e total
stops e item join s b more total k end h =
    let same : more ≡ b = going b more end in
    stops_by e item join s b total k.fuel k.enough k.same (end ∙ ap (λ (m : List ℕ). ok_end (false, m)) same) (fails_as e (item more) (item b) (ap item same) h)

-- ---- items take bytes

abbrev ok_bytes : List ℕ × List ℕ → Read (List ℕ)
ok_bytes x = Ok x

bytes_are : (x y : List ℕ × List ℕ) → ok_bytes x ≡ ok_bytes y → x ≡ y
bytes_are x y e = cc

zero_by : (c : ℕ) (b t rest : List ℕ) (x : Bool) (read : Read (List ℕ)) → read ≡ zero_ended b → ((t' rest' : List ℕ) → zero_ended b ≡ Ok (t', rest') → length rest' < length b)
    → (if x then ok_bytes ([], b) else read >>= λ u. ok_bytes (c ∷ u.0, u.1)) ≡ ok_bytes (t, rest) → length rest < length (c ∷ b)
zero_by c b t rest true read same more e =
    let is : b ≡ rest = ap (λ (p : List ℕ × List ℕ). p.1) (bytes_are ([], b) (t, rest) e) in
    rw (← is) (omega arith)
zero_by c b t rest false (Ok u) same more e =
    let is : u.1 ≡ rest = ap (λ (p : List ℕ × List ℕ). p.1) (bytes_are (c ∷ u.0, u.1) (t, rest) e) in
    let less : length u.1 < length b = more u.0 u.1 (sym same) in
    rw (← is) (omega arith)
zero_by c b t rest false (Err f) same more e = absurd cc

zero_shortens : (b t rest : List ℕ) → zero_ended b ≡ Ok (t, rest) → length rest < length b
zero_shortens [] t rest e = absurd cc
zero_shortens (c ∷ b) t rest e = zero_by c b t rest (is_zero c) (zero_ended b) refl (zero_shortens b) e

utf8_by : (u : List ℕ × List ℕ) (x : Bool) (t : List ℕ × List ℕ) → (if x then ok_bytes u else Err fault.NotText) ≡ ok_bytes t → u ≡ t
utf8_by u true t e = bytes_are u t e
utf8_by u false t e = absurd cc

pub text_shortens : (b t rest : List ℕ) → text_at b ≡ Ok (t, rest) → length rest < length b
unfolding text_at
text_shortens b t rest e =
    let u = bind_ok (zero_ended b) (λ u. if is_utf8 u.0 then Ok u else Err fault.NotText) (t, rest) e in
    let is : u.0 ≡ (t, rest) = utf8_by u.0 (is_utf8 u.0.0) (t, rest) u.2 in
    let less : length u.0.1 < length b = zero_shortens b u.0.0 u.0.1 u.1 in
    let left : u.0.1 ≡ rest = ap (λ (p : List ℕ × List ℕ). p.1) is in
    rw (← left) less
