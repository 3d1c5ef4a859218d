-- What stands in a body, item by item, against the reading of the whole.
use Rattle.std.proofs.Common.{◌≡◌, ℕ, zero, suc, ◌+◌, ◌-◌, ◌<◌, ◌≤◌, Bool, true, false, List, [], ◌∷◌, length, Option, Some, None, Result, Ok, Err, refl, sym, ap, ◌∙◌, true≢false, arith}
use Rattle.std.specs.Prelude.{◌≢◌, ◌==◌, if◌then◌else◌, is_some}
use Rattle.std.proofs.lemmas.Bool.{eqb-true, false_from_ne_true}
use Rattle.std.specs.Result.{result_ok}
use Rattle.std.specs.Int.{w16}
use Rattle.pgw_messages.specs.declared.fault.MsgFault.{MsgFault}
use Rattle.pgw_messages.specs.declared.fault.MsgFault.TheVariants.{Short}
use Rattle.pgw_messages.specs.declared.backend.fields.Field.{Field}
use Rattle.pgw_messages.specs.Reading.{Read, ◌>>=◌, is_zero, number_at, zero_ended, text_at, many_at, list_at, ended_at, ended, whole}
use Rattle.pgw_messages.specs.Fields.{field_at, fields_at}
use Rattle.pgw_messages.specs.Views.{listed, is_whole, are_fields}
use Rattle.pgw_messages.proofs.FieldLemmas.{field_shortens}

abbrev done : {A : Type 0} → A → Result A MsgFault
done x = Ok x

-- ---- a reading to the end

ends : {A B : Type 0} (r : Result (Unit {0}) MsgFault) (x : A) (y : B) → is_some (result_ok (r >>= λ u. done x)) ≡ is_some (result_ok (r >>= λ u. done y))
ends (Ok u) x y = refl
ends (Err e) x y = refl

listed_by : {A : Type 0} (r : Result (Unit {0}) MsgFault) (x : A) → is_some (result_ok (r >>= λ u. done x)) ≡ true → result_ok (r >>= λ u. done x) ≡ Some x
listed_by (Ok u) x e = refl
listed_by (Err d) x e = absurd (true≢false (sym e))

-- what is read to the end is listed
pub is_listed : {A : Type 0} (read : Read (List A)) → is_some (result_ok (whole read)) ≡ true → result_ok (whole read) ≡ Some (listed read)
is_listed (Ok y) e = listed_by (ended y.1) y.0 e
is_listed (Err d) e = absurd (true≢false (sym e))

none_by : {A : Type 0} (o : Option A) → is_some o ≡ false → o ≡ None
none_by None e = refl
none_by (Some x) e = absurd (true≢false e)

-- one item before others
step : {A : Type 0} (x : A) (read : Read (List A)) → is_some (result_ok (whole (read >>= λ others. done (x ∷ others.0, others.1)))) ≡ is_some (result_ok (whole read))
step x (Ok y) = ends (ended y.1) (x ∷ y.0) y.0
step x (Err e) = refl

cons_listed : {A : Type 0} (x : A) (read : Read (List A)) → is_some (result_ok (whole read)) ≡ true → listed (read >>= λ others. done (x ∷ others.0, others.1)) ≡ x ∷ listed read
cons_listed x (Ok y) e = refl
cons_listed x (Err d) e = absurd (true≢false (sym e))

refused_by : {A B : Type 0} (r : Read A) (f : A × List ℕ → Read (List B)) → result_ok r ≡ None → is_some (result_ok (whole (r >>= f))) ≡ false
refused_by (Ok x) f e = absurd cc
refused_by (Err d) f e = refl

-- ---- so many items

one_more : {A : Type 0} (item : List ℕ → Read A) (n : ℕ) (b : List ℕ) (x : A) (rest : List ℕ) → item b ≡ Ok (x, rest) → is_whole item (suc n) b ≡ is_whole item n rest
one_more item n b x rest e = rw e (step x (many_at item n rest))

refused : {A : Type 0} (item : List ℕ → Read A) (n : ℕ) (b : List ℕ) → result_ok (item b) ≡ None → is_whole item (suc n) b ≡ false
refused item n b e = refused_by (item b) (λ first. many_at item n first.1 >>= λ others. done (first.0 ∷ others.0, others.1)) e

pub goes_on : {A : Type 0} (item : List ℕ → Read A) (count i : ℕ) (b : List ℕ) (x : A) (rest : List ℕ) (total : Bool) → i < count → item b ≡ Ok (x, rest) → is_whole item (count - i) b ≡ total
    → is_whole item (count - (i + 1)) rest ≡ total
goes_on item count i b x rest total less e h =
    let k : count - i ≡ suc (count - (i + 1)) = omega arith in
    let here : is_whole item (suc (count - (i + 1))) b ≡ total = rw k at h in
    sym (one_more item (count - (i + 1)) b x rest e) ∙ here

pub stops : {A : Type 0} (item : List ℕ → Read A) (count i : ℕ) (b : List ℕ) (total : Bool) → i < count → result_ok (item b) ≡ None → is_whole item (count - i) b ≡ total → false ≡ total
stops item count i b total less e h =
    let k : count - i ≡ suc (count - (i + 1)) = omega arith in
    let here : is_whole item (suc (count - (i + 1))) b ≡ total = rw k at h in
    sym (refused item (count - (i + 1)) b e) ∙ here

alone : {A : Type 0} (r : Result (Unit {0}) MsgFault) (x : A) → is_some (result_ok r) ≡ is_some (result_ok (r >>= λ u. done x))
alone (Ok u) x = refl
alone (Err e) x = refl

pub is_done : {A : Type 0} (item : List ℕ → Read A) (count i : ℕ) (b : List ℕ) (total : Bool) → count ≤ i → is_whole item (count - i) b ≡ total → is_some (result_ok (ended b)) ≡ total
is_done {A = A} item count i b total le h =
    let k : count - i ≡ 0 = omega arith in
    let none : List A = [] in
    let here : is_whole item 0 b ≡ total = rw k at h in
    alone (ended b) none ∙ here

pub empty_ended : (b : List ℕ) (x : Bool) → x ≡ (length b == 0) → x ≡ is_some (result_ok (ended b))
empty_ended [] x e = e
empty_ended (c ∷ b) x e = e ∙ false_from_ne_true (length (c ∷ b) == 0) (λ t. let none : length (c ∷ b) ≡ 0 = eqb-true (length (c ∷ b)) 0 t in absurd (omega (arith, none)))

-- a count, and as many items
pub list_whole : {A : Type 0} (item : List ℕ → Read A) (b : List ℕ) (count : ℕ) (rest : List ℕ) → number_at w16 b ≡ Ok (count, rest) → is_whole item count rest ≡ true
    → Some (listed (many_at item count rest)) ≡ result_ok (whole (list_at item b))
unfolding list_at
list_whole item b count rest e h = rw e (sym (is_listed (many_at item count rest) h))

pub list_not : {A : Type 0} (item : List ℕ → Read A) (b : List ℕ) (count : ℕ) (rest : List ℕ) → number_at w16 b ≡ Ok (count, rest) → is_whole item count rest ≡ false → None ≡ result_ok (whole (list_at item b))
unfolding list_at
list_not item b count rest e h = rw e (sym (none_by (result_ok (whole (many_at item count rest))) h))

pub list_short : {A : Type 0} (item : List ℕ → Read A) (b : List ℕ) → number_at w16 b ≡ Err Short → None ≡ result_ok (whole (list_at item b))
unfolding list_at
list_short item b e = rw e refl

-- the first of them, and the others
pub record First {A : Type 0} (item : List ℕ → Read A) (count : ℕ) (b : List ℕ) (x : A) (rest : List ℕ) : Type 0 where
  pub whole : is_whole item (count - 1) rest ≡ true
  pub parts : listed (many_at item count b) ≡ x ∷ listed (many_at item (count - 1) rest)

pub first_of : {A : Type 0} (item : List ℕ → Read A) (count : ℕ) (b : List ℕ) (x : A) (rest : List ℕ) → 0 < count → item b ≡ Ok (x, rest) → is_whole item count b ≡ true → First item count b x rest
first_of item count b x rest some e h =
    let k : count ≡ suc (count - 1) = omega arith in
    let here : is_whole item (suc (count - 1)) b ≡ true = ap (λ (n : ℕ). is_whole item n b) (sym k) ∙ h in
    let others : is_whole item (count - 1) rest ≡ true = sym (one_more item (count - 1) b x rest e) ∙ here in
    let cons : listed (many_at item (suc (count - 1)) b) ≡ x ∷ listed (many_at item (count - 1) rest) = rw e (cons_listed x (many_at item (count - 1) rest) others) in
    record { whole = others; parts = ap (λ (n : ℕ). listed (many_at item n b)) k ∙ cons }

pub no_first : {A : Type 0} (item : List ℕ → Read A) (count : ℕ) (b : List ℕ) → 0 < count → result_ok (item b) ≡ None → is_whole item count b ≡ true → ⊥
no_first item count b some e h =
    let k : count ≡ suc (count - 1) = omega arith in
    true≢false (sym h ∙ ap (λ (n : ℕ). is_whole item n b) k ∙ refused item (count - 1) b e)

-- ---- items up to a zero byte

abbrev Shortens : {A : Type 0} → (List ℕ → Read A) → Type 0
Shortens {A} item = (b : List ℕ) (x : A) (rest : List ℕ) → item b ≡ Ok (x, rest) → length rest < length b

-- a value before others that are read
abbrev before : {A : Type 0} → A → Read (List A) → Read (List A)
before {A = A} x read = read >>= λ others. done {A = List A × List ℕ} (x ∷ others.0, others.1)

same_item : {A : Type 0} (item : List ℕ → Read A) (n m : ℕ) (r : Read A) → ((x : A) (rest : List ℕ) → r ≡ Ok (x, rest) → ended_at item n rest ≡ ended_at item m rest)
    → (r >>= λ first. before first.0 (ended_at item n first.1)) ≡ (r >>= λ first. before first.0 (ended_at item m first.1))
same_item item n m (Ok y) h = ap (before y.0) (h y.0 y.1 refl)
same_item item n m (Err e) h = refl

abbrev end_read : Bool × List ℕ → Read Bool
end_read x = Ok x

abbrev round : {A : Type 0} → (List ℕ → Read A) → ℕ → ℕ → List ℕ → Bool → Read (List A)
round {A = A} item n c b z = (if z then end_read (true, b) else end_read (false, c ∷ b)) >>= λ end. if end.0 then done {A = List A × List ℕ} ([], end.1) else item end.1 >>= λ first. before first.0 (ended_at item n first.1)

same_round : {A : Type 0} (item : List ℕ → Read A) (n m c : ℕ) (b : List ℕ) (z : Bool) → ((x : A) (rest : List ℕ) → item (c ∷ b) ≡ Ok (x, rest) → ended_at item n rest ≡ ended_at item m rest)
    → round item n c b z ≡ round item m c b z
same_round item n m c b true h = refl
same_round item n m c b false h = same_item item n m (item (c ∷ b)) h

-- any number of rounds that is enough gives the same
same_fuel : {A : Type 0} (item : List ℕ → Read A) → Shortens item → (n m : ℕ) (b : List ℕ) → length b ≤ n → length b ≤ m → ended_at item n b ≡ ended_at item m b
same_fuel item sh zero zero b p q = refl
same_fuel item sh zero (suc m) [] p q = refl
same_fuel item sh zero (suc m) (c ∷ b) p q = absurd (omega arith)
same_fuel item sh (suc n) zero [] p q = refl
same_fuel item sh (suc n) zero (c ∷ b) p q = absurd (omega arith)
same_fuel item sh (suc n) (suc m) [] p q = refl
same_fuel item sh (suc n) (suc m) (c ∷ b) p q =
    same_round item n m c b (is_zero c) (λ x rest e. let less : length rest < length (c ∷ b) = sh (c ∷ b) x rest e in same_fuel item sh n m rest (omega arith) (omega arith))

next : {A : Type 0} (item : List ℕ → Read A) → Shortens item → (c : ℕ) (b : List ℕ) (x : A) (rest : List ℕ) → is_zero c ≡ false → item (c ∷ b) ≡ Ok (x, rest)
    → ended_at item (length (c ∷ b)) (c ∷ b) ≡ before x (ended_at item (length rest) rest)
next item sh c b x rest nz e =
    let less : length rest < length (c ∷ b) = sh (c ∷ b) x rest e in
    let here : round item (length b) c b (is_zero c) ≡ before x (ended_at item (length b) rest) = rw (nz, e) refl in
    same_fuel item sh (length (c ∷ b)) (suc (length b)) (c ∷ b) (omega arith) (omega arith) ∙ here
    ∙ ap (before x) (same_fuel item sh (length b) (length rest) rest (omega arith) (omega arith))

no_next : {A : Type 0} (item : List ℕ → Read A) → Shortens item → (c : ℕ) (b : List ℕ) → is_zero c ≡ false → result_ok (item (c ∷ b)) ≡ None
    → is_some (result_ok (whole (ended_at item (length (c ∷ b)) (c ∷ b)))) ≡ false
no_next {A = A} item sh c b nz e =
    let here : is_some (result_ok (whole (round item (length b) c b (is_zero c)))) ≡ false
    = rw nz (refused_by (item (c ∷ b)) (λ first. before first.0 (ended_at item (length b) first.1)) e) in
    ap (λ (read : Read (List A)). is_some (result_ok (whole read))) (same_fuel item sh (length (c ∷ b)) (suc (length b)) (c ∷ b) (omega arith) (omega arith)) ∙ here

at_end : {A : Type 0} (item : List ℕ → Read A) → Shortens item → (c : ℕ) (b : List ℕ) → is_zero c ≡ true → ended_at item (length (c ∷ b)) (c ∷ b) ≡ Ok ([], b)
at_end item sh c b z =
    let here : round item (length b) c b (is_zero c) ≡ Ok ([], b) = rw z refl in
    same_fuel item sh (length (c ∷ b)) (suc (length b)) (c ∷ b) (omega arith) (omega arith) ∙ here

-- ---- fields

abbrev fields_whole : Read (List Field) → Bool
fields_whole read = is_some (result_ok (whole read))

field_is : (c : ℕ) (b t rest : List ℕ) → text_at b ≡ Ok (t, rest) → field_at (c ∷ b) ≡ Ok (record { code = c; value = t }, rest)
field_is c b t rest e = rw e refl

none_on : {A B : Type 0} (r : Read A) (f : A × List ℕ → Read B) → result_ok r ≡ None → result_ok (r >>= f) ≡ None
none_on (Ok x) f e = absurd cc
none_on (Err d) f e = refl

not_zero : (c : ℕ) → c ≢ 0 → is_zero c ≡ false
not_zero c ne = false_from_ne_true (is_zero c) (λ e. ne (eqb-true c 0 e))

pub field_more : (s : List ℕ) (c : ℕ) (b t rest : List ℕ) → s ≡ c ∷ b → c ≢ 0 → text_at b ≡ Ok (t, rest) → are_fields s ≡ are_fields rest
unfolding fields_at
field_more s c b t rest whole nz e =
    ap are_fields whole ∙ ap fields_whole (next field_at field_shortens c b (record { code = c; value = t }) rest (not_zero c nz) (field_is c b t rest e)) ∙ step (record { code = c; value = t }) (ended_at field_at (length rest) rest)

pub field_less : (s : List ℕ) (c : ℕ) (b t rest : List ℕ) → s ≡ c ∷ b → text_at b ≡ Ok (t, rest) → length rest < length s
field_less s c b t rest whole e = rw whole (field_shortens (c ∷ b) (record { code = c; value = t }) rest (field_is c b t rest e))

pub field_not : (s : List ℕ) (c : ℕ) (b : List ℕ) → s ≡ c ∷ b → c ≢ 0 → result_ok (text_at b) ≡ None → are_fields s ≡ false
unfolding fields_at
field_not s c b whole nz e = ap are_fields whole ∙ no_next field_at field_shortens c b (not_zero c nz) (none_on (text_at b) (λ value. done (record { code = c; value = value.0 }, value.1)) e)

pub fields_end : (s : List ℕ) (c : ℕ) (b : List ℕ) → s ≡ c ∷ b → c ≡ 0 → are_fields s ≡ is_some (result_ok (ended b))
unfolding fields_at
fields_end s c b whole z =
    let none : List Field = [] in
    ap are_fields whole ∙ ap fields_whole (at_end field_at field_shortens c b (ap is_zero z)) ∙ sym (alone (ended b) none)

pub no_fields : (s : List ℕ) → length s ≡ 0 → are_fields s ≡ false
unfolding fields_at
no_fields [] e = refl
no_fields (c ∷ b) e = absurd (omega arith)

pub fields_whole_at : (b : List ℕ) → are_fields b ≡ true → Some (listed (fields_at b)) ≡ result_ok (whole (fields_at b))
fields_whole_at b h = sym (is_listed (fields_at b) h)

pub fields_refused : (b : List ℕ) → are_fields b ≡ false → None ≡ result_ok (whole (fields_at b))
fields_refused b h = sym (none_by (result_ok (whole (fields_at b))) h)

pub not_both : (b : Bool) → b ≡ true → b ≡ false → ⊥
not_both b t f = true≢false (sym t ∙ f)

pub fields_none : (s : List ℕ) (c : ℕ) (b : List ℕ) → s ≡ c ∷ b → c ≡ 0 → listed (fields_at s) ≡ []
unfolding fields_at
fields_none s c b whole z = ap (λ (x : List ℕ). listed (fields_at x)) whole ∙ ap listed (at_end field_at field_shortens c b (ap is_zero z))

pub fields_parts : (s : List ℕ) (c : ℕ) (b t rest : List ℕ) → s ≡ c ∷ b → c ≢ 0 → text_at b ≡ Ok (t, rest) → are_fields rest ≡ true → listed (fields_at s) ≡ record { code = c; value = t } ∷ listed (fields_at rest)
unfolding fields_at
fields_parts s c b t rest whole nz e h =
    ap (λ (x : List ℕ). listed (fields_at x)) whole ∙ ap listed (next field_at field_shortens c b (record { code = c; value = t }) rest (not_zero c nz) (field_is c b t rest e))
    ∙ cons_listed (record { code = c; value = t }) (ended_at field_at (length rest) rest) h

-- ---- texts

pub short_text : (b : List ℕ) → zero_ended b ≡ Err Short → result_ok (text_at b) ≡ None
unfolding text_at
short_text b e = rw e refl
