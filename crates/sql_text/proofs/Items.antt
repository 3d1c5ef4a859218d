-- Reading the items of a list one after the other, as a loop does.
use Rattle.std.proofs.Common.{◌≡◌, ℕ, zero, suc, ◌-◌, ◌+◌, ◌≤◌, ◌<◌, Bool, true, false, List, [], ◌∷◌, ◌++◌, Result, Ok, Err, refl, sym, ap, ◌∙◌, append_assoc, arith, codes}
use Rattle.std.proofs.lemmas.List.{append-nil}
use Rattle.std.specs.Prelude.{if◌then◌else◌}
use Rattle.sql_text.specs.declared.fault.SqlFault.{SqlFault}
use Rattle.sql_text.specs.declared.fault.SqlFault.TheVariants as fault
use Rattle.sql_text.specs.Answers.{Fails}
use Rattle.sql_text.specs.Grammar.{Cursor, Form, ◌>>=◌, after, behind, fault_at, more_form, sees, with_front}

regroup : {A : Type 0} (front : List A) (x : A) (read : Form (List A)) → with_front front (read >>= λ y. Ok (x ∷ y.0, y.1)) ≡ with_front (front ++ x ∷ []) read
regroup front x (Ok y) = ap (λ xs. Ok (xs, y.1)) (simp append_assoc)
regroup front x (Err f) = refl

bind_fails : {A B : Type 0} (e : SqlFault) (read : Form A) (f : A × Cursor → Form B) → Fails e read → Fails e (read >>= f)
bind_fails (fault.BadToken n) read f h = rw h refl
bind_fails (fault.BadSyntax n) read f h = rw h refl
bind_fails (fault.NumberRange n) read f h = rw h refl
bind_fails fault.NoMemory read f h = tt

fails_as : {A : Type 0} (e : SqlFault) (read other : Form A) → read ≡ other → Fails e read → Fails e other
fails_as e read other same h = rw (← same) h

abbrev comma : List ℕ
comma = codes ","

-- one more item, behind the comma that was taken
more_suc : {A : Type 0} (item : Cursor → Form A) (n : ℕ) (c : Cursor) → sees comma c ≡ true → more_form item (suc n) c ≡ (item (after comma c) >>= λ x. more_form item n x.1 >>= λ xs. Ok (x.0 ∷ xs.0, xs.1))
more_suc item n c h = rw h refl

no_more : {A : Type 0} (item : Cursor → Form A) (n : ℕ) (c : Cursor) → sees comma c ≡ false → more_form item n c ≡ Ok ([], c)
no_more item zero c h = rw h refl
no_more item (suc n) c h = rw h refl

as_it_was : (c : Cursor) → sees comma c ≡ false → after comma c ≡ c
as_it_was c h = rw h refl

pub ends : {A : Type 0} (item : Cursor → Form A) (front : List A) (n : ℕ) (c left : Cursor) (total : Form (List A)) → sees comma c ≡ false → left ≡ after comma c
    → with_front front (more_form item n c) ≡ total → total ≡ Ok (front, left)
ends item front n c left total h is so_far =
    let one : with_front front (more_form item n c) ≡ Ok (front, c) = ap (with_front front) (no_more item n c h) ∙ ap (λ xs. Ok (xs, c)) (append-nil front) in
    let same : left ≡ c = is ∙ as_it_was c h in
    sym so_far ∙ one ∙ ap (λ (l : Cursor). Ok (front, l)) (sym same)

pub goes_on : {A : Type 0} (item : Cursor → Form A) (front : List A) (most i : ℕ) (c next : Cursor) (x : A) (left : Cursor) (total : Form (List A)) → i < most → sees comma c ≡ true → next ≡ after comma c → item next ≡ Ok (x, left)
    → with_front front (more_form item (most - i) c) ≡ total → with_front (front ++ x ∷ []) (more_form item (most - (i + 1)) left) ≡ total
goes_on item front most i c next x left total lt h is read so_far =
    let k : most - i ≡ suc (most - (i + 1)) = omega arith in
    let there : item (after comma c) ≡ Ok (x, left) = ap item (sym is) ∙ read in
    let step : more_form item (most - i) c ≡ (more_form item (most - (i + 1)) left >>= λ xs. Ok (x ∷ xs.0, xs.1)) = rw k (more_suc item (most - (i + 1)) c h ∙ rw there refl) in
    sym (ap (with_front front) step ∙ regroup front x (more_form item (most - (i + 1)) left)) ∙ so_far

pub stops : {A : Type 0} (e : SqlFault) (item : Cursor → Form A) (front : List A) (most i : ℕ) (c next : Cursor) (total : Form (List A)) → i < most → sees comma c ≡ true → next ≡ after comma c → Fails e (item next)
    → with_front front (more_form item (most - i) c) ≡ total → Fails e total
stops {A = A} e item front most i c next total lt h is failed so_far =
    let k : most - i ≡ suc (most - (i + 1)) = omega arith in
    let there : Fails e (item (after comma c)) = fails_as e (item next) (item (after comma c)) (ap item is) failed in
    let inner = bind_fails e (item (after comma c)) (λ x. more_form item (most - (i + 1)) x.1 >>= λ xs. Ok (x.0 ∷ xs.0, xs.1)) there in
    let read : Form (List A) = item (after comma c) >>= λ x. more_form item (most - (i + 1)) x.1 >>= λ xs. Ok (x.0 ∷ xs.0, xs.1) in
    let step : more_form item (most - i) c ≡ read = rw k (more_suc item (most - (i + 1)) c h) in
    fails_as e (with_front front read) total (ap (with_front front) (sym step) ∙ so_far) (bind_fails e read (λ xs. Ok (front ++ xs.0, xs.1)) inner)

-- one item too many
pub one_more : {A : Type 0} (item : Cursor → Form A) (front : List A) (most i : ℕ) (c left : Cursor) (total : Form (List A)) → most ≤ i → sees comma c ≡ true → left ≡ after comma c
    → with_front front (more_form item (most - i) c) ≡ total → total ≡ Err (fault_at left)
one_more item front most i c left total le h is so_far =
    let k : most - i ≡ 0 = omega arith in
    let there : left ≡ behind c = is ∙ rw h refl in
    let step : with_front front (more_form item (most - i) c) ≡ Err (fault_at left) = rw (k, h, there) refl in
    sym so_far ∙ step
