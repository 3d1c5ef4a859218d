-- Lists up to a zero byte, both ways.
use Rattle.std.proofs.Common.{◌≡◌, ℕ, zero, suc, ◌+◌, ◌<◌, Bool, true, false, List, [], ◌∷◌, ◌++◌, length, Ok, refl, sym, ap, subst, ◌∙◌, append_assoc, true≢false, arith}
use Rattle.std.specs.Prelude.{if◌then◌else◌}
use Rattle.std.specs.List.{flat_map, AllByRecursion}
use Rattle.std.proofs.lemmas.Bool.{eqb-true}
use Rattle.std.proofs.lemmas.List.{length-append}
use Rattle.pgw_frames.specs.Frames.{IsBytes}
use Rattle.pgw_messages.specs.declared.backend.fields.Field.{Field}
use Rattle.pgw_messages.specs.Reading.{Read, ◌>>=◌, is_zero, end_at, ended_at}
use Rattle.pgw_messages.specs.Spelling.{text_bytes}
use Rattle.pgw_messages.specs.Fields.{field_at, field_bytes, IsField, fields_at, fields_bytes}
use Rattle.pgw_messages.proofs.Ended.{bind_ok, going}
use Rattle.pgw_messages.proofs.Codecs.{Codec, Takes, Takes-then, step, again_then, carried, ok_is, byte, text, IsBytes-rest}

-- the bytes of an item begin with one that ends no list
pub record Begins (b : List ℕ) : Type 0 where
  pub first : ℕ
  pub more : List ℕ
  pub whole : b ≡ first ∷ more
  pub some : is_zero first ≡ false

abbrev ok_end : Bool × List ℕ → Read Bool
ok_end x = Ok x

end_by : (c : ℕ) (b rest : List ℕ) (x : Bool) → is_zero c ≡ x → (if x then ok_end (true, b) else ok_end (false, c ∷ b)) ≡ ok_end (true, rest) → c ∷ b ≡ 0 ∷ rest
end_by c b rest true z e =
    let same : b ≡ rest = ap (λ (p : Bool × List ℕ). p.1) (ok_is (true, b) (true, rest) e) in
    let none : c ≡ 0 = eqb-true c 0 z in
    rw (none, same) refl
end_by c b rest false z e = absurd (true≢false (sym (ap (λ (p : Bool × List ℕ). p.0) (ok_is (false, c ∷ b) (true, rest) e))))

-- where the list ends, a zero byte stands
ends_with : (b rest : List ℕ) → end_at b ≡ ok_end (true, rest) → b ≡ 0 ∷ rest
ends_with [] rest e = absurd cc
ends_with (c ∷ b) rest e = end_by c b rest (is_zero c) refl e

going_by : (c : ℕ) (b rest : List ℕ) (x : Bool) → (if x then ok_end (true, b) else ok_end (false, c ∷ b)) ≡ ok_end (false, rest) → x ≡ false
going_by c b rest true e = absurd (true≢false (ap (λ (p : Bool × List ℕ). p.0) (ok_is (true, b) (false, rest) e)))
going_by c b rest false e = refl

-- where it goes on, another byte stands
goes_on : (c : ℕ) (b rest : List ℕ) → end_at (c ∷ b) ≡ ok_end (false, rest) → is_zero c ≡ false
goes_on c b rest e = going_by c b rest (is_zero c) e

abbrev ok_list : {A : Type 0} → List A × List ℕ → Read (List A)
ok_list x = Ok x

-- ---- what is read is spelled so

abbrev ItemTakes : {A : Type 0} → (List ℕ → Read A) → (A → List ℕ) → (A → Type 0) → Type 0
ItemTakes {A} item bytes Is = (b : List ℕ) (x : A) (rest : List ℕ) → IsBytes b → end_at b ≡ ok_end (false, b) → item b ≡ Ok (x, rest) → Takes b (bytes x) rest × Is x

read_by : {A : Type 0} (item : List ℕ → Read A) (bytes : A → List ℕ) (Is : A → Type 0) → ItemTakes item bytes Is → (n : ℕ)
    → ((b : List ℕ) (xs : List A) (rest : List ℕ) → IsBytes b → ended_at item n b ≡ ok_list (xs, rest) → Takes b (flat_map bytes xs ++ 0 ∷ []) rest × AllByRecursion Is xs)
    → (b : List ℕ) (end : Bool) (more : List ℕ) (xs : List A) (rest : List ℕ) → IsBytes b → end_at b ≡ ok_end (end, more)
    → (if end then ok_list ([], more) else item more >>= λ first. ended_at item n first.1 >>= λ others. ok_list (first.0 ∷ others.0, others.1)) ≡ ok_list (xs, rest)
    → Takes b (flat_map bytes xs ++ 0 ∷ []) rest × AllByRecursion Is xs
read_by {A} item bytes Is takes n others b true more xs rest fits end e =
    let whole : b ≡ 0 ∷ more = ends_with b more end in
    let left : IsBytes more = IsBytes-rest 0 more (subst IsBytes whole fits) in
    carried (λ (y : List A × List ℕ). Takes b (flat_map bytes y.0 ++ 0 ∷ []) y.1 × AllByRecursion Is y.0) ([], more) (xs, rest) e (record { parts = whole; rest_fits = left }, tt)
read_by {A} item bytes Is takes n others b false more xs rest fits end e =
    let same : more ≡ b = going b more end in
    let here : end_at b ≡ ok_end (false, b) = end ∙ ap (λ (t : List ℕ). ok_end (false, t)) same in
    let first = bind_ok (item more) (λ first. ended_at item n first.1 >>= λ others. ok_list (first.0 ∷ others.0, others.1)) (xs, rest) e in
    let t = takes b first.0.0 first.0.1 fits here (sym (ap item same) ∙ first.1) in
    let second = bind_ok (ended_at item n first.0.1) (λ others. ok_list (first.0.0 ∷ others.0, others.1)) (xs, rest) first.2 in
    let u = others first.0.1 second.0.0 second.0.1 t.0.rest_fits second.1 in
    let both : Takes b (bytes first.0.0 ++ (flat_map bytes second.0.0 ++ 0 ∷ [])) second.0.1 = Takes-then t.0 u.0 in
    let all : Takes b (flat_map bytes (first.0.0 ∷ second.0.0) ++ 0 ∷ []) second.0.1 = subst (λ (s : List ℕ). Takes b s second.0.1) (sym (append_assoc (bytes first.0.0) (flat_map bytes second.0.0) (0 ∷ []))) both in
    carried (λ (y : List A × List ℕ). Takes b (flat_map bytes y.0 ++ 0 ∷ []) y.1 × AllByRecursion Is y.0) (first.0.0 ∷ second.0.0, second.0.1) (xs, rest) second.2 (all, (t.1, u.1))

ended_takes : {A : Type 0} (item : List ℕ → Read A) (bytes : A → List ℕ) (Is : A → Type 0) → ItemTakes item bytes Is → (n : ℕ) (b : List ℕ) (xs : List A) (rest : List ℕ) → IsBytes b → ended_at item n b ≡ ok_list (xs, rest)
    → Takes b (flat_map bytes xs ++ 0 ∷ []) rest × AllByRecursion Is xs
ended_takes item bytes Is takes zero b xs rest fits e = absurd cc
ended_takes item bytes Is takes (suc n) b xs rest fits e =
    let s = bind_ok (end_at b) (λ end. if end.0 then ok_list ([], end.1) else item end.1 >>= λ first. ended_at item n first.1 >>= λ others. ok_list (first.0 ∷ others.0, others.1)) (xs, rest) e in
    read_by item bytes Is takes n (ended_takes item bytes Is takes n) b s.0.0 s.0.1 xs rest fits s.1 s.2

-- ---- what is spelled so is read

going_again : (b rest : List ℕ) → Begins b → end_at (b ++ rest) ≡ ok_end (false, b ++ rest)
going_again b rest h = rw h.whole (rw h.some refl)

long : (b : List ℕ) → Begins b → 0 < length b
long b h = rw h.whole (omega arith)

pub ended_again : {A : Type 0} (item : List ℕ → Read A) (bytes : A → List ℕ) (Is : A → Type 0) → ((x : A) (rest : List ℕ) → Is x → item (bytes x ++ rest) ≡ Ok (x, rest)) → ((x : A) → Is x → Begins (bytes x))
    → (n : ℕ) (xs : List A) (rest : List ℕ) → length (flat_map bytes xs) < n → AllByRecursion Is xs → ended_at item n (flat_map bytes xs ++ (0 ∷ rest)) ≡ ok_list (xs, rest)
ended_again item bytes Is again begins zero xs rest lt is = absurd (omega arith)
ended_again item bytes Is again begins (suc n) [] rest lt is = refl
ended_again item bytes Is again begins (suc n) (x ∷ xs) rest lt is =
    let behind : List ℕ = flat_map bytes xs ++ (0 ∷ rest) in
    let regrouped : flat_map bytes (x ∷ xs) ++ (0 ∷ rest) ≡ bytes x ++ behind = append_assoc (bytes x) (flat_map bytes xs) (0 ∷ rest) in
    let some : 0 < length (bytes x) = long (bytes x) (begins x is.0) in
    let total : length (bytes x) + length (flat_map bytes xs) < suc n = simp length-append at lt in
    ap (ended_at item (suc n)) regrouped ∙ rw (going_again (bytes x) behind (begins x is.0), again x behind is.0, ended_again item bytes Is again begins n xs rest (omega arith) is.1) refl

-- ---- the fields of an error

field_takes : ItemTakes field_at field_bytes IsField
field_takes b f rest fits end e =
    let code = step byte b _ (f, rest) fits e in
    let value = step text code.rest _ (f, rest) code.takes.rest_fits code.next in
    let made : Field = record { code = code.value; value = value.value } in
    let front : b ≡ code.value ∷ code.rest = code.takes.parts in
    let some : is_zero code.value ≡ false = goes_on code.value code.rest b (sym (ap end_at front) ∙ end) in
    let above : 0 < code.value = grind (arith, some) in
    carried (λ (y : Field × List ℕ). Takes b (field_bytes y.0) y.1 × IsField y.0) (made, value.rest) (f, rest) value.next (Takes-then code.takes value.takes, record { some = above; code = code.is; value = value.is })

field_again : (f : Field) (rest : List ℕ) → IsField f → field_at (field_bytes f ++ rest) ≡ Ok (f, rest)
field_again f rest is = again_then text f.value rest _ is.value

field_begins : (f : Field) → IsField f → Begins (field_bytes f)
field_begins f is = let h : 0 < f.code = is.some in record { first = f.code; more = text_bytes f.value; whole = refl; some = grind arith }

fields_takes : (b : List ℕ) (fs : List Field) (rest : List ℕ) → IsBytes b → fields_at b ≡ ok_list (fs, rest) → Takes b (fields_bytes fs) rest × AllByRecursion IsField fs
unfolding fields_at
fields_takes b fs rest fits e = ended_takes field_at field_bytes IsField field_takes (length b) b fs rest fits e

fields_again : (fs : List Field) (rest : List ℕ) → AllByRecursion IsField fs → fields_at (fields_bytes fs ++ rest) ≡ ok_list (fs, rest)
unfolding fields_at
fields_again fs rest is =
    let regrouped : fields_bytes fs ++ rest ≡ flat_map field_bytes fs ++ (0 ∷ rest) = append_assoc (flat_map field_bytes fs) (0 ∷ []) rest in
    let total : length (flat_map field_bytes fs) < length (flat_map field_bytes fs ++ (0 ∷ rest)) = omega (arith, length-append (flat_map field_bytes fs) (0 ∷ rest)) in
    ap (λ (b : List ℕ). ended_at field_at (length b) b) regrouped ∙ ended_again field_at field_bytes IsField field_again field_begins (length (flat_map field_bytes fs ++ (0 ∷ rest))) fs rest total is

pub fields : Codec fields_at fields_bytes (λ fs. AllByRecursion IsField fs)
fields = record { takes = fields_takes; again = fields_again }
