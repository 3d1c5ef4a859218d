-- Fields and pairs take bytes, and are gathered in order.
use Rattle.std.proofs.Common.{◌≡◌, ℕ, ◌<◌, Bool, false, List, [], ◌∷◌, ◌++◌, length, Ok, Err, refl, sym, ap, ◌∙◌, append_assoc, arith}
use Rattle.std.proofs.lemmas.List.{append-nil}
use Rattle.pgw_messages.specs.declared.backend.fields.Field.{Field}
use Rattle.pgw_messages.specs.declared.params.Pair.{Pair}
use Rattle.pgw_messages.specs.Params.{with_value, put_all}
use Rattle.pgw_messages.specs.Reading.{Read, ◌>>=◌, byte_at, text_at, end_at}
use Rattle.pgw_messages.specs.Fields.{field_at, fields_at}
use Rattle.pgw_messages.specs.Startup.{pair_at, pairs_at}
use Rattle.pgw_messages.proofs.Ended.{Gathers, Keeps, begins, going, goes_on, bind_ok, text_shortens}

still : (b : List ℕ) (x : Bool) (more : List ℕ) → end_at b ≡ Ok (x, more) → x ≡ false → end_at b ≡ Ok (false, more)
still b x more e is = e ∙ ap (λ (y : Bool). Ok (y, more)) is

-- ---- fields

abbrev pub FieldsKeep : List Field → List ℕ → Read (List Field) → Type 0
FieldsKeep fields b total = Keeps field_at (λ front xs. front ++ xs) fields b total

appends : Gathers {A = Field} {S = List Field} (λ front x. front ++ x ∷ []) (λ front xs. front ++ xs)
appends = record { none = λ front. append-nil front; one = λ front x xs. sym (append_assoc front (x ∷ []) xs) }

alone : (read : Read (List Field)) → (read >>= λ x. Ok ([] ++ x.0, x.1)) ≡ read
alone (Ok x) = refl
alone (Err e) = refl

pub fields_begin : (b : List ℕ) → FieldsKeep [] b (fields_at b)
unfolding fields_at
fields_begin b = begins field_at (λ front xs. front ++ xs) [] b (fields_at b) (alone (fields_at b))

abbrev ok_byte : ℕ × List ℕ → Read ℕ
ok_byte x = Ok x

bytes_are : (x y : ℕ × List ℕ) → ok_byte x ≡ ok_byte y → x ≡ y
bytes_are x y e = cc

byte_shortens : (b : List ℕ) (x : ℕ × List ℕ) → byte_at b ≡ Ok x → length x.1 < length b
byte_shortens [] x e = absurd cc
byte_shortens (c ∷ b) x e = let is : b ≡ x.1 = ap (λ (p : ℕ × List ℕ). p.1) (bytes_are (c, b) x e) in rw (← is) (omega arith)

abbrev ok_field : Field × List ℕ → Read Field
ok_field x = Ok x

field_is : (x y : Field × List ℕ) → ok_field x ≡ ok_field y → x ≡ y
field_is x y e = cc

pub field_shortens : (b : List ℕ) (x : Field) (rest : List ℕ) → field_at b ≡ Ok (x, rest) → length rest < length b
field_shortens b x rest e =
    let c = bind_ok (byte_at b) (λ code. text_at code.1 >>= λ value. ok_field (record { code = code.0; value = value.0 }, value.1)) (x, rest) e in
    let v = bind_ok (text_at c.0.1) (λ value. ok_field (record { code = c.0.0; value = value.0 }, value.1)) (x, rest) c.2 in
    let is : v.0.1 ≡ rest = ap (λ (p : Field × List ℕ). p.1) (field_is (record { code = c.0.0; value = v.0.0 }, v.0.1) (x, rest) v.2) in
    let first : length c.0.1 < length b = byte_shortens b c.0 c.1 in
    let second : length v.0.1 < length c.0.1 = text_shortens c.0.1 v.0.0 v.0.1 v.1 in
    rw (← is) (omega arith)

pub field_smaller : (b more : List ℕ) (end : Bool) (x : Field) (rest : List ℕ) → end_at b ≡ Ok (end, more) → end ≡ false → field_at more ≡ Ok (x, rest) → length rest < length b
field_smaller b more end x rest e is f = let same : more ≡ b = going b more (still b end more e is) in rw (← same) (field_shortens more x rest f)

pub field_goes_on : (fields : List Field) (b more : List ℕ) (end : Bool) (x : Field) (rest : List ℕ) (total : Read (List Field))
    → FieldsKeep fields b total → end_at b ≡ Ok (end, more) → end ≡ false → field_at more ≡ Ok (x, rest) → FieldsKeep (fields ++ x ∷ []) rest total
field_goes_on fields b more end x rest total k e is f =
    goes_on (λ front x. front ++ x ∷ []) (λ front xs. front ++ xs) appends field_at fields b more x rest total k (still b end more e is) f (field_shortens more x rest f)

-- ---- pairs

puts : Gathers {A = Pair} {S = List Pair} (λ p q. with_value q.name q.value p) put_all
puts = record { none = λ p. refl; one = λ p q qs. refl }

pub pairs_begin : (b : List ℕ) → Keeps pair_at put_all [] b (pairs_at b)
unfolding pairs_at
pairs_begin b = begins pair_at put_all [] b (pairs_at b) refl

pub pair_smaller : (b more name behind value rest : List ℕ) (end : Bool) → end_at b ≡ Ok (end, more) → end ≡ false → text_at more ≡ Ok (name, behind) → text_at behind ≡ Ok (value, rest) → length rest < length b
pair_smaller b more name behind value rest end e is n v =
    let same : more ≡ b = going b more (still b end more e is) in
    let first : length behind < length more = text_shortens more name behind n in
    let second : length rest < length behind = text_shortens behind value rest v in
    rw (← same) (omega arith)

pub pair_goes_on : (p : List Pair) (b more name behind value rest : List ℕ) (end : Bool) (total : Read (List Pair))
    → Keeps pair_at put_all p b total → end_at b ≡ Ok (end, more) → end ≡ false → text_at more ≡ Ok (name, behind) → text_at behind ≡ Ok (value, rest) → Keeps pair_at put_all (with_value name value p) rest total
pair_goes_on p b more name behind value rest end total k e is n v =
    let first : length behind < length more = text_shortens more name behind n in
    let second : length rest < length behind = text_shortens behind value rest v in
    goes_on (λ p q. with_value q.name q.value p) put_all puts pair_at p b more (record { name = name; value = value }) rest total k (still b end more e is) (rw (n, v) refl) (omega arith)
