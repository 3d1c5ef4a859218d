-- Values within a frame's room are values.
use Rattle.std.proofs.Common.{◌≡◌, ℕ, ◌+◌, ◌<◌, ◌≤◌, ◌^◌, ◌⊎◌, inl, inr, Option, List, [], ◌∷◌, length, Result, OnOk, sym, subst, arith}
use Rattle.std.specs.List.{flat_map, AllByRecursion}
use Rattle.std.proofs.lemmas.List.{length-append}
use Rattle.std.proofs.lemmas.Result.{on_ok_weaker}
use Rattle.pgw_messages.specs.declared.frontend.bind.BindMsg.{BindMsg}
use Rattle.pgw_messages.specs.declared.frontend.message.FrontMsg.TheVariants as front
use Rattle.pgw_messages.specs.declared.backend.message.BackMsg.{BackMsg}
use Rattle.pgw_messages.specs.declared.backend.message.BackMsg.TheVariants as back
use Rattle.pgw_messages.specs.Spelling.{value_bytes, HasNoZero, FitsValue, IsText, IsValue, IsList}
use Rattle.pgw_messages.specs.declared.backend.fields.Field.{Field}
use Rattle.pgw_messages.specs.Fields.{IsField, CanWriteField}
use Rattle.pgw_messages.specs.Frontend.{CanWriteFront, IsBind}
use Rattle.pgw_messages.specs.Backend.{CanWriteBack, IsBack}
use Rattle.pgw_messages.proofs.Written.{given}

within : {A : Type 0} (item : A → List ℕ) (most : ℕ) (xs : List A) → length (flat_map item xs) ≤ most → AllByRecursion (λ x. length (item x) ≤ most) xs
within item most [] le = tt
within item most (x ∷ xs) le =
    let both : length (item x) + length (flat_map item xs) ≤ most = simp length-append at le in
    (omega arith, within item most xs (omega arith))

pub values_are : (vs : List (Option (List ℕ))) → length (flat_map value_bytes vs) ≤ 16777216 → IsList (λ v. FitsValue v → IsValue v) vs → IsList IsValue vs
values_are vs le is = record { count = is.count; each = given FitsValue IsValue vs is.each (within value_bytes 16777216 vs le) }

-- a row with room in a frame
pub row_is : {T E : Type 0} (m : BackMsg) (vs : List (Option (List ℕ))) (r : Result T E) → m ≡ back.Row vs → (length vs ≤ 65535 → OnOk r (IsList (λ v. FitsValue v → IsValue v) vs)) → CanWriteBack m → OnOk r (IsBack m)
row_is m vs r e good can =
    let c : CanWriteBack (back.Row vs) = subst CanWriteBack e can in
    let room : length (flat_map value_bytes vs) ≤ 16777216 = omega (arith, c.room) in
    subst (λ (n : BackMsg). OnOk r (IsBack n)) (sym e) (on_ok_weaker r (values_are vs room) (good c.fields))

-- the fields of an error or a notice
pub fields_are : {T E : Type 0} (m : BackMsg) (fs : List Field) (r : Result T E) → (m ≡ back.Fault fs) ⊎ (m ≡ back.Notice fs) → OnOk r (AllByRecursion (λ f. CanWriteField f → IsField f) fs) → CanWriteBack m → OnOk r (IsBack m)
fields_are m fs r (inl e) good can = subst (λ (n : BackMsg). OnOk r (IsBack n)) (sym e) (on_ok_weaker r (λ is. given CanWriteField IsField fs is (subst CanWriteBack e can).fields) good)
fields_are m fs r (inr e) good can = subst (λ (n : BackMsg). OnOk r (IsBack n)) (sym e) (on_ok_weaker r (λ is. given CanWriteField IsField fs is (subst CanWriteBack e can).fields) good)

-- a Bind, by what is so of its parts
pub bind_is : (m : BindMsg) → (HasNoZero m.portal → IsText m.portal) → (HasNoZero m.statement → IsText m.statement)
    → (length m.formats ≤ 65535 → IsList (λ n. n < 2 ^ 16) m.formats) → (length m.values ≤ 65535 → IsList (λ v. FitsValue v → IsValue v) m.values) → (length m.results ≤ 65535 → IsList (λ n. n < 2 ^ 16) m.results)
    → CanWriteFront (front.Bind m) → IsBind m
bind_is m portal statement formats values results can =
    let (p, s, f, v, r) = can.fields in
    let room : length (flat_map value_bytes m.values) ≤ 16777216 = omega (arith, simp length-append at can.room) in
    record { portal = portal p; statement = statement s; formats = formats f; values = values_are m.values room (values v); results = results r }
