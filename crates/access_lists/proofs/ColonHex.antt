-- IPv6 addresses without dots are those of the standard library's grammar that end in no IPv4 address.
use Rattle.std.proofs.Common.{◌≡◌, ℕ, ◌<◌, ◌||◌, Bool, true, false, List, [], ◌∷◌, ◌++◌, refl, sym, ◌∙◌, arith, inl, inr, true≢false}
use Rattle.std.specs.Prelude.{codes}
use Rattle.std.specs.List.{list_any}
use Rattle.std.specs.Fmt.{decimal}
use Rattle.std.specs.Char.{digit_value}
use Rattle.std.specs.Str.Parse.{AllDigits}
use Rattle.std.specs.Net.Grammar.{IsDotted, IsGroupsAfter}
use Rattle.std.specs.Net.Grammar as Std
use Rattle.std.proofs.lemmas.List.Folds.{list_any-append}
use Rattle.access_lists.specs.Addresses.{IsColonHex, is_dot}

-- ---- where dots stand

or_parts : (a b : Bool) → (a || b) ≡ false → (a ≡ false) × (b ≡ false)
or_parts true b e = absurd cc
or_parts false b e = (refl, e)

-- two parts without a dot
parts : (xs ys : List ℕ) → list_any is_dot (xs ++ ys) ≡ false → (list_any is_dot xs ≡ false) × (list_any is_dot ys ≡ false)
parts xs ys e = or_parts (list_any is_dot xs) (list_any is_dot ys) (sym (list_any-append is_dot xs ys) ∙ e)

joined : (xs ys : List ℕ) → list_any is_dot xs ≡ false → list_any is_dot ys ≡ false → list_any is_dot (xs ++ ys) ≡ false
joined xs ys e f = list_any-append is_dot xs ys ∙ rw (e, f) refl

digit_undotted : (c : ℕ) (b : Bool) → is_dot c ≡ b → digit_value c < 16 → b ≡ false
digit_undotted c true e lt = let is : c ≡ 46 = grind arith in let bad : digit_value 46 < 16 = rw is at lt in absurd (omega arith)
digit_undotted c false e lt = refl

digits_undotted : (ds : List ℕ) → AllDigits 16 ds → list_any is_dot ds ≡ false
digits_undotted [] h = refl
digits_undotted (c ∷ ds) h = let first : is_dot c ≡ false = digit_undotted c (is_dot c) refl h.0 in rw (first, digits_undotted ds h.1) refl

dotted_has_dot : (text octets : List ℕ) → IsDotted text octets → list_any is_dot text ≡ false → ⊥
dotted_has_dot text octets h e =
    let p = parts (decimal h.a ++ codes "." ++ decimal h.b ++ codes "." ++ decimal h.c ++ codes ".") (decimal h.d) (rw h.spelled at e) in
    let q = parts (decimal h.a ++ codes "." ++ decimal h.b ++ codes "." ++ decimal h.c) (codes ".") p.0 in
    true≢false q.1

-- ---- groups

pub groups_undotted : (lead text groups : List ℕ) → list_any is_dot lead ≡ false → IsGroupsAfter false lead text groups → list_any is_dot text ≡ false
groups_undotted lead text [] e h = rw h refl
groups_undotted lead text (g ∷ groups) e (inl h) =
    let rest : list_any is_dot h.1 ≡ false = groups_undotted (codes ":") h.1 groups refl h.4 in
    rw h.2 (joined (lead ++ h.0) h.1 (joined lead h.0 e (digits_undotted h.0 h.3.0.0.1)) rest)
groups_undotted lead text (g ∷ groups) e (inr h) = absurd cc

pub groups_in_std : (lead text groups : List ℕ) → IsGroupsAfter false lead text groups → IsGroupsAfter true lead text groups
groups_in_std lead text [] h = h
groups_in_std lead text (g ∷ groups) (inl h) = inl (h.0, h.1, h.2, h.3, groups_in_std (codes ":") h.1 groups h.4)
groups_in_std lead text (g ∷ groups) (inr h) = absurd cc

pub groups_of_std : (lead text groups : List ℕ) → list_any is_dot text ≡ false → IsGroupsAfter true lead text groups → IsGroupsAfter false lead text groups
groups_of_std lead text [] e h = h
groups_of_std lead text (g ∷ groups) e (inl h) =
    let p = parts (lead ++ h.0) h.1 (rw h.2 at e) in
    inl (h.0, h.1, h.2, h.3, groups_of_std (codes ":") h.1 groups p.1 h.4)
groups_of_std lead text (g ∷ groups) e (inr h) =
    let p = parts lead h.0 (rw h.3 at e) in
    absurd (dotted_has_dot h.0 h.1 h.4 p.1)

-- ---- addresses

pub undotted : (text groups : List ℕ) → IsColonHex text groups → list_any is_dot text ≡ false
undotted text groups (inl h) = groups_undotted [] text groups refl h.0
undotted text groups (inr h) =
    let head = groups_undotted [] h.head_text h.head refl h.head_groups in
    let tail = groups_undotted [] h.tail_text h.tail refl h.tail_groups in
    rw h.spelled (joined (h.head_text ++ codes "::") h.tail_text (joined h.head_text (codes "::") head refl) tail)

pub in_std : (text groups : List ℕ) → IsColonHex text groups → Std.IsColonHex text groups
in_std text groups (inl h) = inl (groups_in_std [] text groups h.0, h.1)
in_std text groups (inr h) = inr (record {
  head_text = h.head_text;
  tail_text = h.tail_text;
  head = h.head;
  tail = h.tail;
  spelled = h.spelled;
  head_groups = h.head_groups;
  tail_groups = groups_in_std [] h.tail_text h.tail h.tail_groups;
  room = h.room;
  value = h.value;
})

pub of_std : (text groups : List ℕ) → list_any is_dot text ≡ false → Std.IsColonHex text groups → IsColonHex text groups
of_std text groups e (inl h) = inl (groups_of_std [] text groups e h.0, h.1)
of_std text groups e (inr h) =
    let p = parts (h.head_text ++ codes "::") h.tail_text (rw h.spelled at e) in
    inr (record {
      head_text = h.head_text;
      tail_text = h.tail_text;
      head = h.head;
      tail = h.tail;
      spelled = h.spelled;
      head_groups = h.head_groups;
      tail_groups = groups_of_std [] h.tail_text h.tail p.1 h.tail_groups;
      room = h.room;
      value = h.value;
    })
