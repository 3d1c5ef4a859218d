-- The entries of a map by their names, and portals by theirs.
use Rattle.std.proofs.Common.{◌≡◌, ◌↔◌, ℕ, arith, length, Bool, true, false, cond, List, [], ◌∷◌, Option, Some, None, refl, sym, ap, ◌∙◌, string_bytes}
use Rattle.std.specs.Prelude.{if◌then◌else◌}
use Rattle.std.proofs.lemmas.Slice.Eq.{bytes_eq-Decides}
use Rattle.std.specs.Borrow.{Bor}
use Rattle.std.specs.Cmp.Lexicographic.{nat_list_eq_equiv}
use Rattle.std.specs.Map.{lookup, remove_entry}
use Rattle.std.specs.Option.{option_copied, option_map}
use Rattle.std.specs.Str.{bytes_eq}
use Rattle.std.specs.String.{string_eq}
use Rattle.std.specs.declared.alloc.Global.{Global}
use Rattle.std.specs.declared.string.String.{String}
use Rattle.indexmap.specs.IndexMap.{insert_entry}
use Rattle.mini_kind.specs.Dumps.{no_portals}
use Rattle.mini_kind.specs.Mini.{Portal, find_portal, put_portal, without_portal}
use Rattle.mini_portals.specs.Entries.{portal, portals_of}
use Rattle.mini_portals.specs.declared.portals.BoundStmt.{BoundStmt}

abbrev Entry : Type 0
Entry = String Global × BoundStmt

abbrev named : List ℕ → String Global → Bool
named n k = bytes_eq n (string_bytes k)

-- ---- a portal that is put in

pub inserted : (es : List Entry) (k : String Global) (b : BoundStmt) → portals_of (insert_entry (string_eq {Z = Global}) es k b) ≡ put_portal (portal (string_bytes k) b) (portals_of es)
inserted [] k b = refl
inserted (e ∷ es) k b = by (string_eq k e.0) (nat_list_eq_equiv.symm (string_bytes e.0) (string_bytes k)) (λ same. (bytes_eq-Decides (string_bytes k) (string_bytes e.0)).0 same) (inserted es k b)
  where
    by : (x : Bool) → bytes_eq (string_bytes e.0) (string_bytes k) ≡ x → (x ≡ true → string_bytes k ≡ string_bytes e.0) → portals_of (insert_entry (string_eq {Z = Global}) es k b) ≡ put_portal (portal (string_bytes k) b) (portals_of es)
        → portals_of (if x then (e.0, b) ∷ es else e ∷ insert_entry (string_eq {Z = Global}) es k b) ≡ put_portal (portal (string_bytes k) b) (portal (string_bytes e.0) e.1 ∷ portals_of es)
    by true n same more = rw n (ap (λ (m : List ℕ). portal m b ∷ portals_of es) (sym (same refl)))
    by false n same more = rw n (ap (λ (ps : List Portal). portal (string_bytes e.0) e.1 ∷ ps) more)

-- ---- a portal that is found

abbrev some_portal : Portal → Option Portal
some_portal p = Some p

pub found : (n : List ℕ) (es : List Entry) → option_map (portal n) (lookup (named n) es) ≡ find_portal n (portals_of es)
found n [] = refl
found n (e ∷ es) = by (bytes_eq n (string_bytes e.0)) (nat_list_eq_equiv.symm (string_bytes e.0) n) (λ same. (bytes_eq-Decides n (string_bytes e.0)).0 same) (found n es)
  where
    by : (x : Bool) → bytes_eq (string_bytes e.0) n ≡ x → (x ≡ true → n ≡ string_bytes e.0) → option_map (portal n) (lookup (named n) es) ≡ find_portal n (portals_of es)
        → option_map (portal n) (cond x (Some e.1) (lookup (named n) es)) ≡ find_portal n (portal (string_bytes e.0) e.1 ∷ portals_of es)
    by true s same more = rw s (ap (λ (m : List ℕ). some_portal (portal m e.1)) (same refl))
    by false s same more = rw s more

pub shown : (n : List ℕ) (r : Option (Bor BoundStmt)) → option_map (λ (b : Bor BoundStmt). portal n b.now) r ≡ option_map (portal n) (option_copied r)
shown n None = refl
shown n (Some b) = refl

-- ---- a portal that is removed

abbrev others : List ℕ → List Portal → List Portal
others n ps = without_portal n ps

-- where none has the name, none goes
none_goes : (n : List ℕ) (es : List Entry) → lookup (named n) es ≡ None → portals_of es ≡ others n (portals_of es)
none_goes n [] h = refl
none_goes n (e ∷ es) h = by (bytes_eq n (string_bytes e.0)) (nat_list_eq_equiv.symm (string_bytes e.0) n) h (none_goes n es)
  where
    by : (x : Bool) → bytes_eq (string_bytes e.0) n ≡ x → cond x (Some e.1) (lookup (named n) es) ≡ None → (lookup (named n) es ≡ None → portals_of es ≡ others n (portals_of es))
        → portal (string_bytes e.0) e.1 ∷ portals_of es ≡ others n (portal (string_bytes e.0) e.1 ∷ portals_of es)
    by true s h more = absurd cc
    by false s h more = rw s (ap (λ (ps : List Portal). portal (string_bytes e.0) e.1 ∷ ps) (more h))

pub removed : (n : List ℕ) (es : List Entry) → lookup (named n) (remove_entry (named n) es) ≡ None → portals_of (remove_entry (named n) es) ≡ others n (portals_of es)
removed n [] h = refl
removed n (e ∷ es) h = by (bytes_eq n (string_bytes e.0)) (nat_list_eq_equiv.symm (string_bytes e.0) n) refl h (removed n es)
  where
    kept : bytes_eq n (string_bytes e.0) ≡ false → cond (bytes_eq n (string_bytes e.0)) (Some e.1) (lookup (named n) (remove_entry (named n) es)) ≡ None → lookup (named n) (remove_entry (named n) es) ≡ None
    kept t h = ap (λ (x : Bool). cond x (Some e.1) (lookup (named n) (remove_entry (named n) es))) (sym t) ∙ h

    by : (x : Bool) → bytes_eq (string_bytes e.0) n ≡ x → bytes_eq n (string_bytes e.0) ≡ x → lookup (named n) (cond x es (e ∷ remove_entry (named n) es)) ≡ None
        → (lookup (named n) (remove_entry (named n) es) ≡ None → portals_of (remove_entry (named n) es) ≡ others n (portals_of es))
        → portals_of (cond x es (e ∷ remove_entry (named n) es)) ≡ others n (portal (string_bytes e.0) e.1 ∷ portals_of es)
    by true s t h more = rw s (none_goes n es h)
    by false s t h more = rw s (ap (λ (ps : List Portal). portal (string_bytes e.0) e.1 ∷ ps) (more (kept t h)))

-- ---- no portals

pub empty : (b : Bool) (es : List Entry) → ((b ≡ true) ↔ (length es ≡ 0)) → b ≡ no_portals (portals_of es)
empty true [] h = refl
empty true (e ∷ es) h = absurd (omega (arith, h.0 refl))
empty false [] h = absurd (let q : false ≡ true = h.1 refl in cc)
empty false (e ∷ es) h = refl
