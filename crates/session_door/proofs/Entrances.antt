-- What one piece more makes of an entrance.
use Rattle.std.proofs.Common.{◌≡◌, ℕ, ◌+◌, ◌-◌, ◌≤◌, ◌<◌, Bool, true, false, List, [], ◌++◌, length, take, refl, sym, ap, ◌∙◌, subst, arith, true≢false, length-take, length-append}
use Rattle.std.specs.Prelude.{not, nat_lt, if◌then◌else◌}
use Rattle.std.proofs.lemmas.Bool.{ltb-true, ltb-false}
use Rattle.std.proofs.lemmas.List.{take-append-le}
use Rattle.std.proofs.Math.Seq.{take-append-add}
use Rattle.startup_route.specs.Entrances.{Entrance, entrance, entrance_with, is_need, wanted, step_between}
use Rattle.startup_route.specs.Packets.{step_of}
use Rattle.startup_route.specs.Doors.{goes_on, said_by}
use Rattle.startup_route.specs.declared.step.DoorStep.{DoorStep}
use Rattle.startup_route.specs.declared.step.DoorStep.TheVariants as step
use Rattle.startup_route.proofs.EntranceLemmas.{feeds, wanted_needed}
use Rattle.session_door.specs.Entering.{IsLeast}

not_same : (a b : Bool) → not a ≡ not b → a ≡ b
not_same true true e = refl
not_same true false e = absurd (true≢false (sym e))
not_same false true e = absurd (true≢false e)
not_same false false e = refl

pub opens_with : (entrance []).step ≡ step.Need
unfolding entrance_with step_of
opens_with = refl

pub says_nothing : (entrance []).says ≡ 0
unfolding entrance_with step_of
says_nothing = refl

-- the step that is answered, and the entrance behind it
pub record Next (fed p : List ℕ) (s : DoorStep) : Type 0 where
  pub says : (entrance (fed ++ p)).says ≡ (entrance fed).says + said_by s
  pub need : is_need (entrance (fed ++ p)).step ≡ goes_on s
  pub known : goes_on s ≡ false → (entrance (fed ++ p)).step ≡ s

known_if : (b : Bool) (x : DoorStep) → goes_on (if b then step.Say else x) ≡ false → x ≡ (if b then step.Say else x)
known_if true x h = absurd (true≢false h)
known_if false x h = refl

pub next_step : (fed p : List ℕ) → 0 < length p → length p ≤ wanted fed → Next fed p (step_between (entrance fed) (entrance (fed ++ p)))
next_step fed p some le =
    let f = feeds fed p some le in
    let s : DoorStep = step_between (entrance fed) (entrance (fed ++ p)) in
    record {
      says = sym (subst (λ (t : DoorStep). (entrance fed).says + said_by t ≡ (entrance (fed ++ p)).says) f.answer f.knows.says_is);
      need = sym (not_same _ _ (subst (λ (t : DoorStep). not (goes_on t) ≡ not (is_need (entrance (fed ++ p)).step)) f.answer f.knows.over_is));
      known = known_if (nat_lt (entrance fed).says (entrance (fed ++ p)).says) (entrance (fed ++ p)).step;
    }

pub least_none : IsLeast []
least_none n h = absurd (omega (arith, h))

-- with a piece that was wanted
pub least_more : (fed p : List ℕ) → is_need (entrance fed).step ≡ true → length p ≤ wanted fed → IsLeast fed → IsLeast (fed ++ p)
least_more fed p need le least n h = by (nat_lt n (length fed)) refl
  where
    whole : length (fed ++ p) ≡ length fed + length p
    whole = length-append fed p

    within : n ≤ length fed → n < length fed → is_need (entrance (take n (fed ++ p))).step ≡ true
    within a b = subst (λ (v : List ℕ). is_need (entrance v).step ≡ true) (sym (take-append-le n fed p a)) (least n b)

    behind : (j : ℕ) → n ≡ length fed + j → j < length p → is_need (entrance (take n (fed ++ p))).step ≡ true
    behind j e b =
        let front : take n (fed ++ p) ≡ fed ++ take j p = ap (λ (x : ℕ). take x (fed ++ p)) e ∙ take-append-add fed p j in
        let few : length (take j p) < wanted fed = omega (arith, length-take j p, b, le) in
        let same : entrance (fed ++ take j p) ≡ entrance fed = (wanted_needed fed (take j p) need).1 few in
        subst (λ (v : List ℕ). is_need (entrance v).step ≡ true) (sym front) (ap (λ (o : Entrance). is_need o.step) same ∙ need)

    by : (b : Bool) → nat_lt n (length fed) ≡ b → is_need (entrance (take n (fed ++ p))).step ≡ true
    by true e = let lt : n < length fed = ltb-true n (length fed) e in within (omega (arith, lt)) lt
    by false e = let ge : length fed ≤ n = ltb-false n (length fed) e in behind (n - length fed) (omega (arith, ge)) (omega (arith, ge, h, whole))
