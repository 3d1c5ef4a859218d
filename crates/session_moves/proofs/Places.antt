-- Where a dialer's dials stand.
use Rattle.std.proofs.Common.{◌≡◌, ◌⊎◌, ℕ, ◌+◌, ◌-◌, ◌^◌, ◌<◌, min, true, false, List, [], ◌∷◌, ◌++◌, length, Option, Some, None, refl, sym, ap, subst, ◌∙◌, arith, length-append, inl, inr}
use Rattle.std.specs.Prelude.{slice_get}
use Rattle.proxy_links.specs.Links.{Links, Came, Failing, HangsUp}
use Rattle.proxy_links.specs.Told.{Grows, push}
use Rattle.proxy_links.specs.declared.dialer.Dial.{Dial}
use Rattle.proxy_outside.specs.Reading.{Origin}
use Rattle.proxy_outside.specs.Writing.{Target}
use Rattle.proxy_outside.specs.declared.place.Place.{Place}
use Rattle.session_trace.specs.Trace.{Opening}
use Rattle.session_moves.specs.Telling.{Placed}
use Rattle.session_moves.proofs.Lists.{get_front, get_last, some_is}

-- the dials before one more
pub record Before (old : Option (List Dial)) (d : Dial) (ds : List Dial) : Type 0 where
  pub earlier : List Dial
  pub told : old ≡ Some earlier
  pub all : ds ≡ earlier ++ d ∷ []

before_by : (old : Option (List Dial)) (d : Dial) (ds : List Dial) → push old (d ∷ []) ≡ Some ds → Before old d ds
before_by None d ds e = absurd cc
before_by (Some xs) d ds e = record { earlier = xs; told = refl; all = sym (some_is (xs ++ d ∷ []) ds e) }

pub before : (old new : Option (List Dial)) (d : Dial) (ds : List Dial) → Grows old new (d ∷ []) → new ≡ Some ds → Before old d ds
before old new d ds (inl none) e = absurd (let no : None ≡ Some ds = sym none ∙ e in cc)
before old new d ds (inr more) e = before_by old d ds (sym more ∙ e)

-- one dial more, whatever became of it
pub still_placed : (o : Opening) (old new : Links) (d : Dial) → Grows old.dials new.dials (d ∷ []) → (new.dialed ≡ min (old.dialed + 1) (2 ^ 64 - 1)) ⊎ (new.dialed ≡ old.dialed + 1) → Placed o old → Placed o new
still_placed o old new d grows count p = record {
  counted = λ ds e few.
      let b = before old.dials new.dials d ds grows e in
      let n : length ds ≡ length b.earlier + 1 = ap length b.all ∙ length-append b.earlier (d ∷ []) in
      let m : length b.earlier ≡ old.dialed = p.counted b.earlier b.told (omega (arith, few, n)) in
      elim count [ inl capped ↦ omega (arith, n, m, few, capped) | inr plain ↦ omega (arith, n, m, plain) ];
  placed = λ ds e.
      let b = before old.dials new.dials d ds grows e in
      let q = p.placed b.earlier b.told in
      (q.0, subst (λ (v : List Dial). slice_get v o.number ≡ Some q.0) (sym b.all) (get_front b.earlier (d ∷ []) o.number q.0 q.1), q.2);
}

pub placed_failing : (o : Opening) (old new : Links) (at : Place) → Failing old new at → Placed o old → Placed o new
placed_failing o old new at f p = still_placed o old new (record { place = at; came = false }) f.dials (inl (ap (λ (l : Links). l.dialed) f.others)) p

pub placed_came : (o : Opening) (old new : Links) (at : Place) (k : Target) (r : Origin) → Came old new at k r → Placed o old → Placed o new
placed_came o old new at k r c p = still_placed o old new (record { place = at; came = true }) c.dials (inr (ap (λ (l : Links). l.dialed) c.others)) p

-- a link that was hung up was dialed all the same
pub placed_hung : (o : Opening) (old new : Links) (k : Target) (r : Origin) → HangsUp old new k r → Placed o old → Placed o new
placed_hung o old new k r h p =
    let same : new.dials ≡ old.dials = ap (λ (l : Links). l.dials) h.others in
    let count : new.dialed ≡ old.dialed = ap (λ (l : Links). l.dialed) h.others in
    record {
      counted = λ ds e few. p.counted ds (sym same ∙ e) few ∙ sym count;
      placed = λ ds e. p.placed ds (sym same ∙ e);
    }

pub placed_same : (o : Opening) (old new : Links) → new ≡ old → Placed o old → Placed o new
placed_same o old new e p = subst (Placed o) (sym e) p

-- the new link's dial stands at its number
pub placed_new : (o u : Opening) (old new : Links) (at : Place) (k : Target) (r : Origin) → Came old new at k r → Placed o old → u.number ≡ old.dialed → u.place ≡ at
    → ((ds : List Dial) → new.dials ≡ Some ds → length ds < 2 ^ 64 - 1) → Placed u new
placed_new o u old new at k r c p number place few = record {
  counted = (placed_came o old new at k r c p).counted;
  placed = λ ds e.
      let d : Dial = record { place = at; came = true } in
      let b = before old.dials new.dials d ds c.dials e in
      let n : length ds ≡ length b.earlier + 1 = ap length b.all ∙ length-append b.earlier (d ∷ []) in
      let m : length b.earlier ≡ old.dialed = p.counted b.earlier b.told (let f = few ds e in omega (arith, f, n)) in
      (d, subst (λ (v : List Dial). slice_get v u.number ≡ Some d) (sym b.all) (subst (λ (i : ℕ). slice_get (b.earlier ++ d ∷ []) i ≡ Some d) (m ∙ sym number) (get_last b.earlier d)), sym place);
}
