-- Where the first link's dial stands.
use Rattle.std.proofs.Common.{◌≡◌, ◌⊎◌, ℕ, ◌+◌, ◌-◌, ◌^◌, ◌<◌, min, List, [], ◌∷◌, ◌++◌, length, Option, Some, true, false, inl, inr, sym, ap, subst, ◌∙◌, arith, length-append}
use Rattle.std.specs.Prelude.{slice_get}
use Rattle.proxy_links.specs.Links.{Links}
use Rattle.proxy_links.specs.Told.{Grows}
use Rattle.proxy_links.specs.declared.dialer.Dial.{Dial}
use Rattle.session_admission.specs.Dialing.{FailedDials}
use Rattle.session_trace.specs.Trace.{Opening}
use Rattle.session_moves.specs.Telling.{Placed, TellsLinks}
use Rattle.session_moves.proofs.Lists.{get_last}
use Rattle.session_moves.proofs.Places.{before}
use Rattle.session_opening.specs.Linking.{Around, Held}
use Rattle.session_opening.specs.Shown.{IsCounted}
use Rattle.call_laws.proofs.Link.{Linked}

-- where the dials are told they are counted
abbrev Counts : Links → Type 0
Counts l = (ds : List Dial) → l.dials ≡ Some ds → length ds < 2 ^ 64 - 1 → length ds ≡ l.dialed

told_one : (o : Option (List Dial)) (xs ys : List Dial) → o ≡ Some xs → o ≡ Some ys → xs ≡ ys
told_one o xs ys e f = cc

counts_first : (old new : Links) → IsCounted old new → Counts old
counts_first old new c ds e few = ap length (told_one old.dials ds c.before e c.told_before) ∙ sym c.counted

-- one dial more
counts_more : (old new : Links) (d : Dial) → Grows old.dials new.dials (d ∷ []) → (new.dialed ≡ min (old.dialed + 1) (2 ^ 64 - 1)) ⊎ (new.dialed ≡ old.dialed + 1) → Counts old → Counts new
counts_more old new d grows count c ds e few =
    let b = before old.dials new.dials d ds grows e in
    let n : length ds ≡ length b.earlier + 1 = ap length b.all ∙ length-append b.earlier (d ∷ []) in
    let m : length b.earlier ≡ old.dialed = c b.earlier b.told (omega (arith, few, n)) in
    elim count [ inl capped ↦ omega (arith, n, m, few, capped) | inr plain ↦ omega (arith, n, m, plain) ]

counts_failed : (old new : Links) (ds : List Dial) → FailedDials old new ds → Counts old → Counts new
counts_failed old new [] e c = subst Counts (sym e) c
counts_failed old new (d ∷ ds) (came, (next, failing, more)) c =
    counts_failed next new ds more
    (counts_more old next (record { place = d.place; came = false }) failing.dials (inl (ap (λ (l : Links). l.dialed) failing.others)) c)

-- the link's dial stands at its number
pub first_placed : (o : Opening) (old new : Around) (link : Held) (end : Links) → Linked old new link → IsCounted old.links end → TellsLinks new.links → o.number ≡ link.rx.link → o.place ≡ link.place → Placed o new.links
first_placed o old new link end l counted tells number place =
    let d : Dial = record { place = link.place; came = true } in
    let c = counts_failed old.links l.between l.dials l.failed (counts_first old.links end counted) in
    record {
      counted = counts_more l.between new.links d l.came.dials (inr (ap (λ (x : Links). x.dialed) l.came.others)) c;
      placed = λ ds e.
          let b = before l.between.dials new.links.dials d ds l.came.dials e in
          let n : length ds ≡ length b.earlier + 1 = ap length b.all ∙ length-append b.earlier (d ∷ []) in
          let f : length ds ≡ length tells.dials = ap length (told_one new.links.dials ds tells.dials e tells.dials_told) in
          let m : length b.earlier ≡ l.between.dialed = c b.earlier b.told (let few = tells.few in omega (arith, few, n, f)) in
          let at : length b.earlier ≡ o.number = m ∙ sym (ap (λ x. x.link) l.came.rx) ∙ sym l.number ∙ sym number in
          (d, subst (λ (v : List Dial). slice_get v o.number ≡ Some d) (sym b.all) (subst (λ (i : ℕ). slice_get (b.earlier ++ d ∷ []) i ≡ Some d) at (get_last b.earlier d)), sym place);
    }
