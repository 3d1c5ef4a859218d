-- The place at which a link stands that is hung up.
use Rattle.std.proofs.Common.{◌≡◌, ℕ, ◌+◌, ◌-◌, ◌^◌, ◌<◌, min, true, List, [], ◌∷◌, ◌++◌, length, Option, Some, None, inl, inr, refl, sym, ap, ◌∙◌, arith, length-append}
use Rattle.std.specs.Prelude.{slice_get}
use Rattle.std.proofs.lemmas.Option.{slice_get-get_or}
use Rattle.std.proofs.Math.Seq.{get_or-append_seam}
use Rattle.proxy_outside.specs.Reading.{Origin}
use Rattle.proxy_outside.specs.Writing.{Target}
use Rattle.proxy_outside.specs.declared.place.Place.{Place}
use Rattle.proxy_links.specs.Links.{Links, Came, HangsUp}
use Rattle.proxy_links.specs.Told.{Grows}
use Rattle.proxy_links.specs.declared.dialer.Dial.{Dial}
use Rattle.session_admission.specs.Dialing.{FailedDials}
use Rattle.session_opening.specs.Shown.{IsCounted}
use Rattle.session_opening.proofs.Grown.{failed_dials}

-- the number of a link after dials that failed
dialed_after : (old new : Links) (ds : List Dial) → FailedDials old new ds → old.dialed + length ds < 2 ^ 64 - 1 → new.dialed ≡ old.dialed + length ds
dialed_after old new [] e room = let same = ap (λ (x : Links). x.dialed) e in omega arith
dialed_after old new (d ∷ ds) (came, (next, failing, more)) room =
    let one : next.dialed ≡ min (old.dialed + 1) (2 ^ 64 - 1) = ap (λ (x : Links). x.dialed) failing.others in
    let up : next.dialed ≡ old.dialed + 1 = omega arith in
    let rest = dialed_after next new ds more (omega arith) in
    omega arith

-- what was told as more
told_before : {A : Type 0} (old new : Option (List A)) (xs ys : List A) → Grows old new xs → new ≡ Some ys → (zs : List A) × (old ≡ Some zs) × (ys ≡ zs ++ xs)
told_before old new xs ys (inl none) e = absurd (cc)
told_before None new xs ys (inr is) e = absurd (cc)
told_before {A} (Some zs) new xs ys (inr is) e = let same : ys ≡ zs ++ xs = cc in (zs, refl, same)

last_one : (xs : List Dial) (d : Dial) → slice_get (xs ++ d ∷ []) (length xs) ≡ Some d
last_one xs d =
    slice_get-get_or (xs ++ d ∷ []) (length xs) d (omega (arith, length-append xs (d ∷ [])))
    ∙ ap Some (get_or-append_seam xs d [] d)

-- the dialer tells the place that was dialed
pub hung_there : (old between links new : Links) (ds : List Dial) (place : Place) (t t' : Target) (r r' : Origin) (h : HangsUp links new t' r')
    → FailedDials old between ds → Came between links place t r → r'.link ≡ r.link → IsCounted old new → h.place ≡ place
hung_there old between links new ds place t t' r r' h failed came same counted =
    let d : Dial = record { place = place; came = true } in
    let now : links.dials ≡ Some counted.now = sym (ap (λ (x : Links). x.dials) h.others) ∙ counted.told_now in
    let whole = told_before between.dials links.dials (d ∷ []) counted.now came.dials now in
    let tried = failed_dials old between ds failed in
    let front = told_before old.dials between.dials ds whole.0 tried.dialed whole.1 in
    let first : Some front.0 ≡ Some counted.before = sym front.1 ∙ counted.told_before in
    let is : front.0 ≡ counted.before = cc in
    let many : length whole.0 ≡ length counted.before + length ds = ap length front.2 ∙ length-append front.0 ds ∙ ap (λ (v : List Dial). length v + length ds) is in
    let all : length counted.now ≡ length whole.0 + 1 = ap length whole.2 ∙ length-append whole.0 (d ∷ []) in
    let room : old.dialed + length ds < 2 ^ 64 - 1 = let c = counted.counted in let w = counted.within in omega arith in
    let number : r'.link ≡ length whole.0 =
    let a = dialed_after old between ds failed room in
    let b : r.link ≡ between.dialed = ap (λ (x : Origin). x.link) came.rx in
    let c = counted.counted in
    omega arith in
    let at : slice_get counted.now r'.link ≡ Some d = ap (λ (n : ℕ). slice_get counted.now n) number ∙ ap (λ (v : List Dial). slice_get v (length whole.0)) whole.2 ∙ last_one whole.0 d in
    h.is_place counted.now d now at
