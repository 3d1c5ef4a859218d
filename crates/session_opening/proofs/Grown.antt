-- What was asked, dialed and drawn, stage by stage.
use Rattle.std.proofs.Common.{◌≡◌, ℕ, true, false, List, [], ◌∷◌, ◌++◌, Option, None, inl, inr, refl, sym, ap, ◌∙◌, subst, append_assoc, append-nil}
use Rattle.pgw_messages.specs.declared.pod_key.PodKey.{PodKey}
use Rattle.proxy_outside.specs.Reading.{Origin}
use Rattle.proxy_outside.specs.Writing.{Target}
use Rattle.proxy_outside.specs.declared.identity.PodNo.{PodNo}
use Rattle.proxy_outside.specs.declared.identity.SessionNo.{SessionNo}
use Rattle.proxy_outside.specs.declared.identity.TenantId.{TenantId}
use Rattle.proxy_outside.specs.declared.place.Place.{Place}
use Rattle.proxy_links.specs.Links.{Links, Came}
use Rattle.proxy_links.specs.Told.{push, Grows}
use Rattle.proxy_links.specs.declared.dialer.Dial.{Dial}
use Rattle.link_io.proofs.Parts.{push_push, push_nil}
use Rattle.session_asks.specs.Asks.{Ask, moments_of, moments_in, words_of, words_in}
use Rattle.session_asks.specs.Admission.{Picks}
use Rattle.session_asks.specs.Between.{Binds}
use Rattle.session_admission.specs.Asking.{AsksOn}
use Rattle.session_admission.specs.Dialing.{FailedDials}
use Rattle.session_admission.proofs.Asked.{asked_more}
use Rattle.session_opening.specs.Linking.{Around}
use Rattle.session_opening.proofs.Booked.{asked_nothing}

pub record Grown (old new : Around) (words words' : Option (List ℕ)) (as_ : List Ask) (dials : List Dial) : Type 0 where
  pub asked : AsksOn old.hub new.hub as_
  pub dialed : Grows old.links.dials new.links.dials dials
  pub moments : Grows old.moments new.moments (moments_in as_)
  pub drawn : Grows words words' (words_in as_)

-- ---- lists that grow

pub grows_none : {A : Type 0} (o : Option (List A)) → Grows o o []
grows_none o = inr (sym (push_nil o))

pub grows_same : {A : Type 0} (o p : Option (List A)) → p ≡ o → Grows o p []
grows_same o p e = inr (e ∙ sym (push_nil o))

grows_from_none : {A : Type 0} (o : Option (List A)) (xs : List A) → Grows None o xs → o ≡ None
grows_from_none o xs (inl e) = e
grows_from_none o xs (inr e) = e

pub grows_more : {A : Type 0} (one two three : Option (List A)) (xs ys : List A) → Grows one two xs → Grows two three ys → Grows one three (xs ++ ys)
grows_more one two three xs ys p (inl e) = inl e
grows_more {A} one two three xs ys (inl e) (inr f) = inl (f ∙ ap (λ (o : Option (List A)). push o ys) e)
grows_more {A} one two three xs ys (inr e) (inr f) = inr (f ∙ ap (λ (o : Option (List A)). push o ys) e ∙ push_push one xs ys)

pub grows_as : {A : Type 0} (one two : Option (List A)) (xs ys : List A) → xs ≡ ys → Grows one two xs → Grows one two ys
grows_as {A} one two xs ys e p = subst (λ (v : List A). Grows one two v) e p

-- ---- asks

moments_more : (xs ys : List Ask) → moments_in (xs ++ ys) ≡ moments_in xs ++ moments_in ys
moments_more [] ys = refl
moments_more (x ∷ xs) ys = ap (λ (v : List ℕ). moments_of x.command ++ v) (moments_more xs ys) ∙ sym (append_assoc (moments_of x.command) (moments_in xs) (moments_in ys))

words_more : (xs ys : List Ask) → words_in (xs ++ ys) ≡ words_in xs ++ words_in ys
words_more [] ys = refl
words_more (x ∷ xs) ys = ap (λ (v : List ℕ). words_of x.command ++ v) (words_more xs ys) ∙ sym (append_assoc (words_of x.command) (words_in xs) (words_in ys))

pub grown_more : (one two three : Around) (w w' w'' : Option (List ℕ)) (xs ys : List Ask) (ds es : List Dial) → Grown one two w w' xs ds → Grown two three w' w'' ys es → Grown one three w w'' (xs ++ ys) (ds ++ es)
grown_more one two three w w' w'' xs ys ds es p q = record {
  asked = asked_more one.hub two.hub three.hub xs ys p.asked q.asked;
  dialed = grows_more one.links.dials two.links.dials three.links.dials ds es p.dialed q.dialed;
  moments = grows_as one.moments three.moments (moments_in xs ++ moments_in ys) (moments_in (xs ++ ys)) (sym (moments_more xs ys)) (grows_more one.moments two.moments three.moments (moments_in xs) (moments_in ys) p.moments q.moments);
  drawn = grows_as w w'' (words_in xs ++ words_in ys) (words_in (xs ++ ys)) (sym (words_more xs ys)) (grows_more w w' w'' (words_in xs) (words_in ys) p.drawn q.drawn);
}

-- a stage without a dial
pub grown_quiet : (one two three : Around) (w w' w'' : Option (List ℕ)) (xs ys : List Ask) (ds : List Dial) → Grown one two w w' xs ds → Grown two three w' w'' ys [] → Grown one three w w'' (xs ++ ys) ds
grown_quiet one two three w w' w'' xs ys ds p q =
    subst (λ (v : List Dial). Grown one three w w'' (xs ++ ys) v) (append-nil ds) (grown_more one two three w w' w'' xs ys ds [] p q)

pub grown_none : (a : Around) (w : Option (List ℕ)) → Grown a a w w [] []
grown_none a w = record { asked = asked_nothing a.hub; dialed = grows_none a.links.dials; moments = grows_none a.moments; drawn = grows_none w }

-- ---- dials

-- dials that failed, and what they leave of the records
pub record Tried (old new : Links) (dials : List Dial) : Type 0 where
  pub dialed : Grows old.dials new.dials dials
  pub records : new.records ≡ old.records

pub failed_dials : (old new : Links) (ds : List Dial) → FailedDials old new ds → Tried old new ds
failed_dials old new [] e = record { dialed = grows_same old.dials new.dials (ap (λ (x : Links). x.dials) e); records = ap (λ (x : Links). x.records) e }
failed_dials old new (d ∷ ds) (came, (next, failing, more)) =
    let t = failed_dials next new ds more in
    let same : record { place = d.place; came = false } ≡ d = ap (λ b. record { place = d.place; came = b }) (sym came) in
    record {
      dialed = grows_more old.dials next.dials new.dials (d ∷ []) ds (grows_as old.dials next.dials (record { place = d.place; came = false } ∷ []) (d ∷ []) (ap (λ (x : Dial). x ∷ []) same) failing.dials) t.dialed;
      records = t.records ∙ ap (λ (x : Links). x.records) failing.others;
    }

pub then_came : (old between new : Links) (ds : List Dial) (place : Place) (tx : Target) (rx : Origin) → FailedDials old between ds → Came between new place tx rx → Tried old new (ds ++ record { place = place; came = true } ∷ [])
then_came old between new ds place tx rx failed came =
    let t = failed_dials old between ds failed in
    record {
      dialed = grows_more old.dials between.dials new.dials ds (record { place = place; came = true } ∷ []) t.dialed came.dials;
      records = ap (λ (x : Links). x.records) came.others ∙ t.records;
    }

-- ---- asks that tell no moment and no word

pub record Still (as_ : List Ask) : Type 0 where
  pub moments : moments_in as_ ≡ []
  pub words : words_in as_ ≡ []

still_as : (xs ys : List Ask) → ys ≡ xs → Still xs → Still ys
still_as xs ys e s = subst Still (sym e) s

pub picks_still : (t : TenantId) (failed : List PodNo) (ds : List Dial) (as_ : List Ask) → Picks t failed ds as_ → Still as_
picks_still t failed [] as_ (inl none) = still_as [] as_ none (record { moments = refl; words = refl })
picks_still t failed [] as_ (inr last) = still_as _ as_ last.alone (record { moments = refl; words = refl })
picks_still t failed (d ∷ ds) as_ (more, one, last, behind) =
    let s = picks_still t (failed ++ d.place.pod ∷ []) ds more behind in
    still_as _ as_ one.asks (record { moments = s.moments; words = s.words })

pub binds_still : (n : SessionNo) (ks : List PodKey) (as_ : List Ask) → Binds n ks as_ → Still as_
binds_still n [] as_ e = still_as [] as_ e (record { moments = refl; words = refl })
binds_still n (k ∷ ks) as_ b =
    let s = binds_still n ks b.back b.ends in
    let one : b.front ++ b.back ≡ _ ∷ b.back = ap (λ (v : List Ask). v ++ b.back) b.begins.alone in
    still_as _ as_ (b.whole ∙ one) (record { moments = s.moments; words = s.words })

-- what such asks add
pub still_grown : (old new : Around) (w : Option (List ℕ)) (as_ : List Ask) (ds : List Dial) → Still as_ → AsksOn old.hub new.hub as_ → Grows old.links.dials new.links.dials ds → new.moments ≡ old.moments → Grown old new w w as_ ds
still_grown old new w as_ ds s asked dialed moments = record {
  asked = asked;
  dialed = dialed;
  moments = grows_as old.moments new.moments [] (moments_in as_) (sym s.moments) (grows_same old.moments new.moments moments);
  drawn = grows_as w w [] (words_in as_) (sym s.words) (grows_none w);
}
