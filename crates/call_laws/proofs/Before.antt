-- What was told before the last link was hung up.
use Rattle.std.proofs.Common.{◌≡◌, List, [], ◌∷◌, ◌++◌, ℕ, Option, Some, None, refl, sym, ap, subst, ◌∙◌}
use Rattle.std.specs.List.{AllByRecursion}
use Rattle.proxy_outside.specs.Reading.{Origin}
use Rattle.proxy_outside.specs.Writing.{Target}
use Rattle.proxy_outside.specs.declared.place.Place.{Place}
use Rattle.proxy_links.specs.Links.{Links, LinkCounts, LinkRecord, HangsUp, record_of, counts_of, hung}
use Rattle.session_round.specs.Standing.{TellsBytes}
use Rattle.session_moves.specs.Telling.{GotBytes, TellsLinks}
use Rattle.session_moves.proofs.Lists.{some_is}

pub all_front : (xs ys : List LinkRecord) → AllByRecursion GotBytes (xs ++ ys) → AllByRecursion GotBytes xs
all_front [] ys a = tt
all_front (x ∷ xs) ys a = (a.0, all_front xs ys a.1)

pub all_back : (xs ys : List LinkRecord) → AllByRecursion GotBytes (xs ++ ys) → AllByRecursion GotBytes ys
all_back [] ys a = a
all_back (x ∷ xs) ys a = all_back xs ys a.1

record Earlier (o : Option (List LinkRecord)) (y : Option (List ℕ)) : Type 0 where
  records : List LinkRecord
  told : o ≡ Some records
  bytes : AllByRecursion GotBytes records
  got : TellsBytes y

earlier : (o : Option (List LinkRecord)) (n : ℕ) (place : Place) (c : LinkCounts) (x y : Option (List ℕ)) (all : List LinkRecord) → hung o (record_of n place c) x y ≡ Some all → AllByRecursion GotBytes all → Earlier o y
earlier None n place c x y all e a = absurd cc
earlier (Some rs) n place c None y all e a = absurd cc
earlier (Some rs) n place c (Some s) None all e a = absurd cc
earlier (Some rs) n place c (Some s) (Some g) all e a =
    let are : all ≡ rs ++ record_of n place c s g ∷ [] = sym (some_is (rs ++ record_of n place c s g ∷ []) all e) in
    let b = subst (AllByRecursion GotBytes) are a in
    record { records = rs; told = refl; bytes = all_front rs (record_of n place c s g ∷ []) b; got = (all_back rs (record_of n place c s g ∷ []) b).0 }

module _ (old new : Links) (t : Target) (r : Origin) (h : HangsUp old new t r) (tells : TellsLinks new) where
  earlier_there : Earlier old.records r.taken
  earlier_there = earlier old.records r.link h.place (counts_of t r) t.contents r.taken tells.hung (sym (ap (λ (l : Links). l.records) h.others) ∙ tells.records_told) tells.bytes

  pub told_before : TellsLinks old
  told_before = record {
    dials = tells.dials;
    dials_told = sym (ap (λ (l : Links). l.dials) h.others) ∙ tells.dials_told;
    few = tells.few;
    hung = earlier_there.records;
    records_told = earlier_there.told;
    bytes = earlier_there.bytes;
  }

  pub got_before : TellsBytes r.taken
  got_before = earlier_there.got
