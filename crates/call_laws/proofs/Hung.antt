-- The records of a session's links, the last one's among them, and what the first one got.
use Rattle.std.proofs.Common.{◌≡◌, ℕ, List, [], ◌∷◌, ◌++◌, Option, Some, None, sym, ap, subst, ◌∙◌}
use Rattle.std.specs.List.{AllByRecursion}
use Rattle.std.specs.Prelude.{slice_get}
use Rattle.pgw_frames.specs.Frames.{IsBytes}
use Rattle.proxy_outside.specs.Reading.{Origin}
use Rattle.proxy_outside.specs.Writing.{Target}
use Rattle.proxy_outside.specs.declared.place.Place.{Place}
use Rattle.proxy_links.specs.Links.{Links, LinkCounts, LinkRecord, HangsUp, counts_of, hung}
use Rattle.proxy_links.specs.Links as link
use Rattle.proxy_links.specs.Told.{push, blank}
use Rattle.link_io.proofs.Parts.{push_push}
use Rattle.session_trace.specs.Records.{record_of, open_link, link_sent, link_got, left, left_next}
use Rattle.session_trace.specs.Running.{Now}
use Rattle.session_trace.specs.SoFar.{Start, SoFar}
use Rattle.session_trace.specs.Trace.{Next, Same, Moved, Opening, Round, link_got_next}
use Rattle.session_round.proofs.Bytes.{bytes_front}
use Rattle.session_moves.specs.Telling.{GotBytes, TellsLinks, Placed}
use Rattle.session_moves.proofs.Lists.{hung_told, blank_push}
use Rattle.call_laws.proofs.Before.{all_front, all_back}

-- ---- the last link

-- the dialer tells the place that was dialed
last_place : (o : Opening) (old new : Links) (t : Target) (r : Origin) (h : HangsUp old new t r) → TellsLinks old → Placed o old → r.link ≡ o.number → h.place ≡ o.place
last_place o old new t r h tells placed number =
    let d = placed.placed tells.dials tells.dials_told in
    h.is_place tells.dials d.0 tells.dials_told (ap (λ (i : ℕ). slice_get tells.dials i) number ∙ d.1) ∙ d.2

last_record : (o : Opening) (n : ℕ) (place : Place) (c : LinkCounts) (sent_ got : List ℕ) → n ≡ o.number → place ≡ o.place → link.record_of n place c sent_ got ≡ record_of o c sent_ got
last_record o n place c sent_ got e f = ap (λ (i : ℕ). link.record_of i place c sent_ got) e ∙ ap (λ (v : Place). link.record_of o.number v c sent_ got) f

module _ (start : Start) (now : Now) (old new : Links) (first : Opening) (rs : List Round) (in_ out : List ℕ) (so : SoFar start now old first rs in_ out) (h : HangsUp old new now.tx now.rx) (tells : TellsLinks old) (placed : Placed (open_link first rs) old) where
  abbrev counts : LinkCounts
  counts = counts_of now.tx now.rx

  abbrev one : List ℕ → List ℕ → LinkRecord
  one = link.record_of now.rx.link h.place counts

  abbrev last : LinkRecord
  last = record_of (open_link first rs) counts (link_sent first rs) (link_got first rs ++ out)

  told_blank : blank {B = ℕ} start.records ≡ blank old.records
  told_blank = sym (blank_push start.records (left first rs)) ∙ ap blank (sym so.records)

  -- all records, in order of hanging up
  pub all_told : new.records ≡ push start.records (left first rs ++ last ∷ [])
  all_told =
      ap (λ (l : Links). l.records) h.others
      ∙ hung_told old.records one (link_sent first rs) (link_got first rs ++ out) now.tx.contents now.rx.taken
      (so.tx ∙ ap (λ (v : Option (List ℕ)). push v (link_sent first rs)) told_blank)
      (so.rx ∙ ap (λ (v : Option (List ℕ)). push v (link_got first rs ++ out)) told_blank)
      ∙ ap (λ (v : LinkRecord). push old.records (v ∷ []))
      (last_record (open_link first rs) now.rx.link h.place counts (link_sent first rs) (link_got first rs ++ out) so.rx_number (last_place (open_link first rs) old new now.tx now.rx h tells placed so.rx_number))
      ∙ ap (λ (v : Option (List LinkRecord)). push v (last ∷ [])) so.records
      ∙ push_push start.records (left first rs) (last ∷ [])

-- ---- what the first link got

module _ (first : Opening) where
  next_got : (next : Next) (r : Round) (rs : List Round) → ((bytes : IsBytes (link_got first rs)) → IsBytes first.got) → AllByRecursion GotBytes (left_next next (λ c. record_of (open_link first rs) c (link_sent first rs ++ r.forwarded ++ r.ask) (link_got first rs ++ r.relayed ++ r.answer)))
      → IsBytes (link_got_next next (link_got first rs ++ r.relayed ++ r.answer)) → IsBytes first.got
  next_got Same r rs so hung_ got = so (bytes_front (link_got first rs) r.relayed (bytes_front (link_got first rs ++ r.relayed) r.answer got))
  next_got (Moved c o) r rs so hung_ got = so (bytes_front (link_got first rs) r.relayed (bytes_front (link_got first rs ++ r.relayed) r.answer hung_.0))

  pub first_got : (rs : List Round) → AllByRecursion GotBytes (left first rs) → IsBytes (link_got first rs) → IsBytes first.got
  first_got [] hung_ got = got
  first_got (r ∷ rs) hung_ got =
      let behind = left_next r.next (λ c. record_of (open_link first rs) c (link_sent first rs ++ r.forwarded ++ r.ask) (link_got first rs ++ r.relayed ++ r.answer)) in
      next_got r.next r rs
      (first_got rs (all_front (left first rs) r.trials (all_front (left first rs ++ r.trials) behind hung_)))
      (all_back (left first rs ++ r.trials) behind hung_) got

-- it is bytes where all records are
told_all : (o : Option (List LinkRecord)) (xs all : List LinkRecord) → push o xs ≡ Some all → AllByRecursion GotBytes all → AllByRecursion GotBytes xs
told_all None xs all e a = absurd (cc)
told_all (Some ys) xs all e a = let same : ys ++ xs ≡ all = cc in all_back ys xs (subst (AllByRecursion GotBytes) (sym same) a)

pub first_bytes : (o : Option (List LinkRecord)) (first : Opening) (rs : List Round) (c : LinkCounts) (sent_ out : List ℕ) (links : Links) → TellsLinks links
    → links.records ≡ push o (left first rs ++ record_of (open_link first rs) c sent_ (link_got first rs ++ out) ∷ []) → IsBytes first.got
first_bytes o first rs c sent_ out links tells told =
    let one = record_of (open_link first rs) c sent_ (link_got first rs ++ out) in
    let all = told_all o (left first rs ++ one ∷ []) tells.hung (sym told ∙ tells.records_told) tells.bytes in
    first_got first rs (all_front (left first rs) (one ∷ []) all) (bytes_front (link_got first rs) out (all_back (left first rs) (one ∷ []) all).0)
