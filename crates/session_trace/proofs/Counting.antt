-- From equal counts to "all was answered".
use Rattle.pgw_messages.specs.declared.params.Pair.{Pair}
use Rattle.proxy_outside.specs.Rules.{Rules}
use Rattle.session_trace.proofs.Base.{EndsReady, KeptLaws, after, all_copy, asks, ends_asked, is_ask, is_copy}
use Rattle.session_trace.specs.Replies.{Legal, Told, firsts, replies}
use Rattle.session_model.specs.Kind.{Kind}
use Rattle.session_model.specs.Tags.{asks_in, readies_in}
use Rattle.std.proofs.Common.{◌≡◌, ℕ, zero, suc, ◌+◌, ◌<◌, ◌≤◌, List, [], ◌∷◌, ◌++◌, refl, ap, sym, ◌∙◌, arith, append-nil, inl, inr, ◌⊎◌}
use Rattle.std.specs.Prelude.{if◌then◌else◌, ◌||◌, ◌&&◌, IsTrue}
use Rattle.std.specs.List.{AllByRecursion}
use Rattle.std.proofs.lemmas.Bool.Decides.{nat_tests}
use Rattle.pgw_frames.specs.Frames.{IsGood}
use Rattle.pgw_frames.specs.declared.frame.Frame.{Frame}
use Rattle.session_trace.proofs.Lists.{zs_append, ready_append, good_append, split_and, split_or, or_left, or_right, no_rest}

asks_if : (f : Frame) → IsTrue (is_ask f) → asks f ≡ 1
asks_if f h = ap (λ b. if b then 1 else 0) h

-- a copy frame asks nothing
copy_asks : (f : Frame) → IsTrue (is_copy f) → asks f ≡ 0
copy_asks f h = grind (arith, nat_tests)

copies_ask : (fs : List Frame) → IsTrue (all_copy fs) → asks_in fs ≡ 0
copies_ask [] h = refl
copies_ask (f ∷ fs) h =
    let c = split_and (is_copy f) (all_copy fs) h in
    let a = copy_asks f c.0 in let b = copies_ask fs c.1 in omega arith

zero_or_more : (n : ℕ) → (n ≡ 0) ⊎ (0 < n)
zero_or_more zero = inl refl
zero_or_more (suc n) = inr (omega arith)

module _ {S T C A : Type 0} (k : Kind S C A) (rules : Rules T C A) (kept : List Pair → S → Type 0) (laws : KeptLaws k rules kept) (p : List Pair) where
  pub kept_after : (ms : List (Told A)) (s : S) → kept p s → Legal k rules s ms → kept p (after k s ms) × AllByRecursion IsGood (replies k s ms)
  kept_after [] s q l = (q, tt)
  kept_after (m ∷ ms) s q l =
      let o = laws.tell p s m.0 m.1 q l.0 l.1 in
      let t = kept_after ms (k.tells s m.0 m.1).0 o.0 l.2 in
      (t.0, good_append (k.tells s m.0 m.1).1 (replies k (k.tells s m.0 m.1).0 ms) o.1 t.1)

  -- no more is ready than was asked
  pub total : (ms : List (Told A)) (s : S) → kept p s → Legal k rules s ms → readies_in (replies k s ms) + k.due (after k s ms) ≤ k.due s + asks_in (firsts ms)
  total [] s q l = omega arith
  total (m ∷ ms) s q l =
      let h = laws.ready p s m.0 m.1 q l.0 l.1 in
      let t = total ms (k.tells s m.0 m.1).0 (laws.tell p s m.0 m.1 q l.0 l.1).0 l.2 in
      omega (arith, zs_append (k.tells s m.0 m.1).1 (replies k (k.tells s m.0 m.1).0 ms))

  -- a quiet session answers no copy frame
  pub silent : (ms : List (Told A)) (s : S) → kept p s → Legal k rules s ms → IsTrue (k.quiet s) → k.due s ≡ 0 → IsTrue (all_copy (firsts ms))
      → (replies k s ms ≡ []) × IsTrue (k.quiet (after k s ms)) × (k.due (after k s ms) ≡ 0)
  silent [] s w l q d h = (refl, q, d)
  silent (m ∷ ms) s w l q d h =
      let c = split_and (is_copy m.0) (all_copy (firsts ms)) h in
      let one = laws.copies p s m.0 m.1 w l.0 l.1 q c.0 in
      let two = silent ms (k.tells s m.0 m.1).0 (laws.tell p s m.0 m.1 w l.0 l.1).0 l.2 one.1 one.2 c.1 in
      (rw (one.0, two.0) refl, two.1, two.2)

  -- a Z came with nothing due after it, and copy frames follow
  now_ready : (m : Told A) (ms : List (Told A)) (s : S) → kept p s → Legal k rules s (m ∷ ms) → IsTrue (is_ask m.0 || is_copy m.0)
      → k.due (k.tells s m.0 m.1).0 ≡ 0 → 0 < readies_in (k.tells s m.0 m.1).1 → IsTrue (all_copy (firsts ms))
      → EndsReady (replies k s (m ∷ ms)) × IsTrue (k.quiet (after k s (m ∷ ms)))
  now_ready m ms s w lg kind none came copies =
      let l = laws.last p s m.0 m.1 w lg.0 lg.1 kind came none in
      let two = silent ms (k.tells s m.0 m.1).0 (laws.tell p s m.0 m.1 w lg.0 lg.1).0 lg.2 l.1 none copies in
      (rw (two.0, append-nil) l.0, two.1)

  -- where a Z is due, and all that was due came
  comes : (ms : List (Told A)) (s : S) → kept p s → Legal k rules s ms → 0 < k.due s → IsTrue (all_copy (firsts ms)) → readies_in (replies k s ms) ≡ k.due s
      → EndsReady (replies k s ms) × IsTrue (k.quiet (after k s ms))
  comes [] s w lg d h tight = absurd (omega arith)
  comes (m ∷ ms) s w lg d h tight =
      let c = split_and (is_copy m.0) (all_copy (firsts ms)) h in
      let s1 : S = (k.tells s m.0 m.1).0 in
      let w1 : kept p (k.tells s m.0 m.1).0 = (laws.tell p s m.0 m.1 w lg.0 lg.1).0 in
      let r = laws.ready p s m.0 m.1 w lg.0 lg.1 in let a = copy_asks m.0 c.0 in
      let t = total ms (k.tells s m.0 m.1).0 w1 lg.2 in let b = copies_ask (firsts ms) c.1 in
      let z = zs_append (k.tells s m.0 m.1).1 (replies k (k.tells s m.0 m.1).0 ms) in
      let tight' : readies_in (replies k (k.tells s m.0 m.1).0 ms) ≡ k.due (k.tells s m.0 m.1).0 = omega arith in
      elim (zero_or_more (k.due (k.tells s m.0 m.1).0)) [
        | inl none ↦ now_ready m ms s w lg (or_right (is_ask m.0) (is_copy m.0) c.0) none (omega arith) c.1
        | inr some ↦ let two = comes ms (k.tells s m.0 m.1).0 w1 lg.2 some c.1 tight' in (ready_append (k.tells s m.0 m.1).1 (replies k (k.tells s m.0 m.1).0 ms) two.0, two.1)
      ]

  -- equal counts, and a last plain frame that asks: the replies end with a Z, and the session is quiet
  answered : (ms : List (Told A)) (s : S) → kept p s → Legal k rules s ms → IsTrue (ends_asked (firsts ms)) → readies_in (replies k s ms) ≡ k.due s + asks_in (firsts ms)
      → EndsReady (replies k s ms) × IsTrue (k.quiet (after k s ms))
  answered [] s w lg h tight = absurd (cc)
  answered (m ∷ ms) s w lg h tight =
      let w1 : kept p (k.tells s m.0 m.1).0 = (laws.tell p s m.0 m.1 w lg.0 lg.1).0 in
      let r = laws.ready p s m.0 m.1 w lg.0 lg.1 in
      let t = total ms (k.tells s m.0 m.1).0 w1 lg.2 in
      let z = zs_append (k.tells s m.0 m.1).1 (replies k (k.tells s m.0 m.1).0 ms) in
      let tight' : readies_in (replies k (k.tells s m.0 m.1).0 ms) ≡ k.due (k.tells s m.0 m.1).0 + asks_in (firsts ms) = omega arith in
      elim (split_or (ends_asked (firsts ms)) (is_ask m.0 && all_copy (firsts ms)) h) [
        | inl later ↦ let two = answered ms (k.tells s m.0 m.1).0 w1 lg.2 later tight' in (ready_append (k.tells s m.0 m.1).1 (replies k (k.tells s m.0 m.1).0 ms) two.0, two.1)
        | inr here ↦
            let c = split_and (is_ask m.0) (all_copy (firsts ms)) here in
            let a = asks_if m.0 c.0 in let b = copies_ask (firsts ms) c.1 in
            elim (zero_or_more (k.due (k.tells s m.0 m.1).0)) [
              | inl none ↦ now_ready m ms s w lg (or_left (is_ask m.0) (is_copy m.0) c.0) none (omega arith) c.1
              | inr some ↦ let two = comes ms (k.tells s m.0 m.1).0 w1 lg.2 some c.1 (omega arith) in (ready_append (k.tells s m.0 m.1).1 (replies k (k.tells s m.0 m.1).0 ms) two.0, two.1)
            ]
      ]

  -- a block that was answered as often as it asked was answered whole
  pub whole : (ms : List (Told A)) (r rest : List Frame) (s : S) → kept p s → Legal k rules s ms → IsTrue (k.quiet s) → k.due s ≡ 0
      → IsTrue (ends_asked (firsts ms)) ⊎ IsTrue (all_copy (firsts ms))
      → r ++ rest ≡ replies k s ms → readies_in r ≡ asks_in (firsts ms)
      → (r ≡ replies k s ms) × IsTrue (k.quiet (after k s ms)) × (k.due (after k s ms) ≡ 0)
  whole ms r rest s w lg q d kind e count =
      let t = total ms s w lg in
      let z = zs_append r rest in
      let y = ap readies_in e in
      let none : readies_in rest ≡ 0 = omega arith in
      let at_rest : k.due (after k s ms) ≡ 0 = omega arith in
      elim kind [
        | inl asked ↦
            let a = answered ms s w lg asked (omega arith) in
            let gone = no_rest r rest a.0.0 a.0.1 a.0.3 (e ∙ a.0.2) none in
            (sym (append-nil r) ∙ ap (λ v. r ++ v) (sym gone) ∙ e, a.1, at_rest)
        | inr copies ↦
            let a = silent ms s w lg q d copies in
            (front r rest (e ∙ a.0) ∙ sym a.0, a.1, a.2)
      ]
    where
      front : (r rest : List Frame) → r ++ rest ≡ [] → r ≡ []
      front [] rest e = refl
      front (x ∷ r) rest e = absurd (cc)
