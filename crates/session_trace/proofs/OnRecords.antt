-- Honesty of the bytes of links is honesty of the trace.
use Rattle.pgw_messages.specs.declared.params.Pair.{Pair}
use Rattle.proxy_outside.specs.Rules.{Rules}
use Rattle.session_trace.proofs.Inner.{Honest, HonestRounds, LinkEnds, Place, got, got_next}
use Rattle.session_trace.specs.Honest.{AnswersAs, HonestAsk, HonestEnd, HonestLast, head_got, head_next, head_sent, login_next, told_bytes, told_on}
use Rattle.session_trace.specs.Replies.{replies}
use Rattle.session_trace.specs.Journey.{Pod, older_next, open_pod, sent, sent_next}
use Rattle.session_trace.specs.Login.{has_ok, login_bytes, login_of}
use Rattle.session_trace.specs.Trace.{link_got_next, link_sent_next, Moved, Next, Opening, Round, Same, Trace, held_last}
use Rattle.session_trace.specs.Records.{link_got, link_sent}
use Rattle.session_model.specs.Heard.{has_ready}
use Rattle.session_model.specs.Kind.{Kind}
use Rattle.std.proofs.Common.{◌≡◌, ℕ, List, [], ◌∷◌, ◌++◌, length, drop, refl, ap, sym, ◌∙◌, subst, append_assoc, append-nil, drop_at, inl, inr}
use Rattle.std.specs.Prelude.{if◌then◌else◌, ◌||◌}
use Rattle.pgw_frames.specs.Frames.{IsBytes, frames, rest, render}
use Rattle.pgw_frames.proofs.Longest.{whole}
use Rattle.session_trace.proofs.Lists.{cancel}
use Rattle.session_trace.specs.Honest as on_links
use Rattle.session_trace.proofs.Bytes.{render_append}
use Rattle.session_trace.proofs.Login.{login_rest, around_login, cases_of, nothing_left, all_login}

-- ---- honesty

head_sent_by : (next : Next) (h s f x l : List ℕ) → l ≡ h ++ s → link_sent_next next (l ++ f ++ x) ≡ head_next next h ++ sent_next next (s ++ f ++ x)
head_sent_by Same h s f x l e = ap (λ v. v ++ f ++ x) e ∙ ap (λ v. v ++ x) (append_assoc h s f) ∙ append_assoc h (s ++ f) x
head_sent_by (Moved cs o) h s f x l e = refl

on_sent : (first : Opening) (rs : List Round) → link_sent first rs ≡ head_sent first rs ++ sent rs
on_sent first [] = sym (append-nil (first.packet ++ first.asked))
on_sent first (r ∷ rs) = head_sent_by r.next (head_sent first rs) (sent rs) r.forwarded r.ask (link_sent first rs) (on_sent first rs)

head_got_by : (next : Next) (h s f x l : List ℕ) → l ≡ h ++ s → link_got_next next (l ++ f ++ x) ≡ login_next next h ++ got_next next (s ++ f ++ x)
head_got_by Same h s f x l e = ap (λ v. v ++ f ++ x) e ∙ ap (λ v. v ++ x) (append_assoc h s f) ∙ append_assoc h (s ++ f) x
head_got_by (Moved cs o) h s f x l e = refl

on_got : (first : Opening) (b : List ℕ) (rs : List Round) → first.got ≡ login_bytes first.got ++ b → link_got first rs ≡ head_got first rs ++ got b rs
on_got first b [] e = e
on_got first b (r ∷ rs) e = head_got_by r.next (head_got first rs) (got b rs) r.relayed r.answer (link_got first rs) (on_got first b rs e)

told_is : (first : Opening) (rs : List Round) (x : List ℕ) → told_bytes first rs (link_sent first rs ++ x) ≡ sent rs ++ x
told_is first rs x =
    ap (λ v. drop (length (head_sent first rs)) (v ++ x)) (on_sent first rs)
    ∙ ap (drop (length (head_sent first rs))) (append_assoc (head_sent first rs) (sent rs) x)
    ∙ drop_at (head_sent first rs) (sent rs ++ x) (length (head_sent first rs)) refl

module _ {S T C A : Type 0} (k : Kind S C A) (rules : Rules T C A) (p : List Pair) (first : Opening) (b : List ℕ) (behind : first.got ≡ login_bytes first.got ++ b) where
  place_is : (pod : Pod A) (rs : List Round) (x y s : List ℕ) → s ≡ sent rs ++ x → told_bytes first rs (link_sent first rs ++ x) ≡ s
      → on_links.IsHonestAt k p pod first rs (link_sent first rs ++ x) (link_got first rs ++ y) → Place k p pod (sent rs ++ x) (got b rs ++ y)
  place_is pod rs x y s is_s e (more, h) =
      let all : List ℕ → List ℕ = λ v. render pod.greeting ++ render (replies k (k.begins p).0 (told_on pod v)) in
      let l : (link_got first rs ++ y) ++ more ≡ head_got first rs ++ ((got b rs ++ y) ++ more) =
      ap (λ v. (v ++ y) ++ more) (on_got first b rs behind) ∙ ap (λ v. v ++ more) (append_assoc (head_got first rs) (got b rs) y) ∙ append_assoc (head_got first rs) (got b rs ++ y) more in
      (more, cancel (head_got first rs) ((got b rs ++ y) ++ more) (all (sent rs ++ x)) (sym l ∙ h ∙ ap (λ v. head_got first rs ++ all v) (e ∙ is_s)))

  ask_is : (x : List ℕ) (a c : Type 0) → (a → c) → HonestAsk x a → HonestAsk x c
  ask_is [] a c f h = tt
  ask_is (z ∷ zs) a c f h = f h

  end_is : (next : Next) (a c : Type 0) → (a → c) → HonestEnd next a → HonestEnd next c
  end_is Same a c f h = tt
  end_is (Moved cs o) a c f h = f h

  last_is : (rs : List Round) (a c : Type 0) → (a → c) → HonestLast rs a → HonestLast rs c
  last_is [] a c f h = f h
  last_is (r ∷ rs) a c f h = λ e. f (h e)

  place : (pod : Pod A) (rs : List Round) (x y : List ℕ) → on_links.IsHonestAt k p pod first rs (link_sent first rs ++ x) (link_got first rs ++ y) → Place k p pod (sent rs ++ x) (got b rs ++ y)
  place pod rs x y h = place_is pod rs x y (sent rs ++ x) refl (told_is first rs x) h

  answers_are : (pod : Pod A) (rs : List Round) (x : List ℕ) → AnswersAs k rules p pod (told_bytes first rs (link_sent first rs ++ x)) → AnswersAs k rules p pod (sent rs ++ x)
  answers_are pod rs x h = subst (λ v. AnswersAs k rules p pod v) (told_is first rs x) h

  left_is : (pod : Pod A) (rs : List Round) (f x r y : List ℕ) → on_links.AtLeaving k rules p pod first rs (link_sent first rs ++ f ++ x) (link_got first rs ++ r ++ y) → LinkEnds k rules p pod (sent rs ++ f ++ x) (got b rs ++ r ++ y)
  left_is pod rs f x r y h =
      let a = append_assoc (link_sent first rs) f x in let c = append_assoc (sent rs) f x in
      let d = append_assoc (link_got first rs) r y in let e = append_assoc (got b rs) r y in (
        subst (λ v. AnswersAs k rules p pod v) (sym c) (answers_are pod rs (f ++ x) (subst (λ v. AnswersAs k rules p pod (told_bytes first rs v)) a h.0)),
        subst (λ v. Place k p pod v (got b rs ++ r ++ y)) (sym c) (subst (λ v. Place k p pod (sent rs ++ (f ++ x)) v) (sym e)
            (place pod rs (f ++ x) (r ++ y) (subst (λ v. on_links.IsHonestAt k p pod first rs v (link_got first rs ++ (r ++ y))) a (subst (λ v. on_links.IsHonestAt k p pod first rs (link_sent first rs ++ f ++ x) v) d h.1)))),
      )

  rounds_are : (rs : List Round) (pods : List (Pod A)) → on_links.HonestRounds k rules p first rs pods → HonestRounds k rules p b rs pods
  rounds_are [] pods h = tt
  rounds_are (r ∷ rs) pods h = (
    ask_is r.ask (on_links.IsHonestAt k p (open_pod (older_next r.next pods)) first rs (link_sent first rs ++ r.forwarded) (link_got first rs ++ r.relayed))
        (Place k p (open_pod (older_next r.next pods)) (sent rs ++ r.forwarded) (got b rs ++ r.relayed)) (place (open_pod (older_next r.next pods)) rs r.forwarded r.relayed) h.0,
    end_is r.next (on_links.AtLeaving k rules p (open_pod (older_next r.next pods)) first rs (link_sent first rs ++ r.forwarded ++ r.ask) (link_got first rs ++ r.relayed ++ r.answer))
        (LinkEnds k rules p (open_pod (older_next r.next pods)) (sent rs ++ r.forwarded ++ r.ask) (got b rs ++ r.relayed ++ r.answer)) (left_is (open_pod (older_next r.next pods)) rs r.forwarded r.ask r.relayed r.answer) h.1,
    rounds_are rs (older_next r.next pods) h.2,
  )

-- the login stands at the front of what the first opening got
behind_login : (b : List ℕ) → IsBytes b → (more : List ℕ) × (b ≡ login_bytes b ++ more)
behind_login b fits =
    let w : render (login_of (frames b)) ++ (render (login_rest (frames b)) ++ rest b) ≡ b =
    sym (append_assoc (render (login_of (frames b))) (render (login_rest (frames b))) (rest b))
    ∙ ap (λ v. v ++ rest b) (sym (render_append (login_of (frames b)) (login_rest (frames b))))
    ∙ ap (λ v. render v ++ rest b) (around_login (frames b)) ∙ whole b fits in
    elim (cases_of (has_ok (frames b) || has_ready (frames b))) [
      | inl done ↦ (render (login_rest (frames b)) ++ rest b, sym w ∙ ap (λ v. v ++ (render (login_rest (frames b)) ++ rest b)) (sym (append-nil (render (login_of (frames b)))) ∙ ap (λ v. render (login_of (frames b)) ++ v) (sym (nothing_left (frames b) (rest b) done))))
      | inr open_ ↦ (
        [],
        sym (whole b fits) ∙ ap (λ v. render v ++ rest b) (sym (all_login (frames b) open_))
            ∙ ap (λ v. render (login_of (frames b)) ++ v) (sym (ap (λ v. if v then [] else rest b) open_)) ∙ sym (append-nil (login_bytes b)),
      )
    ]

pub honest_records : {S T C A : Type 0} (k : Kind S C A) (rules : Rules T C A) (p : List Pair) (t : Trace) (pods : List (Pod A))
    → IsBytes t.first.got → on_links.IsHonest k rules p t pods → Honest k rules p t pods
honest_records k rules p t pods fits h =
    let b = behind_login t.first.got fits in
    record {
      small = h.small;
      first = b.0;
      behind_login = b.1;
      rounds = rounds_are k rules p t.first b.0 b.1 t.rounds pods h.rounds;
      answers = subst (λ v. AnswersAs k rules p (open_pod pods) v) (append-nil (sent t.rounds))
          (answers_are k rules p t.first b.0 b.1 (open_pod pods) t.rounds [] (subst (λ v. AnswersAs k rules p (open_pod pods) (told_bytes t.first t.rounds v)) (sym (append-nil (link_sent t.first t.rounds))) h.answers));
      ends = last_is k rules p t.first b.0 b.1 t.rounds (on_links.IsHonestAt k p (open_pod pods) t.first t.rounds (link_sent t.first t.rounds) (link_got t.first t.rounds ++ held_last t.rounds))
          (Place k p (open_pod pods) (sent t.rounds) (got b.0 t.rounds ++ held_last t.rounds))
          (λ x. subst (λ v. Place k p (open_pod pods) v (got b.0 t.rounds ++ held_last t.rounds)) (append-nil (sent t.rounds))
          (place k rules p t.first b.0 b.1 (open_pod pods) t.rounds [] (held_last t.rounds) (subst (λ v. on_links.IsHonestAt k p (open_pod pods) t.first t.rounds v (link_got t.first t.rounds ++ held_last t.rounds)) (sym (append-nil (link_sent t.first t.rounds))) x))) h.ends;
    }
