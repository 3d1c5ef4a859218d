-- What follows step after step.
use Rattle.std.proofs.Common.{◌≡◌, ◌⊎◌, inl, inr, Option, ℕ, ◌+◌, ◌≤◌, List, [], ◌∷◌, ◌++◌, refl, ap, sym, subst, ◌∙◌, arith, append_assoc, append-nil}
use Rattle.pgw_frames.specs.Frames.{Begins}
use Rattle.link_io.proofs.Parts.{wrote_none, wrote_more}
use Rattle.pod_conn.specs.declared.end.PodEnd.{PodEnd}
use Rattle.pod_conn.specs.declared.end.PodEnd.TheVariants.{Closed, ClientCut, BadFrame, BadStartup, AuthRefused, ReadFault, WriteFault, JournalFull, NoMemory}
use Rattle.pod_conn.specs.Courses.{Standing, Course, stands, behind, answers_in}
use Rattle.pod_conn.specs.Serving.{At, Sight, Follow, IsDone, Why, Ends, Leads}
use Rattle.pod_conn.proofs.Halves.{hears_none, hears_more, asked_none, asked_more, rose_from}

pub begins_front : {A : Type 0} (xs ys more : List A) → Begins xs ys → Begins xs (ys ++ more)
begins_front xs ys more b = (b.0 ++ more, sym (append_assoc xs b.0 more) ∙ ap (λ v. v ++ more) b.1)

module _ {C R : Type 0} where
  pub answers-append : (x y : List (C × R)) → answers_in (x ++ y) ≡ answers_in x ++ answers_in y
  answers-append [] y = refl
  answers-append (q ∷ x) y = ap (λ v. q.1 ∷ v) (answers-append x y)

  abbrev course : List ℕ → List (C × R) → Standing → Course C R
  course w q s = record { written = w; asked = q; standing = s }

  course_is : (w v : List ℕ) (q r : List (C × R)) (s : Standing) → w ≡ v → q ≡ r → course w q s ≡ course v r s
  course_is w v q r s e f = ap (λ x. course x q s) e ∙ ap (λ x. course v x s) f

  pub behind-behind : (w v : List ℕ) (q r : List (C × R)) (c : Course C R) → behind w q (behind v r c) ≡ behind (w ++ v) (q ++ r) c
  behind-behind w v q r c = course_is (w ++ (v ++ c.written)) ((w ++ v) ++ c.written) (q ++ (r ++ c.asked)) ((q ++ r) ++ c.asked) c.standing (sym (append_assoc w v c.written)) (sym (append_assoc q r c.asked))

  pub leads_none : (f : Follow C R) (h : List ℕ) (s : Sight C R) → Leads f f h h s s
  leads_none f h s = record {
    taken = [];
    written = [];
    asks = [];
    hears = hears_none s.client_in;
    wrote = wrote_none s.client_out;
    asked = asked_none s.port;
    leads = λ more rs. refl;
  }

  pub leads_more : (f g k : Follow C R) (h i j : List ℕ) (a b c : Sight C R) → Leads f g h i a b → Leads g k i j b c → Leads f k h j a c
  leads_more f g k h i j a b c p q = record {
    taken = p.taken ++ q.taken;
    written = p.written ++ q.written;
    asks = p.asks ++ q.asks;
    hears = hears_more a.client_in b.client_in c.client_in p.taken q.taken p.hears q.hears;
    wrote = wrote_more a.client_out b.client_out c.client_out p.written q.written p.wrote q.wrote;
    asked = asked_more a.port b.port c.port p.asks q.asks p.asked q.asked;
    leads = λ more rs.
        ap (λ v. f (h ++ v) (answers_in (p.asks ++ q.asks) ++ rs)) (append_assoc p.taken q.taken more)
        ∙ ap (λ v. f (h ++ (p.taken ++ (q.taken ++ more))) (v ++ rs)) (answers-append p.asks q.asks)
        ∙ ap (λ v. f (h ++ (p.taken ++ (q.taken ++ more))) v) (append_assoc (answers_in p.asks) (answers_in q.asks) rs)
        ∙ p.leads (q.taken ++ more) (answers_in q.asks ++ rs)
        ∙ ap (behind p.written p.asks) (q.leads more rs)
        ∙ behind-behind p.written q.written p.asks q.asks (k (j ++ more) rs);
  }

  done_behind : (c : Course C R) (w v : List ℕ) (q : List (C × R)) (at : Standing) → IsDone c v at → IsDone (behind w q c) (w ++ v) at
  done_behind c w v q at d = (ap (λ x. w ++ x) d.0, d.1)

  begins_behind : (c : Course C R) (w v : List ℕ) → Begins v c.written → Begins (w ++ v) (w ++ c.written)
  begins_behind c w v b = (b.0, append_assoc w v b.0 ∙ ap (λ x. w ++ x) b.1)

  module _ (a b : Sight C R) (reads : a.client_in.faults ≤ b.client_in.faults) (writes : a.client_out.faults ≤ b.client_out.faults) (asks : a.port.refusals ≤ b.port.refusals) (desk : b.port.desk ≡ a.port.desk) where
    why_behind : (end : PodEnd) (c : Course C R) (w v : List ℕ) (q : List (C × R)) (z : Sight C R) → Why end c v b z → Why end (behind w q c) (w ++ v) a z
    why_behind Closed c w v q z (inl d) = inl (done_behind c w v q _ d)
    why_behind Closed c w v q z (inr d) = inr (done_behind c w v q _ d.0, d.1)
    why_behind ClientCut c w v q z d = (done_behind c w v q _ d.0, d.1)
    why_behind (BadFrame n) c w v q z d = done_behind c w v q _ d
    why_behind BadStartup c w v q z d = done_behind c w v q _ d
    why_behind AuthRefused c w v q z d = done_behind c w v q _ d
    why_behind ReadFault c w v q z (inl d, r) = (inl (done_behind c w v q _ d), rose_from a.client_in.faults b.client_in.faults z.client_in.faults reads r)
    why_behind ReadFault c w v q z (inr d, r) = (inr (done_behind c w v q _ d), rose_from a.client_in.faults b.client_in.faults z.client_in.faults reads r)
    why_behind WriteFault c w v q z d = (begins_behind c w v d.0, rose_from a.client_out.faults b.client_out.faults z.client_out.faults writes d.1)
    why_behind (JournalFull n) c w v q z d = (done_behind c w v q _ d.0, rose_from a.port.refusals b.port.refusals z.port.refusals asks d.1, d.2 ∙ ap (λ i. i.most) desk)
    why_behind NoMemory c w v q z d = begins_behind c w v d

  pub ends_more : (f g : Follow C R) (h i : List ℕ) (a b c : Sight C R) (end : PodEnd) → Leads f g h i a b → Ends g i b c end → Ends f h a c end
  ends_more f g h i a b c end p q =
      let is : f (h ++ (p.taken ++ q.taken)) (answers_in (p.asks ++ q.asks)) ≡ behind p.written p.asks (g (i ++ q.taken) (answers_in q.asks)) =
      ap (f (h ++ (p.taken ++ q.taken))) (answers-append p.asks q.asks) ∙ p.leads q.taken (answers_in q.asks) in
      record {
        taken = p.taken ++ q.taken;
        written = p.written ++ q.written;
        asks = p.asks ++ q.asks;
        hears = hears_more a.client_in b.client_in c.client_in p.taken q.taken p.hears q.hears;
        wrote = wrote_more a.client_out b.client_out c.client_out p.written q.written p.wrote q.wrote;
        asked = asked_more a.port b.port c.port p.asks q.asks p.asked q.asked;
        asks_are = ap (λ (x : Course C R). x.asked) is ∙ ap (λ v. p.asks ++ v) q.asks_are;
        why = subst (λ (x : Course C R). Why end x (p.written ++ q.written) a c) (sym is)
            (why_behind a b p.hears.faults p.wrote.faults p.asked.refusals p.asked.desk end (g (i ++ q.taken) (answers_in q.asks)) p.written q.written p.asks c q.why);
      }

  pub ends_taken : (f g : Follow C R) (h i : List ℕ) (a b c : Sight C R) (end : PodEnd) (p : Leads f g h i a b) (q : Ends g i b c end) → (ends_more f g h i a b c end p q).taken ≡ p.taken ++ q.taken
  unfolding ends_more
  ends_taken f g h i a b c end p q = refl

-- ---- the moment

pub at_map : (g g' : Option (List ℕ)) (P Q : ℕ → Type 0) → ((now : ℕ) → P now → Q now) → At g g' P → At g g' Q
at_map g g' P Q f (inl x) = inl (x.0, x.1, f x.0 x.2)
at_map g g' P Q f (inr x) = inr (x.0, λ now. f now (x.1 now))

pub at_any : (g g' : Option (List ℕ)) (P : ℕ → Type 0) (X : Type 0) → ((now : ℕ) → P now → X) → At g g' P → X
at_any g g' P X f (inl x) = f x.0 x.2
at_any g g' P X f (inr x) = f 0 (x.1 0)
