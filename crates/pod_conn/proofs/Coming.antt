-- The first packets, turn after turn.
use Rattle.std.proofs.Common.{◌≡◌, ◌⊎◌, inl, inr, ℕ, zero, suc, ◌+◌, ◌-◌, ◌<◌, ◌≤◌, Bool, true, false, List, [], ◌∷◌, ◌++◌, length, take, drop, Result, Ok, Err, refl, ap, sym, subst, ◌∙◌, arith, append_assoc, append-nil}
use Rattle.std.specs.Prelude.{◌==◌, replicate}
use Rattle.std.proofs.lemmas.Bool.{eqb-true}
use Rattle.std.proofs.lemmas.List.{drop-append-le, replicate-append-replicate}
use Rattle.proxy_outside.specs.Reading.{Origin, Rose}
use Rattle.proxy_outside.specs.Writing.{Target}
use Rattle.link_io.specs.Reading.{IsAtEnd}
use Rattle.link_io.specs.Writing.{Wrote, WroteSome}
use Rattle.link_io.proofs.Parts.{wrote_none, wrote_more}
use Rattle.pgw_messages.specs.declared.params.Pair.{Pair}
use Rattle.pod_conn.specs.declared.end.PodEnd.{PodEnd}
use Rattle.pod_conn.specs.declared.end.PodEnd.TheVariants.{Closed, ClientCut, BadFrame, BadStartup, AuthRefused, ReadFault, WriteFault, JournalFull, NoMemory}
use Rattle.pod_conn.specs.declared.entrance.Turned.{Turned}
use Rattle.pod_conn.specs.declared.entrance.Turned.TheVariants.{On, Came, Over}
use Rattle.pod_conn.specs.declared.packet.Packet.{Packet}
use Rattle.pod_conn.specs.declared.packet.Packet.TheVariants.{Part, Request, Cancelling, Starting, Unfit}
use Rattle.pod_conn.specs.Courses.{Standing, Between, Inside, resting}
use Rattle.pod_conn.specs.Packets.{packet_of}
use Rattle.pod_conn.specs.Entrances.{Comer, Nobody, Visitor, Canceller, Stranger, Entrance, comes, says_more, entered, entrance_with}
use Rattle.pod_conn.specs.Serving.{Hears}
use Rattle.pod_conn.specs.Coming.{Feeds, says_behind, GoesIn, ComesIn, IsPart, WhyNot, StaysOut, Turns}
use Rattle.pod_conn.proofs.Halves.{hears_none, hears_more, rose_from}
use Rattle.pod_conn.proofs.Packets.{Known, packet_stays, request_is_long, startup_is_long}

-- ---- what stands at the entrance

abbrev IsLast : Packet → Type 0
IsLast Part = Unit {0}
IsLast Request = ⊥
IsLast Cancelling = Unit {0}
IsLast (Starting p len) = Unit {0}
IsLast Unfit = Unit {0}

entered_last : (next other : Entrance) (q : Packet) (b : List ℕ) → IsLast q → entered next q b ≡ entered other q b
entered_last next other Part b h = refl
entered_last next other Request b h = absurd h
entered_last next other Cancelling b h = refl
entered_last next other (Starting p len) b h = refl
entered_last next other Unfit b h = refl

-- a packet that is no request is the entrance
pub last_is : (left : ℕ) (b : List ℕ) (q : Packet) → packet_of b ≡ q → IsLast q → entrance_with left b ≡ entered (comes Stranger) q b
unfolding entrance_with
last_is zero b q e h = ap (λ p. entered (comes Stranger) p b) e
last_is (suc left) b q e h = ap (λ p. entered (says_more (entrance_with left (drop 8 b))) p b) e ∙ entered_last (says_more (entrance_with left (drop 8 b))) (comes Stranger) q b h

pub third_is : (b : List ℕ) → packet_of b ≡ Request → entrance_with 0 b ≡ comes Stranger
unfolding entrance_with
third_is b e = ap (λ p. entered (comes Stranger) p b) e

pub request_is : (left : ℕ) (b : List ℕ) → packet_of b ≡ Request → entrance_with (suc left) b ≡ says_behind 1 (entrance_with left (drop 8 b))
unfolding entrance_with
request_is left b e = ap (λ p. entered (says_more (entrance_with left (drop 8 b))) p b) e

-- ---- one turn

none_behind : (e : Entrance) → e ≡ says_behind 0 e
none_behind e = let is : e.says ≡ 0 + e.says = omega arith in ap (λ (x : ℕ). record { says = x; comer = e.comer }) is

module _ (h : List ℕ) (s : Origin) where
  pub on_fed : (left : ℕ) (i : List ℕ) (t : Origin) (k : Target) → Feeds (Ok tt) h i s t → GoesIn left h left i s t k k
  on_fed left i t k f = record {
    taken = f.0;
    says = 0;
    hears = f.1;
    wrote = wrote_none k;
    goes = λ more. ap (entrance_with left) (sym (append_assoc h f.0 more) ∙ ap (λ v. v ++ more) (sym f.2)) ∙ none_behind (entrance_with left (i ++ more));
  }

  part_is : (left : ℕ) → packet_of h ≡ Part → (at : Standing) → resting h ≡ at → IsPart (entrance_with left (h ++ [])) at
  part_is left e at r =
      let is : entrance_with left (h ++ []) ≡ comes (Nobody h) = ap (entrance_with left) (append-nil h) ∙ last_is left h Part e tt in
      record { bytes = h; is = ap (λ (x : Entrance). x.comer) is; rests = r }

  part_says : (left : ℕ) → packet_of h ≡ Part → 0 ≡ (entrance_with left (h ++ [])).says
  part_says left e = sym (ap (λ (x : Entrance). x.says) (ap (entrance_with left) (append-nil h) ∙ last_is left h Part e tt))

  rests_either : (left : ℕ) → packet_of h ≡ Part → IsPart (entrance_with left (h ++ [])) Between ⊎ IsPart (entrance_with left (h ++ [])) Inside
  rests_either left e = by h refl
    where
      by : (b : List ℕ) → h ≡ b → IsPart (entrance_with left (h ++ [])) Between ⊎ IsPart (entrance_with left (h ++ [])) Inside
      by [] is = inl (part_is left e Between (ap resting is))
      by (c ∷ b) is = inr (part_is left e Inside (ap resting is))

  pub over_fed : (left : ℕ) (end : PodEnd) (i : List ℕ) (t : Origin) (k : Target) → packet_of h ≡ Part → Feeds (Err end) h i s t → StaysOut left h end s t k k
  over_fed left Closed i t k e f = record { taken = []; says = 0; hears = f.0; wrote = wrote_none k; why = (part_says left e, inr (part_is left e Between f.1, f.2)) }
  over_fed left ClientCut i t k e f = record { taken = []; says = 0; hears = f.0; wrote = wrote_none k; why = (part_says left e, part_is left e Inside f.1, f.2) }
  over_fed left ReadFault i t k e f = record { taken = []; says = 0; hears = f.0; wrote = wrote_none k; why = (part_says left e, rests_either left e, f.1) }
  over_fed left NoMemory i t k e f = record { taken = f.0; says = 0; hears = f.1; wrote = wrote_none k; why = omega arith }
  over_fed left (BadFrame n) i t k e f = absurd f
  over_fed left BadStartup i t k e f = absurd f
  over_fed left AuthRefused i t k e f = absurd f
  over_fed left WriteFault i t k e f = absurd f
  over_fed left (JournalFull n) i t k e f = absurd f

  -- it is over where nothing is read
  over_is : (left : ℕ) (end : PodEnd) (who : Comer) (k : Target) → entrance_with left h ≡ comes who → WhyNot end (comes who) 0 s s k k → StaysOut left h end s s k k
  over_is left end who k e w = record {
    taken = [];
    says = 0;
    hears = hears_none s;
    wrote = wrote_none k;
    why = subst (λ (x : Entrance). WhyNot end x 0 s s k k) (sym (ap (entrance_with left) (append-nil h) ∙ e)) w;
  }

  pub third_over : (left : ℕ) (k : Target) → packet_of h ≡ Request → left ≡ 0 → StaysOut left h BadStartup s s k k
  third_over left k e z = over_is left BadStartup Stranger k (ap (λ n. entrance_with n h) z ∙ third_is h e) (refl, refl)

  pub cancel_over : (left : ℕ) (k : Target) → Cancelling ≡ packet_of h → StaysOut left h Closed s s k k
  cancel_over left k e = over_is left Closed Canceller k (last_is left h Cancelling (sym e) tt) (refl, inl refl)

  pub unfit_over : (left : ℕ) (k : Target) → Unfit ≡ packet_of h → StaysOut left h BadStartup s s k k
  unfit_over left k e = over_is left BadStartup Stranger k (last_is left h Unfit (sym e) tt) (refl, refl)

  pub lacking_over : (left : ℕ) (k : Target) → StaysOut left h NoMemory s s k k
  lacking_over left k = record { taken = []; says = 0; hears = hears_none s; wrote = wrote_none k; why = omega arith }

  pub came_in : (left : ℕ) (p : List Pair) (len : ℕ) (i : List ℕ) (k : Target) → Starting p len ≡ packet_of h → i ≡ drop len h → ComesIn left h p i s s k k
  came_in left p len i k e is = record {
    taken = [];
    says = 0;
    hears = hears_none s;
    wrote = wrote_none k;
    came = λ more.
        last_is left (h ++ more) (Starting p len) (packet_stays h more (Starting p len) (sym e) tt) tt
        ∙ ap (λ v. comes (Visitor p v)) (drop-append-le len h more (startup_is_long h p len (sym e)) ∙ ap (λ v. v ++ more) (sym is));
  }

  pub answered_on : (left : ℕ) (i : List ℕ) (k l : Target) → packet_of h ≡ Request → (left ≡ 0 → ⊥) → i ≡ drop 8 h → Wrote k l (78 ∷ []) → GoesIn left h (left - 1) i s s k l
  answered_on zero i k l e z is w = absurd (z refl)
  answered_on (suc left) i k l e z is w = record {
    taken = [];
    says = 1;
    hears = hears_none s;
    wrote = w;
    goes = λ more.
        let less : suc left - 1 ≡ left = omega arith in
        request_is left (h ++ more) (packet_stays h more Request e tt)
        ∙ ap (λ v. says_behind 1 (entrance_with left v)) (drop-append-le 8 h more (request_is_long h e) ∙ ap (λ v. v ++ more) (sym is))
        ∙ ap (λ n. says_behind 1 (entrance_with n (i ++ more))) (sym less);
  }

  pub unanswered_over : (left : ℕ) (k l : Target) → WroteSome k l (78 ∷ []) → StaysOut left h WriteFault s s k l
  unanswered_over left k l w = by w.count w.some w.wrote
    where
      by : (n : ℕ) → n < 1 → Wrote k l (take n (78 ∷ [])) → StaysOut left h WriteFault s s k l
      by zero lt x = record { taken = []; says = 0; hears = hears_none s; wrote = x; why = (omega arith, w.rose) }
      by (suc n) lt x = absurd (omega (arith, lt))

-- ---- turn after turn

pub goes_none : (left : ℕ) (h : List ℕ) (s : Origin) (k : Target) → GoesIn left h left h s s k k
goes_none left h s k = record { taken = []; says = 0; hears = hears_none s; wrote = wrote_none k; goes = λ more. none_behind (entrance_with left (h ++ more)) }

wrote_says : (a b c : Target) (m n : ℕ) → Wrote a b (replicate m 78) → Wrote b c (replicate n 78) → Wrote a c (replicate (m + n) 78)
wrote_says a b c m n p q = subst (λ (v : List ℕ). Wrote a c v) (replicate-append-replicate m n 78) (wrote_more a b c (replicate m 78) (replicate n 78) p q)

twice_behind : (m n : ℕ) (e : Entrance) → says_behind m (says_behind n e) ≡ says_behind (m + n) e
twice_behind m n e = let is : m + (n + e.says) ≡ m + n + e.says = omega arith in ap (λ (x : ℕ). record { says = x; comer = e.comer }) is

module _ (left left' : ℕ) (h i : List ℕ) (a b c : Origin) (k l m : Target) (p : GoesIn left h left' i a b k l) where
  leads_to : (t more : List ℕ) → entrance_with left (h ++ ((p.taken ++ t) ++ more)) ≡ says_behind p.says (entrance_with left' (i ++ (t ++ more)))
  leads_to t more = ap (λ v. entrance_with left (h ++ v)) (append_assoc p.taken t more) ∙ p.goes (t ++ more)

  pub goes_more : (left'' : ℕ) (j : List ℕ) → GoesIn left' i left'' j b c l m → GoesIn left h left'' j a c k m
  goes_more left'' j q = record {
    taken = p.taken ++ q.taken;
    says = p.says + q.says;
    hears = hears_more a b c p.taken q.taken p.hears q.hears;
    wrote = wrote_says k l m p.says q.says p.wrote q.wrote;
    goes = λ more. leads_to q.taken more ∙ ap (says_behind p.says) (q.goes more) ∙ twice_behind p.says q.says (entrance_with left'' (j ++ more));
  }

  pub comes_more : (params : List Pair) (j : List ℕ) → ComesIn left' i params j b c l m → ComesIn left h params j a c k m
  comes_more params j q = record {
    taken = p.taken ++ q.taken;
    says = p.says + q.says;
    hears = hears_more a b c p.taken q.taken p.hears q.hears;
    wrote = wrote_says k l m p.says q.says p.wrote q.wrote;
    came = λ more. leads_to q.taken more ∙ ap (says_behind p.says) (q.came more) ∙ twice_behind p.says q.says (comes (Visitor params (j ++ more)));
  }

  part_behind : (e : Entrance) (n : ℕ) (at : Standing) → IsPart e at → IsPart (says_behind n e) at
  part_behind e n at x = record { bytes = x.bytes; is = x.is; rests = x.rests }

  why_behind : (end : PodEnd) (e : Entrance) (n : ℕ) → WhyNot end e n b c l m → WhyNot end (says_behind p.says e) (p.says + n) a c k m
  why_behind Closed e n (x, inl y) = (ap (λ v. p.says + v) x, inl y)
  why_behind Closed e n (x, inr y) = (ap (λ v. p.says + v) x, inr (part_behind e p.says Between y.0, y.1))
  why_behind ClientCut e n x = (ap (λ v. p.says + v) x.0, part_behind e p.says Inside x.1, x.2)
  why_behind BadStartup e n x = (ap (λ v. p.says + v) x.0, x.1)
  why_behind ReadFault e n (x, inl y, r) = (ap (λ v. p.says + v) x, inl (part_behind e p.says Between y), rose_from a.faults b.faults c.faults p.hears.faults r)
  why_behind ReadFault e n (x, inr y, r) = (ap (λ v. p.says + v) x, inr (part_behind e p.says Inside y), rose_from a.faults b.faults c.faults p.hears.faults r)
  why_behind WriteFault e n x = (let y = x.0 in omega arith, rose_from k.faults l.faults m.faults p.wrote.faults x.1)
  why_behind NoMemory e n x = omega arith
  why_behind (BadFrame j) e n x = absurd x
  why_behind AuthRefused e n x = absurd x
  why_behind (JournalFull j) e n x = absurd x

  pub stays_more : (end : PodEnd) → StaysOut left' i end b c l m → StaysOut left h end a c k m
  stays_more end q = record {
    taken = p.taken ++ q.taken;
    says = p.says + q.says;
    hears = hears_more a b c p.taken q.taken p.hears q.hears;
    wrote = wrote_says k l m p.says q.says p.wrote q.wrote;
    why =
        let is : entrance_with left (h ++ (p.taken ++ q.taken)) ≡ says_behind p.says (entrance_with left' (i ++ q.taken)) = p.goes q.taken in
        subst (λ (x : Entrance). WhyNot end x (p.says + q.says) a c k m) (sym is) (why_behind end (entrance_with left' (i ++ q.taken)) q.says q.why);
  }
