-- What further bytes change of an entrance.
use Rattle.std.proofs.Common.{◌≡◌, ◌∙◌, ℕ, zero, suc, ◌+◌, ◌-◌, ◌*◌, ◌<◌, ◌≤◌, Bool, true, false, List, [], ◌++◌, length, drop, refl, sym, ap, subst, arith, true≢false}
use Rattle.std.specs.Prelude.{nat_lt, not}
use Rattle.std.proofs.lemmas.Bool.{lt-ltb, le-ltb}
use Rattle.std.proofs.lemmas.List.{length-drop, drop-append-le, drop-drop, drop_all}
use Rattle.startup_route.specs.declared.step.DoorStep.{DoorStep}
use Rattle.startup_route.specs.declared.step.DoorStep.TheVariants as step
use Rattle.startup_route.specs.Packets.{step_of, missing}
use Rattle.startup_route.specs.Entrances.{Entrance, behind, entrance_with, entrance, is_need, packet_in, wanted, step_between}
use Rattle.startup_route.specs.Doors.{Knows, goes_on, said_by}
use Rattle.startup_route.proofs.PacketLemmas.{known_stays, missing_some, need_more, is_say, Asks, asks, asks_alone}

need_is : (s : DoorStep) → is_need s ≡ true → s ≡ step.Need
need_is step.Need h = refl
need_is step.Say h = absurd (true≢false (sym h))
need_is (step.Ready r) h = absurd (true≢false (sym h))
need_is (step.Cancel k) h = absurd (true≢false (sym h))
need_is (step.Refused f) h = absurd (true≢false (sym h))

-- a packet that isn't whole is the entrance
need_opens : (left : ℕ) (b : List ℕ) → is_need (step_of left b) ≡ true → entrance_with left b ≡ record { says = 0; step = step.Need }
unfolding entrance_with
need_opens zero b h = rw (need_is (step_of 0 b) h) refl
need_opens (suc left) b h = rw (need_is (step_of (suc left) b) h) refl

-- so many answers before this entrance
abbrev pub after : ℕ → Entrance → Entrance
after s o = record { says = s + o.says; step = o.step }

after_none : (o : Entrance) → o ≡ after 0 o
after_none o = let e : o.says ≡ 0 + o.says = omega arith in ap (λ (n : ℕ). record { says = n; step = o.step }) e

-- so many requests were answered, and behind them stands a packet that isn't whole
pub record Stands (left : ℕ) (b : List ℕ) (s : ℕ) : Type 0 where
  pub within : 8 * s ≤ length b
  pub most : s ≤ left
  pub needs : is_need (step_of (left - s) (drop (8 * s) b)) ≡ true
  pub goes : (p : List ℕ) → entrance_with left (b ++ p) ≡ after s (entrance_with (left - s) (drop (8 * s) b ++ p))

none_said : (left : ℕ) (b : List ℕ) → is_need (step_of left b) ≡ true → Stands left b 0
none_said left b h =
    let same : left - 0 ≡ left = omega arith in
    record { within = omega arith; most = omega arith; needs = rw same h; goes = λ p. rw same (after_none (entrance_with left (b ++ p))) }

one_said : (left : ℕ) (b : List ℕ) (s : ℕ) → step_of (suc left) b ≡ step.Say → Stands left (drop 8 b) s → Stands (suc left) b (s + 1)
unfolding entrance_with
one_said left b s say h =
    let said : is_say (step_of (suc left) b) ≡ true = rw say refl in
    let known : is_need (step_of (suc left) b) ≡ false = rw say refl in
    let long : 8 ≤ length b = (asks (suc left) b said).long in
    let less : suc left - (s + 1) ≡ left - s = omega arith in
    let place : 8 * (s + 1) ≡ 8 + 8 * s = omega arith in
    let front : drop (8 * (s + 1)) b ≡ drop (8 * s) (drop 8 b) = rw place (sym (drop-drop (8 * s) 8 b)) in
    record {
      within = omega (arith, h.within, length-drop 8 b);
      most = omega (arith, h.most);
      needs = rw (less, front) h.needs;
      goes = λ p.
          let o : Entrance = entrance_with (left - s) (drop (8 * s) (drop 8 b) ++ p) in
          let count : s + o.says + 1 ≡ s + 1 + o.says = omega arith in
          rw (known_stays (suc left) b p known, say, drop-append-le 8 b p long, h.goes p, less, front) (ap (λ (n : ℕ). record { says = n; step = o.step }) count);
    }

pub stands : (left : ℕ) (b : List ℕ) → is_need (entrance_with left b).step ≡ true → Stands left b (entrance_with left b).says
unfolding entrance_with
stands zero b h = none_said 0 b h
stands (suc left) b h = by_step (stands left (drop 8 b)) (step_of (suc left) b) refl h
  where
    by_step : (is_need (entrance_with left (drop 8 b)).step ≡ true → Stands left (drop 8 b) (entrance_with left (drop 8 b)).says) → (s : DoorStep) → step_of (suc left) b ≡ s → is_need (behind s (entrance_with left (drop 8 b))).step ≡ true → Stands (suc left) b (behind s (entrance_with left (drop 8 b))).says
    by_step more step.Need e k = none_said (suc left) b (rw e refl)
    by_step more step.Say e k = one_said left b (entrance_with left (drop 8 b)).says e (more k)
    by_step more (step.Ready r) e k = absurd (true≢false (sym k))
    by_step more (step.Cancel c) e k = absurd (true≢false (sym k))
    by_step more (step.Refused f) e k = absurd (true≢false (sym k))

-- ---- laws

pub nothing_behind : (left : ℕ) (b p : List ℕ) → is_need (entrance_with left b).step ≡ false → entrance_with left (b ++ p) ≡ entrance_with left b
unfolding entrance_with
nothing_behind zero b p h = rw (known_stays 0 b p h) refl
nothing_behind (suc left) b p h = by_step (nothing_behind left (drop 8 b) p) (step_of (suc left) b) refl h
  where
    by_step : (is_need (entrance_with left (drop 8 b)).step ≡ false → entrance_with left (drop 8 b ++ p) ≡ entrance_with left (drop 8 b)) → (s : DoorStep) → step_of (suc left) b ≡ s → is_need (behind s (entrance_with left (drop 8 b))).step ≡ false
        → behind (step_of (suc left) (b ++ p)) (entrance_with left (drop 8 (b ++ p))) ≡ behind (step_of (suc left) b) (entrance_with left (drop 8 b))
    by_step more step.Need e k = absurd (true≢false k)
    by_step more step.Say e k =
        let said : is_say (step_of (suc left) b) ≡ true = rw e refl in
        let known : is_need (step_of (suc left) b) ≡ false = rw e refl in
        rw (known_stays (suc left) b p known, e, drop-append-le 8 b p (asks (suc left) b said).long, more k) refl
    by_step more (step.Ready r) e k = let known : is_need (step_of (suc left) b) ≡ false = rw e refl in rw (known_stays (suc left) b p known, e) refl
    by_step more (step.Cancel c) e k = let known : is_need (step_of (suc left) b) ≡ false = rw e refl in rw (known_stays (suc left) b p known, e) refl
    by_step more (step.Refused f) e k = let known : is_need (step_of (suc left) b) ≡ false = rw e refl in rw (known_stays (suc left) b p known, e) refl

still_needs : (b p : List ℕ) → is_need (entrance b).step ≡ true → length p < missing (packet_in b) → entrance (b ++ p) ≡ entrance b
still_needs b p h lt =
    let s = stands 2 b h in
    let more = need_more (2 - (entrance b).says) (packet_in b) p s.needs lt in
    let same : (entrance b).says + 0 ≡ (entrance b).says = omega arith in
    s.goes p ∙ rw (need_opens _ _ more, same, ← need_is (entrance b).step h) refl

pub wanted_needed : (b p : List ℕ) → is_need (entrance b).step ≡ true → (0 < wanted b) × (length p < wanted b → entrance (b ++ p) ≡ entrance b)
wanted_needed b p h =
    let s = stands 2 b h in
    (rw h (missing_some (2 - (entrance b).says) (packet_in b) s.needs), λ lt. still_needs b p h (rw h at lt))

-- ---- one piece more

-- what a door answers, and what it knows afterwards
pub record Feeds (fed p : List ℕ) (says : ℕ) : Type 0 where
  pub answer : step_of (2 - says) (drop (8 * says) (fed ++ p)) ≡ step_between (entrance fed) (entrance (fed ++ p))
  pub knows : Knows (says + said_by (step_of (2 - says) (drop (8 * says) (fed ++ p)))) (not (goes_on (step_of (2 - says) (drop (8 * says) (fed ++ p))))) (fed ++ p)

-- what stands behind the requests that were answered, with one piece more
record Follows (left : ℕ) (b : List ℕ) (s : DoorStep) : Type 0 where
  says : (entrance_with left b).says ≡ said_by s
  needs : is_need (entrance_with left b).step ≡ goes_on s
  known : is_say s ≡ false → (entrance_with left b).step ≡ s

no_bytes : (left : ℕ) → is_need (step_of left []) ≡ true
unfolding step_of
no_bytes left = refl

follows_last : (b : List ℕ) (s : DoorStep) → step_of 0 b ≡ s → is_say s ≡ false → is_need s ≡ goes_on s → 0 ≡ said_by s → Follows 0 b s
unfolding entrance_with
follows_last b s e silent n z = record { says = z; needs = rw e n; known = λ h. e }

follows_other : (left : ℕ) (b : List ℕ) (s : DoorStep) → step_of (suc left) b ≡ s → behind s (entrance_with left (drop 8 b)) ≡ record { says = 0; step = s } → is_need s ≡ goes_on s → 0 ≡ said_by s → Follows (suc left) b s
unfolding entrance_with
follows_other left b s e f n z = record { says = rw (e, f) z; needs = rw (e, f) n; known = λ h. rw (e, f) refl }

follows_say : (left : ℕ) (b : List ℕ) → step_of (suc left) b ≡ step.Say → length b ≤ 8 → Follows (suc left) b step.Say
unfolding entrance_with
follows_say left b e le =
    let nothing : drop 8 b ≡ [] = drop_all 8 b le in
    let next : entrance_with left (drop 8 b) ≡ record { says = 0; step = step.Need } = rw nothing (need_opens left [] (no_bytes left)) in
    record { says = rw (e, next) refl; needs = rw (e, next) refl; known = λ h. absurd (true≢false h) }

follows : (left : ℕ) (b : List ℕ) → (is_say (step_of left b) ≡ true → length b ≤ 8) → Follows left b (step_of left b)
follows left b alone = by_step left (step_of left b) refl (asks left b) alone
  where
    by_step : (n : ℕ) (s : DoorStep) → step_of n b ≡ s → (is_say s ≡ true → Asks n b) → (is_say s ≡ true → length b ≤ 8) → Follows n b s
    by_step zero step.Need e a le = follows_last b step.Need e refl refl refl
    by_step zero step.Say e a le = absurd (omega (arith, (a refl).some))
    by_step zero (step.Ready r) e a le = follows_last b (step.Ready r) e refl refl refl
    by_step zero (step.Cancel c) e a le = follows_last b (step.Cancel c) e refl refl refl
    by_step zero (step.Refused f) e a le = follows_last b (step.Refused f) e refl refl refl
    by_step (suc n) step.Need e a le = follows_other n b step.Need e refl refl refl
    by_step (suc n) step.Say e a le = follows_say n b e (le refl)
    by_step (suc n) (step.Ready r) e a le = follows_other n b (step.Ready r) e refl refl refl
    by_step (suc n) (step.Cancel c) e a le = follows_other n b (step.Cancel c) e refl refl refl
    by_step (suc n) (step.Refused f) e a le = follows_other n b (step.Refused f) e refl refl refl

answer_is : (s : ℕ) (o : Entrance) (old st : DoorStep) → o.says ≡ said_by st → (is_say st ≡ false → o.step ≡ st) → st ≡ step_between (record { says = s; step = old }) (after s o)
answer_is s o old step.Say e known = let more : nat_lt s (s + o.says) ≡ true = lt-ltb _ _ (omega (arith, e)) in rw more refl
answer_is s o old step.Need e known = let same : nat_lt s (s + o.says) ≡ false = le-ltb _ _ (omega (arith, e)) in rw same (sym (known refl))
answer_is s o old (step.Ready r) e known = let same : nat_lt s (s + o.says) ≡ false = le-ltb _ _ (omega (arith, e)) in rw same (sym (known refl))
answer_is s o old (step.Cancel c) e known = let same : nat_lt s (s + o.says) ≡ false = le-ltb _ _ (omega (arith, e)) in rw same (sym (known refl))
answer_is s o old (step.Refused f) e known = let same : nat_lt s (s + o.says) ≡ false = le-ltb _ _ (omega (arith, e)) in rw same (sym (known refl))

feeds_open : (fed p : List ℕ) → is_need (entrance fed).step ≡ true → length p ≤ missing (packet_in fed) → Feeds fed p (entrance fed).says
feeds_open fed p h le =
    let says : ℕ = (entrance fed).says in
    let s = stands 2 fed h in
    let place : drop (8 * says) (fed ++ p) ≡ packet_in fed ++ p = drop-append-le (8 * says) fed p s.within in
    let f = follows (2 - says) (packet_in fed ++ p) (asks_alone (2 - says) (packet_in fed) p s.needs le) in
    let o : Entrance = entrance_with (2 - says) (packet_in fed ++ p) in
    let new : entrance (fed ++ p) ≡ after says o = s.goes p in
    let same : step_of (2 - says) (drop (8 * says) (fed ++ p)) ≡ step_of (2 - says) (packet_in fed ++ p) = ap (λ (t : List ℕ). step_of (2 - says) t) place in
    record {
      answer = same ∙ answer_is says o (entrance fed).step (step_of (2 - says) (packet_in fed ++ p)) f.says f.known ∙ ap (λ (x : Entrance). step_between (entrance fed) x) (sym new);
      knows = record {
        says_is = ap (λ (t : DoorStep). says + said_by t) same ∙ ap (λ (n : ℕ). says + n) (sym f.says) ∙ ap (λ (x : Entrance). x.says) (sym new);
        over_is = ap (λ (t : DoorStep). not (goes_on t)) same ∙ ap not (sym f.needs) ∙ ap (λ (x : Entrance). not (is_need x.step)) (sym new);
      };
    }

pub feeds : (fed p : List ℕ) → 0 < length p → length p ≤ wanted fed → Feeds fed p (entrance fed).says
feeds fed p some le = by_need (is_need (entrance fed).step) refl
  where
    by_need : (n : Bool) → is_need (entrance fed).step ≡ n → Feeds fed p (entrance fed).says
    by_need true e = feeds_open fed p e (rw e at le)
    by_need false e = let none : length p ≤ 0 = rw e at le in absurd (omega (arith, none, some))

-- ---- what a door knows

-- the places of a door that still needs bytes
pub record IsOpen (says : ℕ) (fed : List ℕ) : Type 0 where
  pub within : 8 * says ≤ length fed
  pub most : says ≤ 2
  pub wants : wanted fed ≡ missing (drop (8 * says) fed)

is_open : (says : ℕ) (fed : List ℕ) → says ≡ (entrance fed).says → is_need (entrance fed).step ≡ true → IsOpen says fed
is_open says fed e h = let s = stands 2 fed h in record {
  within = rw e s.within;
  most = rw e s.most;
  wants = rw (e, h) refl;
}

not_true : (b : Bool) → false ≡ not b → b ≡ true
not_true true e = refl
not_true false e = absurd (true≢false (sym e))

not_false : (b : Bool) → true ≡ not b → b ≡ false
not_false true e = absurd (true≢false e)
not_false false e = refl

pub open_door : (says : ℕ) (fed : List ℕ) → Knows says false fed → IsOpen says fed
open_door says fed k = is_open says fed k.says_is (not_true _ k.over_is)

pub closed_door : (says : ℕ) (fed : List ℕ) → Knows says true fed → wanted fed ≡ 0
closed_door says fed k = rw (not_false _ k.over_is) refl

-- a door that wants bytes is open
pub wanting_door : (says : ℕ) (over : Bool) (fed : List ℕ) → Knows says over fed → 0 < wanted fed → IsOpen says fed
wanting_door says false fed k some = open_door says fed k
wanting_door says true fed k some = absurd (omega (arith, closed_door says fed k, some))

pub new_door : (fed : List ℕ) → fed ≡ [] → Knows 0 false fed
unfolding entrance_with step_of
new_door fed e = rw e (record { says_is = refl; over_is = refl })

-- what a door answers to one piece more, and what it knows then
pub record FedMore (says : ℕ) (fed p new : List ℕ) (s : DoorStep) : Type 0 where
  pub answer : s ≡ step_between (entrance fed) (entrance (fed ++ p))
  pub knows : Knows (says + said_by s) (not (goes_on s)) new

pub fed_more : (says : ℕ) (over : Bool) (fed p new : List ℕ) (s : DoorStep) → Knows says over fed → 0 < length p → length p ≤ wanted fed → new ≡ fed ++ p
    → s ≡ step_of (2 - says) (drop (8 * says) new) → FedMore says fed p new s
fed_more says over fed p new s k some le e h =
    let f = feeds fed p some le in
    let start : ℕ = (entrance fed).says in
    let same : s ≡ step_of (2 - start) (drop (8 * start) (fed ++ p)) =
    h ∙ ap (λ (b : List ℕ). step_of (2 - says) (drop (8 * says) b)) e ∙ ap (λ (n : ℕ). step_of (2 - n) (drop (8 * n) (fed ++ p))) k.says_is in
    let counted : Knows (says + said_by (step_of (2 - start) (drop (8 * start) (fed ++ p)))) (not (goes_on (step_of (2 - start) (drop (8 * start) (fed ++ p))))) (fed ++ p)
    = subst (λ (n : ℕ). Knows (n + said_by (step_of (2 - start) (drop (8 * start) (fed ++ p)))) (not (goes_on (step_of (2 - start) (drop (8 * start) (fed ++ p))))) (fed ++ p)) (sym k.says_is) f.knows in
    let now : Knows (says + said_by s) (not (goes_on s)) (fed ++ p) = subst (λ (t : DoorStep). Knows (says + said_by t) (not (goes_on t)) (fed ++ p)) (sym same) counted in
    record { answer = same ∙ f.answer; knows = subst (λ (b : List ℕ). Knows (says + said_by s) (not (goes_on s)) b) (sym e) now }
