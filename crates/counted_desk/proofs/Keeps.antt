-- Each step keeps the rule of the desk's table.
use Rattle.std.proofs.Common.{◌≡◌, ◌≢◌, ◌⊎◌, ℕ, zero, suc, ◌+◌, ◌^◌, ◌<◌, ◌≤◌, List, [], ◌∷◌, ◌++◌, length, set, drop, refl, sym, ap, ◌∙◌, subst, ⊎_elim, inl, inr, arith, leb, ◌%◌, cond, eqb, eq-eqb, ne_eqb, Bool, true, false, Option, Some}
use Rattle.std.specs.Prelude.{slice_index}
use mathlib.Core.Logic.{dite}
use mathlib.Core.Option.{some, none, some-ne-none, some-injective}
use native.Mathlib.Decide.{ℕ_discrete}
use prog.Atomic.{either}
use borrow.Author.Tests.{leb-true, leb-false}
use lib.ListN.{get_elem?}
use Rattle.atomic_table.specs.Table.{State, Me, step, Act, keeps, takes, gives, Valid, carried_after, homes_after, Allows, Splits, Joins, opening}
use Rattle.atomic_table.proofs.Lists.{at_set, at_snoc, set_again, exchanged}
use Rattle.counted_desk.specs.declared.entry.Entry.{Entry}
use Rattle.counted_desk.specs.declared.entry.Role.{Role}
use Rattle.counted_desk.specs.declared.entry.Role.TheVariants.{Spent, Idle, Waiting, Turn}
use Rattle.counted_desk.specs.declared.entry.View.{View}
use Rattle.proxy_outside.specs.Rules.{Rules}
use Rattle.pgw_frames.specs.Frames.{Begins}
use Rattle.counted_desk.specs.History.{log_of, state_of, Rises, times, Within, one_if, Call}
use Rattle.counted_desk.specs.Rule.{total, has, has_any, has_turn, newcomer, spent, drawn, at_turn, after_turn, copied, joined, Knows, Fits, Home, IsWhole, IsDue, IsKept, Took, drew, looked, left, compared, Held}
use Rattle.counted_desk.proofs.Totals.{total_set, total_append, total_one, total_two, total_below, total_zero, each_set, set_at, begins_same, begins_none, begins_more, begins_shorter, within_more, within_append, drop_front, has_last, times_append, times_none}

has_here : (n : ℕ) → one_if (eqb n n) ≡ 1
has_here n = ap one_if (eq-eqb n n refl)

has_not : (n t : ℕ) → n ≢ t → one_if (eqb n t) ≡ 0
has_not n t ne = ap one_if (ne_eqb n t ne)

has_same : (n t : ℕ) → n ≡ t → one_if (eqb n t) ≡ 1
has_same n t e = ap one_if (eq-eqb n t e)

has_most : (n t : ℕ) → one_if (eqb n t) ≤ 1
has_most n t = dite (ℕ_discrete n t) (λ e. let h = has_same n t e in omega arith) (λ ne. let h = has_not n t ne in omega arith)

-- where something has the ticket t, its role does
has_apart : (t : ℕ) (r : Role) → ((n : ℕ) → r ≡ Waiting n → n ≢ t) → ((n : ℕ) → r ≡ Turn n → n ≢ t) → has t r ≡ 0
has_apart t Spent a b = refl
has_apart t Idle a b = refl
has_apart t (Waiting n) a b = has_not n t (a n refl)
has_apart t (Turn n) a b = has_not n t (b n refl)

module _ {M C R S : Type 0} (stands : M → S → Type 0) (rules : Rules S C R) where
  abbrev V : Type 0
  V = View C R

  abbrev H : Type 0
  H = Option (Held M C)

  abbrev K : ℕ → State H V → Type 0
  K = IsKept stands rules

  abbrev Log : List (Call C) → List (Entry C R)
  Log = log_of rules

  abbrev F : ℕ → ℕ → ℕ → List (Entry C R) → V → Type 0
  F = Fits stands rules

  knows_more : (ticket serving : ℕ) (log : List (Entry C R)) (r : Role) (seen : List (Entry C R)) → Knows stands rules ticket serving log r seen → Knows stands rules (ticket + 1) serving log r seen
  knows_more ticket serving log Spent seen k = tt
  knows_more ticket serving log Idle seen k = tt
  knows_more ticket serving log (Waiting n) seen k = (k.0, omega arith)
  knows_more ticket serving log (Turn n) seen k = (k.0, omega arith, k.2)

  -- no view has the ticket that is drawn next
  has_below : (ticket serving : ℕ) (log : List (Entry C R)) (r : Role) (seen : List (Entry C R)) → Knows stands rules ticket serving log r seen → has ticket r ≡ 0
  has_below ticket serving log Spent seen k = refl
  has_below ticket serving log Idle seen k = refl
  has_below ticket serving log (Waiting n) seen k = has_not n ticket (λ e. absurd (omega arith))
  has_below ticket serving log (Turn n) seen k = has_not n ticket (λ e. absurd (omega arith))

  -- nothing changes
  stays : (most : ℕ) (s : State H V) (k : K most s) (id : ℕ) (v : V) → get_elem? s.views id ≡ some v → K most record { words = k.ticket ∷ k.serving ∷ []; homes = s.homes; views = set s.views id v }
  stays most s k id v at = subst (λ (vs : List V). K most record { words = k.ticket ∷ k.serving ∷ []; homes = s.homes; views = vs }) (sym (set_again s.views id v at)) (subst (λ ws. K most record { words = ws; homes = s.homes; views = s.views }) k.words_are k)

  -- the ticket is drawn
  draws_here : (most : ℕ) (s : State H V) (k : K most s) (id : ℕ) (v : V) → get_elem? s.views id ≡ some v → v.role ≡ Idle → k.ticket + 1 < 2 ^ 64
      → K most record { words = (k.ticket + 1) ∷ k.serving ∷ []; homes = s.homes; views = set s.views id (drawn v k.ticket) }
  draws_here most s k id v at idle room =
      let w = drawn v k.ticket in
      let e = k.each id v at in
      let ts = total_set (λ (u : V). has_any u.role) s.views id v w at in
      let ta : has_any v.role ≡ 0 = ap has_any idle in
      let hs = total_set (λ (u : V). has_turn u.role) s.views id v w at in
      let ha : has_turn v.role ≡ 0 = ap has_turn idle in
      let same_turns : total (λ (u : V). has_turn u.role) s.views ≡ total (λ (u : V). has_turn u.role) (set s.views id w) = omega arith in
      let b : k.serving ≤ k.ticket = k.ordered in
      let c : total (λ (u : V). has_any u.role) s.views + k.serving ≡ k.ticket = k.counted in record {
        ticket = k.ticket + 1;
        serving = k.serving;
        calls = k.calls;
        words_are = refl;
        ordered = omega arith;
        bounded = room;
        counted = omega arith;
        differ = λ t. dite (ℕ_discrete k.ticket t)
            (λ (is : k.ticket ≡ t).
            let z : total (λ (u : V). has t u.role) s.views ≡ 0 = total_zero (λ (u : V). has t u.role) s.views (λ j u d. subst (λ x. has x u.role ≡ 0) is (has_below k.ticket k.serving (Log k.calls) u.role u.seen (k.each j u d).knows)) in
            let x = total_set (λ (u : V). has t u.role) s.views id v w at in
            let y : has t w.role ≡ 1 = has_same k.ticket t is in
            omega arith)
            (λ (ne : k.ticket ≢ t).
            let x = total_set (λ (u : V). has t u.role) s.views id v w at in
            let y : has t w.role ≡ 0 = has_not k.ticket t ne in
            let z = k.differ t in
            omega arith);
        home = subst (λ n. Home stands rules s.homes k.calls n) same_turns k.home;
        rising = k.rising;
        room = k.room;
        each = each_set (F most (k.ticket + 1) k.serving (Log k.calls)) s.views id w
            (record { knows = (b, omega arith); begins = e.begins; met = e.met; within = e.within; same_most = λ _. e.same_most (λ q. absurd (let r : Idle ≡ Spent = sym idle ∙ q in cc)); empty = λ (q : Waiting k.ticket ≡ Spent). absurd cc })
            (λ j u _ d. let f = k.each j u d in record { knows = knows_more k.ticket k.serving (Log k.calls) u.role u.seen f.knows; begins = f.begins; met = f.met; within = f.within; same_most = f.same_most; empty = f.empty });
        once = λ t. let x = total_set (λ (u : V). times t u.own) s.views id v w at in let y = k.once t in omega arith;
      }

  pub draws : (most slots id : ℕ) (v : V) (cs : List (ℕ × H)) (n : ℕ) → v.role ≡ Idle → n + 1 < 2 ^ 64
      → Allows (K most) slots id (v, cs) 0 (λ r. either (eqb r n) (n + 1) r) (drew stands rules (step slots 0 n (n + 1) none) (v, cs))
  draws most slots id v cs n idle room s k len at lt =
      let F' : ℕ → Type 0 = λ x. (w : V) × (a : Act H) × Valid s.homes cs a × K most record { words = x ∷ k.serving ∷ []; homes = homes_after s.homes cs a; views = set s.views id w } × drew stands rules (step slots 0 n (n + 1) none) (v, cs) k.ticket (w, carried_after cs a) in
      let G : List ℕ → Type 0 = λ ws. (w : V) × (a : Act H) × Valid s.homes cs a × K most record { words = set ws 0 (either (eqb (slice_index ws 0) n) (n + 1) (slice_index ws 0)); homes = homes_after s.homes cs a; views = set s.views id w } × drew stands rules (step slots 0 n (n + 1) none) (v, cs) (slice_index ws 0) (w, carried_after cs a) in
      subst G (sym k.words_are)
      (exchanged k.ticket n (n + 1) F'
      (λ (e : k.ticket ≡ n). (
        drawn v k.ticket,
        keeps,
        tt,
        subst (λ x. K most record { words = (x + 1) ∷ k.serving ∷ []; homes = s.homes; views = set s.views id (drawn v k.ticket) }) e (draws_here most s k id v at idle (subst (λ x. x + 1 < 2 ^ 64) (sym e) room)),
        ((λ _. refl), (λ ne. absurd (ne e))),
      ))
      (λ (ne : k.ticket ≢ n). (v, keeps, tt, stays most s k id v at, ((λ e. absurd (ne e)), (λ _. refl)))))

  waiting_same : (n n' : ℕ) → Waiting n ≡ Waiting n' → n ≡ n'
  waiting_same n n' e = cc

  -- a view with the turn has the ticket that is served
  turn_has : (ticket serving : ℕ) (log : List (Entry C R)) (r : Role) (seen : List (Entry C R)) → Knows stands rules ticket serving log r seen → has_turn r ≤ has serving r
  turn_has ticket serving log Spent seen k = omega arith
  turn_has ticket serving log Idle seen k = omega arith
  turn_has ticket serving log (Waiting n) seen k = omega arith
  turn_has ticket serving log (Turn n) seen k = let h = has_same n serving k.0 in omega arith

  -- the one whose ticket is served finds the value at home
  at_home : (most : ℕ) (s : State H V) (k : K most s) (id : ℕ) (v : V) → get_elem? s.views id ≡ some v → v.role ≡ Waiting k.serving
      → (y : Held M C) × (s.homes ≡ some (Some y) ∷ []) × (y.value.journal.items ≡ k.calls) × IsWhole stands rules y.value × (total (λ (u : V). has_turn u.role) s.views ≡ 0)
  at_home most s k id v at is =
      ⊎_elim (λ h. h)
      (λ (h : (s.homes ≡ none ∷ []) × (total (λ (u : V). has_turn u.role) s.views ≡ 1)).
      let b = total_below (λ (u : V). has_turn u.role) (λ (u : V). has k.serving u.role) s.views id v at (λ j u d. turn_has k.ticket k.serving (Log k.calls) u.role u.seen (k.each j u d).knows)
      (let p : has_turn v.role ≡ 0 = ap has_turn is in let q : has k.serving v.role ≡ 1 = ap (has k.serving) is ∙ has_here k.serving in omega arith) in
      let d = k.differ k.serving in let one = h.1 in absurd (omega arith))
      k.home

  takes_here : (most : ℕ) (s : State H V) (k : K most s) (id : ℕ) (v : V) (y : Held M C) → get_elem? s.views id ≡ some v → v.role ≡ Waiting k.serving → s.homes ≡ some (Some y) ∷ [] → y.value.journal.items ≡ k.calls
      → total (λ (u : V). has_turn u.role) s.views ≡ 0
      → K most record { words = k.ticket ∷ k.serving ∷ []; homes = set s.homes 0 none; views = set s.views id (at_turn v k.serving (Log y.value.journal.items)) }
  takes_here most s k id v y at is home items turns =
      let w = at_turn v k.serving (Log y.value.journal.items) in
      let e = k.each id v at in
      let kn : Knows stands rules k.ticket k.serving (Log k.calls) (Waiting k.serving) v.seen = subst (λ r. Knows stands rules k.ticket k.serving (Log k.calls) r v.seen) is e.knows in
      let ta : has_any v.role ≡ 1 = ap has_any is in
      let ts = total_set (λ (u : V). has_any u.role) s.views id v w at in
      let ha : has_turn v.role ≡ 0 = ap has_turn is in
      let hs = total_set (λ (u : V). has_turn u.role) s.views id v w at in
      let c : total (λ (u : V). has_any u.role) s.views + k.serving ≡ k.ticket = k.counted in
      let log : Log y.value.journal.items ≡ Log k.calls = ap Log items in
      let lt : k.serving < k.ticket = kn.1 in
      let begins : Begins v.seen (Log y.value.journal.items) = subst (Begins v.seen) (sym log) e.begins in record {
        ticket = k.ticket;
        serving = k.serving;
        calls = y.value.journal.items;
        words_are = refl;
        ordered = k.ordered;
        bounded = k.bounded;
        counted = omega arith;
        differ = λ t.
            let x = total_set (λ (u : V). has t u.role) s.views id v w at in
            let y' : has t v.role ≡ has t w.role = ap (has t) is in
            let z = k.differ t in
            omega arith;
        home = inr (ap (λ hs. set hs 0 none) home, omega arith);
        rising = subst (λ l. Rises 0 l k.serving) (sym log) k.rising;
        room = subst (λ (l : List (Call C)). length l ≤ most) (sym items) k.room;
        each = each_set (F most k.ticket k.serving (Log y.value.journal.items)) s.views id w
            (record { knows = (refl, lt, refl); begins = begins_same (Log y.value.journal.items); met = subst (Begins v.met) (sym log) e.met; within = within_more v.own v.seen (Log y.value.journal.items) begins e.within; same_most = λ _. e.same_most (λ q. absurd (let r : Waiting k.serving ≡ Spent = sym is ∙ q in cc)); empty = λ (q : Turn k.serving ≡ Spent). absurd cc })
            (λ j u _ d. subst (λ l. F most k.ticket k.serving l u) (sym log) (k.each j u d));
        once = λ t. let x = total_set (λ (u : V). times t u.own) s.views id v w at in let z = k.once t in omega arith;
      }

  pub looks : (most slots id : ℕ) (v : V) (cs : List (ℕ × H)) (n : ℕ) → v.role ≡ Waiting n
      → Allows (K most) slots id (v, cs) 1 (λ r. r) (looked stands rules (step slots 1 0 0 none) (v, cs))
  looks most slots id v cs n is s k len at lt =
      let L : ℕ → Me H V → Type 0 = looked stands rules (step slots 1 0 0 none) (v, cs) in
      let G : List ℕ → Type 0 = λ ws. (w : V) × (a : Act H) × Valid s.homes cs a × K most record { words = set ws 1 (slice_index ws 1); homes = homes_after s.homes cs a; views = set s.views id w } × L (slice_index ws 1) (w, carried_after cs a) in
      subst G (sym k.words_are)
      (dite (ℕ_discrete k.serving n)
      (λ (e : k.serving ≡ n).
      let now : v.role ≡ Waiting k.serving = is ∙ ap Waiting (sym e) in
      let h = at_home most s k id v at now in
      let y = h.0 in
      let log : Log y.value.journal.items ≡ Log k.calls = ap Log h.2 in
      let f = k.each id v at in
      let same : v.most ≡ most = f.same_most (λ q. absurd (let r : Waiting k.serving ≡ Spent = sym now ∙ q in cc)) in
      let room : length y.value.journal.items ≤ most = subst (λ (l : List (Call C)). length l ≤ most) (sym h.2) k.room in
      let took : Took stands rules k.serving v y.value = record { whole = h.3; begins = subst (Begins v.seen) (sym log) f.begins; rising = subst (λ l. Rises 0 l k.serving) (sym log) k.rising; room = omega arith } in
      let w : Me H V = (at_turn v k.serving (Log y.value.journal.items), (0, Some y) ∷ cs) in
      let P : ℕ → Type 0 = λ m. (k.serving ≡ m → (x : Held M C) × Took stands rules m v x.value × (w ≡ (at_turn v m (Log x.value.journal.items), (0, Some x) ∷ cs))) × (k.serving ≢ m → w ≡ (v, cs)) in
      let p : P k.serving = ((λ _. (y, took, refl)), (λ ne. absurd (ne refl))) in (
        w.0,
        takes 0 (Some y),
        ap (λ hs. get_elem? hs 0) h.1,
        takes_here most s k id v y at now h.1 h.2 h.4,
        λ m is'. subst P (e ∙ waiting_same n m (sym is ∙ is')) p,
      ))
      (λ (ne : k.serving ≢ n). (
        v,
        keeps,
        tt,
        stays most s k id v at,
        λ m is'. ((λ e. absurd (ne (e ∙ waiting_same m n (sym is' ∙ is)))), (λ _. refl)),
      )))

  knows_after : (ticket serving : ℕ) (log log' : List (Entry C R)) (r : Role) (seen : List (Entry C R)) → has serving r ≡ 0 → Knows stands rules ticket serving log r seen → Knows stands rules ticket (serving + 1) log' r seen
  knows_after ticket serving log log' Spent seen z k = tt
  knows_after ticket serving log log' Idle seen z k = tt
  knows_after ticket serving log log' (Waiting n) seen z k = let ne : n ≢ serving = (λ e. let h = has_same n serving e in absurd (omega arith)) in (omega arith, k.1)
  knows_after ticket serving log log' (Turn n) seen z k = let h = has_same n serving k.0 in absurd (omega arith)

  added_within : (seen added : List (Entry C R)) (n : ℕ) → (added ≡ []) ⊎ ((e : Entry C R) × (added ≡ e ∷ []) × (e.ticket ≡ n)) → Within added (seen ++ added)
  added_within seen added n one =
      ⊎_elim (λ (z : added ≡ []). subst (λ l. Within l (seen ++ l)) (sym z) tt)
      (λ (z : (e : Entry C R) × (added ≡ e ∷ []) × (e.ticket ≡ n)). subst (λ l. Within l (seen ++ l)) (sym z.1) (has_last seen z.0, tt))
      one

  times_added : (t n : ℕ) (added : List (Entry C R)) → (added ≡ []) ⊎ ((e : Entry C R) × (added ≡ e ∷ []) × (e.ticket ≡ n)) → (times t added ≤ 1) × (t ≢ n → times t added ≡ 0)
  times_added t n added one =
      ⊎_elim (λ (z : added ≡ []). subst (λ l. (times t l ≤ 1) × (t ≢ n → times t l ≡ 0)) (sym z) (omega arith, λ _. refl))
      (λ (z : (e : Entry C R) × (added ≡ e ∷ []) × (e.ticket ≡ n)). subst (λ l. (times t l ≤ 1) × (t ≢ n → times t l ≡ 0)) (sym z.1)
      ((let h = has_most z.0.ticket t in omega arith), (λ ne. let h = has_not z.0.ticket t (λ e. ne (sym e ∙ z.2)) in omega arith)))
      one

  leaves_here : (most : ℕ) (s : State H V) (k : K most s) (id : ℕ) (v : V) (y : Held M C) (n : ℕ) (added : List (Entry C R)) → get_elem? s.views id ≡ some v → IsDue stands rules n v y.value added
      → K most record { words = k.ticket ∷ (k.serving + 1) ∷ []; homes = set s.homes 0 (some (Some y)); views = set s.views id (after_turn v (Log y.value.journal.items)) }
  leaves_here most s k id v y n added at due =
      let log' = Log y.value.journal.items in
      let w = after_turn v log' in
      let e = k.each id v at in
      let kn : Knows stands rules k.ticket k.serving (Log k.calls) (Turn n) v.seen = subst (λ r. Knows stands rules k.ticket k.serving (Log k.calls) r v.seen) due.turn e.knows in
      let n_is : n ≡ k.serving = kn.0 in
      let grows : log' ≡ Log k.calls ++ added = due.log_is ∙ ap (λ l. l ++ added) kn.2 in
      let further : (xs : List (Entry C R)) → Begins xs (Log k.calls) → Begins xs log' = λ xs b. subst (Begins xs) (sym grows) (begins_more xs (Log k.calls) added b) in
      let new_is : drop (length v.seen) log' ≡ added = ap (drop (length v.seen)) due.log_is ∙ drop_front v.seen added in
      let ta : has_any v.role ≡ 1 = ap has_any due.turn in
      let ts = total_set (λ (u : V). has_any u.role) s.views id v w at in
      let ha : has_turn v.role ≡ 1 = ap has_turn due.turn in
      let hs = total_set (λ (u : V). has_turn u.role) s.views id v w at in
      let hone = total_one (λ (u : V). has_turn u.role) s.views id v at in
      let c : total (λ (u : V). has_any u.role) s.views + k.serving ≡ k.ticket = k.counted in
      let lt : k.serving < k.ticket = kn.1 in
      let mine : has k.serving v.role ≡ 1 = ap (has k.serving) due.turn ∙ has_same n k.serving n_is in
      let d1 = k.differ k.serving in
      let same : v.most ≡ most = e.same_most (λ q. absurd (let r : Turn n ≡ Spent = sym due.turn ∙ q in cc)) in
      let room = due.room in
      let seen_in : Begins v.seen log' = further v.seen e.begins in
      let added_in : Within added log' = subst (Within added) (sym due.log_is) (added_within v.seen added n due.one) in
      let own_in : Within v.own (Log k.calls) = within_more v.own v.seen (Log k.calls) e.begins e.within in record {
        ticket = k.ticket;
        serving = k.serving + 1;
        calls = y.value.journal.items;
        words_are = refl;
        ordered = omega arith;
        bounded = k.bounded;
        counted = omega arith;
        differ = λ t.
            let x = total_set (λ (u : V). has t u.role) s.views id v w at in
            let z = k.differ t in
            omega arith;
        home = ⊎_elim
            (λ (h : (x : Held M C) × (s.homes ≡ some (Some x) ∷ []) × (x.value.journal.items ≡ k.calls) × IsWhole stands rules x.value × (total (λ (u : V). has_turn u.role) s.views ≡ 0)). let z = h.4 in absurd (omega arith))
            (λ (h : (s.homes ≡ none ∷ []) × (total (λ (u : V). has_turn u.role) s.views ≡ 1)). let z = h.1 in inl (y, ap (λ hs. set hs 0 (some (Some y))) h.0, refl, due.whole, omega arith))
            k.home;
        rising = subst (λ l. Rises 0 l (k.serving + 1)) (sym due.log_is) (subst (λ m. Rises 0 (v.seen ++ added) (m + 1)) n_is due.rising);
        room = omega arith;
        each = each_set (F most k.ticket (k.serving + 1) log') s.views id w
            (record {
              knows = tt;
              begins = begins_same log';
              met = further v.met e.met;
              within = within_append v.own (drop (length v.seen) log') log' (within_more v.own v.seen log' seen_in e.within) (subst (λ l. Within l log') (sym new_is) added_in);
              same_most = λ _. same;
              empty = λ (q : Idle ≡ Spent). absurd cc;
            })
            (λ j u ne d.
            let f = k.each j u d in
            let two = total_two (λ (x : V). has k.serving x.role) s.views j id u v ne d at in
            record { knows = knows_after k.ticket k.serving (Log k.calls) log' u.role u.seen (omega arith) f.knows; begins = further u.seen f.begins; met = further u.met f.met; within = f.within; same_most = f.same_most; empty = f.empty });
        once = λ t.
            let x = total_set (λ (u : V). times t u.own) s.views id v w at in
            let z = k.once t in
            let p : times t w.own ≡ times t v.own + times t added = times_append t v.own (drop (length v.seen) log') ∙ ap (λ l. times t v.own + times t l) new_is in
            let q = times_added t n added due.one in
            dite (ℕ_discrete t n)
            (λ (is : t ≡ n).
            let zero_all : total (λ (u : V). times t u.own) s.views ≡ 0 = total_zero (λ (u : V). times t u.own) s.views (λ j u d.
            let f = k.each j u d in
            subst (λ m. times m u.own ≡ 0) (sym (is ∙ n_is)) (times_none u.own (Log k.calls) k.serving (within_more u.own u.seen (Log k.calls) f.begins f.within) k.rising)) in
            let r = q.0 in
            omega arith)
            (λ (ne : t ≢ n). let r = q.1 ne in omega arith);
      }

  out_same : (y y' : Held M C) → ◌≡◌ {A = List (ℕ × H)} ((0, Some y) ∷ []) ((0, Some y') ∷ []) → y ≡ y'
  out_same y y' is =
      let p : ◌≡◌ {A = ℕ × H} (0, Some y) (0, Some y') = cc in
      let q : ◌≡◌ {A = H} (Some y) (Some y') = ap (λ (x : ℕ × H). x.1) p in
      cc

  pub leaves : (most slots id : ℕ) (v : V) (y : Held M C) (n : ℕ) (added : List (Entry C R)) → IsDue stands rules n v y.value added
      → Allows (K most) slots id (v, (0, Some y) ∷ []) 1 (λ r. (r + 1) % 2 ^ 64) (left stands rules (step slots 1 1 0 none) (v, (0, Some y) ∷ []))
  leaves most slots id v y n added due s k len at lt =
      let cs : List (ℕ × H) = (0, Some y) ∷ [] in
      let L : ℕ → Me H V → Type 0 = left stands rules (step slots 1 1 0 none) (v, cs) in
      let G : List ℕ → Type 0 = λ ws. (w : V) × (a : Act H) × Valid s.homes cs a × K most record { words = set ws 1 ((slice_index ws 1 + 1) % 2 ^ 64); homes = homes_after s.homes cs a; views = set s.views id w } × L (slice_index ws 1) (w, carried_after cs a) in
      let e = k.each id v at in
      let kn : Knows stands rules k.ticket k.serving (Log k.calls) (Turn n) v.seen = subst (λ r. Knows stands rules k.ticket k.serving (Log k.calls) r v.seen) due.turn e.knows in
      let less : k.serving < k.ticket = kn.1 in
      let bound = k.bounded in
      let small : (k.serving + 1) % 2 ^ 64 ≡ k.serving + 1 = omega arith in
      subst G (sym k.words_are) (
        after_turn v (Log y.value.journal.items),
        gives,
        tt,
        subst (λ m. K most record { words = k.ticket ∷ m ∷ []; homes = set s.homes 0 (some (Some y)); views = set s.views id (after_turn v (Log y.value.journal.items)) }) (sym small) (leaves_here most s k id v y n added at due),
        (let k' = leaves_here most s k id v y n added at due in
            let w = after_turn v (Log y.value.journal.items) in
            let here = set_at s.views id v w at in
            λ y' is.
            let same : y ≡ y' = out_same y y' is in (
              ap (λ (x : Held M C). (after_turn v (Log x.value.journal.items), [])) same,
              record { within = (k'.each id w here).within; once = λ t. let x = total_one (λ (u : V). times t u.own) (set s.views id w) id w here in let z = k'.once t in omega arith },
            )),
      )

  pub copies : (most id : ℕ) (v : V) → v.role ≡ Idle → Splits (K most) id v v (copied v)
  copies most id v idle s k at =
      let w = copied v in
      let e = k.each id v at in
      let b : List V → Type 0 = λ vs. K most record { words = s.words; homes = s.homes; views = vs ++ w ∷ [] } in
      let ts = total_append (λ (u : V). has_any u.role) s.views (w ∷ []) in
      let hs = total_append (λ (u : V). has_turn u.role) s.views (w ∷ []) in
      let c : total (λ (u : V). has_any u.role) s.views + k.serving ≡ k.ticket = k.counted in
      let same_turns : total (λ (u : V). has_turn u.role) s.views ≡ total (λ (u : V). has_turn u.role) (s.views ++ w ∷ []) = omega arith in
      subst b (sym (set_again s.views id v at)) (record {
        ticket = k.ticket;
        serving = k.serving;
        calls = k.calls;
        words_are = k.words_are;
        ordered = k.ordered;
        bounded = k.bounded;
        counted = omega arith;
        differ = λ t. let x = total_append (λ (u : V). has t u.role) s.views (w ∷ []) in let z = k.differ t in omega arith;
        home = subst (λ n. Home stands rules s.homes k.calls n) same_turns k.home;
        rising = k.rising;
        room = k.room;
        each = λ j u d. ⊎_elim (λ q. k.each j u q)
            (λ (q : w ≡ u). subst (F most k.ticket k.serving (Log k.calls)) q
            (record { knows = tt; begins = e.begins; met = begins_none (Log k.calls); within = tt; same_most = λ _. e.same_most (λ q. absurd (let r : Idle ≡ Spent = sym idle ∙ q in cc)); empty = λ (q : Idle ≡ Spent). absurd cc }))
            (at_snoc s.views w u j d);
        once = λ t. let x = total_append (λ (u : V). times t u.own) s.views (w ∷ []) in let z = k.once t in omega arith;
      })

  -- both histories begin the journal, so the longer one has all own calls
  joins_fit : (most ticket serving : ℕ) (log : List (Entry C R)) (v u : V) (b : Bool) → leb (length u.seen) (length v.seen) ≡ b → v.role ≡ Idle → F most ticket serving log v → F most ticket serving log u
      → F most ticket serving log (record { role = v.role; most = v.most; last = v.last; seen = cond b v.seen u.seen; own = v.own ++ u.own; met = cond b u.seen v.seen })
  joins_fit most ticket serving log v u true is idle f g =
      let le : length u.seen ≤ length v.seen = leb-true _ _ is in
      let b = begins_shorter u.seen v.seen log g.begins f.begins le in
      record { knows = subst (λ r. Knows stands rules ticket serving log r v.seen) (sym idle) tt; begins = f.begins; met = g.begins; within = within_append v.own u.own v.seen f.within (within_more u.own u.seen v.seen b g.within); same_most = f.same_most; empty = λ q. absurd (let r : Idle ≡ Spent = sym idle ∙ q in cc) }
  joins_fit most ticket serving log v u false is idle f g =
      let le : length v.seen ≤ length u.seen = omega (arith, leb-false _ _ is) in
      let b = begins_shorter v.seen u.seen log f.begins g.begins le in
      record { knows = subst (λ r. Knows stands rules ticket serving log r u.seen) (sym idle) tt; begins = g.begins; met = f.begins; within = within_append v.own u.own u.seen (within_more v.own v.seen u.seen b f.within) g.within; same_most = f.same_most; empty = λ q. absurd (let r : Idle ≡ Spent = sym idle ∙ q in cc) }

  pub joins : (most id : ℕ) (v : V) (other : ℕ) (u : V) → v.role ≡ Idle → u.role ≡ Idle → Joins (K most) id v other u (joined v u) spent
  joins most id v other u idle rests s k at apart there =
      let w = joined v u in
      let views' = set s.views id w in
      let was : get_elem? s.views other ≡ some u = ⊎_elim (λ (t : (other ≡ id) × (w ≡ u)). absurd (apart t.0)) (λ (t : (other ≢ id) × (get_elem? s.views other ≡ some u)). t.1) (at_set s.views id other w u there) in
      let a1 = total_set (λ (x : V). has_any x.role) s.views id v w at in
      let a2 = total_set (λ (x : V). has_any x.role) views' other u spent there in
      let ua : has_any u.role ≡ 0 = ap has_any rests in
      let t1 = total_set (λ (x : V). has_turn x.role) s.views id v w at in
      let t2 = total_set (λ (x : V). has_turn x.role) views' other u spent there in
      let ut : has_turn u.role ≡ 0 = ap has_turn rests in
      let c : total (λ (x : V). has_any x.role) s.views + k.serving ≡ k.ticket = k.counted in
      let same_turns : total (λ (x : V). has_turn x.role) s.views ≡ total (λ (x : V). has_turn x.role) (set views' other spent) = omega arith in record {
        ticket = k.ticket;
        serving = k.serving;
        calls = k.calls;
        words_are = k.words_are;
        ordered = k.ordered;
        bounded = k.bounded;
        counted = omega arith;
        differ = λ t.
            let x1 = total_set (λ (x : V). has t x.role) s.views id v w at in
            let x2 = total_set (λ (x : V). has t x.role) views' other u spent there in
            let z = k.differ t in
            omega arith;
        home = subst (λ n. Home stands rules s.homes k.calls n) same_turns k.home;
        rising = k.rising;
        room = k.room;
        each = each_set (F most k.ticket k.serving (Log k.calls)) views' other spent
            (record { knows = tt; begins = begins_none (Log k.calls); met = begins_none (Log k.calls); within = tt; same_most = λ ne. absurd (ne refl); empty = λ _. (refl, refl) })
            (λ j x _ d. each_set (F most k.ticket k.serving (Log k.calls)) s.views id w (joins_fit most k.ticket k.serving (Log k.calls) v u (leb (length u.seen) (length v.seen)) refl idle (k.each id v at) (k.each other u was)) (λ i y _ d'. k.each i y d') j x d);
        once = λ t.
            let x1 = total_set (λ (x : V). times t x.own) s.views id v w at in
            let x2 = total_set (λ (x : V). times t x.own) views' other u spent there in
            let p = times_append t v.own u.own in
            let z = k.once t in
            omega arith;
      }

  pub compares : (most slots id : ℕ) (v : V) (cs : List (ℕ × H)) → Allows (K most) slots id (v, cs) 0 (λ r. r) (compared stands rules (step slots 0 0 0 none) (v, cs))
  compares most slots id v cs s k len at lt =
      let L : ℕ → Me H V → Type 0 = compared stands rules (step slots 0 0 0 none) (v, cs) in
      let G : List ℕ → Type 0 = λ ws. (w : V) × (a : Act H) × Valid s.homes cs a × K most record { words = set ws 0 (slice_index ws 0); homes = homes_after s.homes cs a; views = set s.views id w } × L (slice_index ws 0) (w, carried_after cs a) in
      let e = k.each id v at in
      subst G (sym k.words_are) (v, keeps, tt, stays most s k id v at, (refl, begins_shorter v.met v.seen (Log k.calls) e.met e.begins, record { within = e.within; once = λ t. let x = total_one (λ (u : V). times t u.own) s.views id v at in let z = k.once t in omega arith }))

  pub starts : (most : ℕ) (y : Held M C) → stands y.value.machine rules.first → y.value.journal.items ≡ [] → K most (opening (0 ∷ 0 ∷ []) (Some y ∷ []) (newcomer most []))
  starts most y stands_first empty =
      let log : Log y.value.journal.items ≡ [] = ap Log empty in record {
        ticket = 0;
        serving = 0;
        calls = [];
        words_are = refl;
        ordered = omega arith;
        bounded = omega arith;
        counted = refl;
        differ = λ t. omega arith;
        home = inl (y, refl, empty, subst (λ l. stands y.value.machine (state_of rules l)) (sym empty) stands_first, refl);
        rising = omega arith;
        room = omega arith;
        each = one;
        once = λ t. omega arith;
      }
    where
      one : (j : ℕ) (v : V) → get_elem? (newcomer most [] ∷ []) j ≡ some v → F most 0 0 [] v
      one zero v e = subst (F most 0 0 []) (some-injective _ _ e) (record { knows = tt; begins = ([], refl); met = ([], refl); within = tt; same_most = λ _. refl; empty = λ (q : Idle ≡ Spent). absurd cc })
      one (suc j) v e = absurd (some-ne-none v (sym e))
