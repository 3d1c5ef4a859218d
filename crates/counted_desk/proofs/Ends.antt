-- What a call and a closing tell, from the state of the table.
use Rattle.std.proofs.Common.{◌≡◌, ℕ, ◌+◌, ◌≤◌, List, [], ◌∷◌, ◌++◌, length, drop, refl, sym, ap, ◌∙◌, subst, ⊎_elim, inl, inr, arith, add-one, append-nil, length-append, Option, Some}
use Rattle.std.specs.Prelude.{Result, Ok, Err, IfOk, IfErr, IfSome}
use mathlib.Core.Option.{some, none, some-injective}
use lib.ListN.{get_elem?}
use Rattle.atomic_table.specs.Table.{Me, Final, Seen}
use Rattle.counted_desk.specs.declared.entry.Entry.{Entry}
use Rattle.counted_desk.specs.declared.logged.Logged.{Logged}
use Rattle.counted_desk.specs.declared.entry.Role.{Role}
use Rattle.counted_desk.specs.declared.entry.Role.TheVariants.{Spent, Idle, Waiting, Turn}
use Rattle.counted_desk.specs.declared.entry.View.{View}
use Rattle.counted_desk.specs.declared.answer.CallFault.{CallFault}
use Rattle.counted_desk.specs.declared.answer.CallFault.TheVariants.{NoMemory, JournalFull}
use Rattle.counted_desk.specs.declared.answer.Receipt.{Receipt}
use Rattle.proxy_outside.specs.Rules.{Rules}
use Rattle.pgw_frames.specs.Frames.{Begins}
use Rattle.counted_desk.specs.History.{entry, call, Call, log_of, state_of, AreReplies, Rises, IsOwnOf, IsLegal, IsLegalBelow}
use Rattle.atomic_table.specs.Seated.{TableId}
use Rattle.counted_desk.specs.Calls.{FaultAt, Adds, AddsNot, Made, Missed}
use Rattle.counted_desk.specs.Seats.{Sight, sight, IsAtRest}
use Rattle.counted_desk.specs.Rule.{total, has_turn, at_turn, after_turn, IsAtEnd, IsWhole, IsDue, Knows, IsKept, Took, Held}
use Rattle.counted_desk.proofs.Totals.{total_zero, rises_weaken, rises_push, times_above, drop_front, history-append, history-length, history-replies}

fault_full : (most n : ℕ) (e : CallFault) → FaultAt most n e → n ≤ most
fault_full most n NoMemory f = omega arith
fault_full most n (JournalFull m) f = let z = f.1 in omega arith

module _ {M C R S : Type 0} (stands : M → S → Type 0) (rules : Rules S C R) where
  abbrev V : Type 0
  V = View C R

  abbrev H : Type 0
  H = Option (Held M C)

  abbrev Log : List (Call C) → List (Entry C R)
  Log = log_of rules

  -- the entry of this call
  abbrev new : Logged M C → ℕ → C → Entry C R
  new y n c = entry n c (rules.reply (state_of rules y.journal.items) c)

  grown : (y y' : Logged M C) (n : ℕ) (c : C) → y'.journal.items ≡ y.journal.items ++ call n c ∷ [] → Log y'.journal.items ≡ Log y.journal.items ++ new y n c ∷ []
  grown y y' n c is = ap Log is ∙ history-append rules rules.first y.journal.items (call n c ∷ [])

  rises_new : (v : V) (y : Logged M C) (n : ℕ) (c : C) → Took stands rules n v y → Rises 0 (Log y.journal.items ++ new y n c ∷ []) (n + 1)
  rises_new v y n c t = rw add-one (rises_push 0 (Log y.journal.items) n (new y n c) t.rising (omega arith))

  rises_old : (v : V) (y : Logged M C) (n : ℕ) → Took stands rules n v y → Rises 0 (Log y.journal.items ++ []) (n + 1)
  rises_old v y n t = subst (λ l. Rises 0 l (n + 1)) (sym (append-nil (Log y.journal.items))) (rises_weaken 0 (Log y.journal.items) n (n + 1) t.rising (omega arith))

  pub due : (most n : ℕ) (v : V) (y y' : Logged M C) (c : C) (res : Result (Receipt R) CallFault) → v.most ≡ most → Took stands rules n v y → IsWhole stands rules y'
      → IfOk res (Adds rules most n c y y') → IfErr res (AddsNot most y y') → (m : ℕ) × (added : List (Entry C R)) × IsDue stands rules m (at_turn v n (Log y.journal.items)) y' added
  due most n v y y' c (Ok r) same t whole d _ =
      let long : length y'.journal.items ≡ length y.journal.items + 1 = ap length d.journal ∙ length-append y.journal.items (call n c ∷ []) in
      let a = d.place in let b = d.room in
      (n, new y n c ∷ [], record { turn = refl; whole = whole; log_is = grown y y' n c d.journal; rising = rises_new v y n c t; room = omega arith; one = inr (new y n c, refl, refl) })
  due most n v y y' c (Err e) same t whole _ d =
      let long : length y'.journal.items ≡ length y.journal.items = ap length d.journal in
      let a = t.room in
      (n, [], record { turn = refl; whole = whole; log_is = ap Log d.journal ∙ sym (append-nil (Log y.journal.items)); rising = rises_old v y n t; room = omega arith; one = inl refl })

  -- what the seat sees after its turn, where the call was added
  made : (z z' : TableId) (most n : ℕ) (v w : V) (y y' : Logged M C) (c : C) (r : Receipt R) → Took stands rules n v y → w ≡ after_turn (at_turn v n (Log y.journal.items)) (Log y'.journal.items) → IsOwnOf w.own w.seen → Adds rules most n c y y' r → Made rules most (sight z v) (sight z' w) c r
  made z z' most n v w y y' c r t is own d =
      let log = Log y.journal.items in
      let e = new y n c in
      let last : w.last ≡ n = ap (λ (u : V). u.last) is in
      let e'' : entry w.last c r.reply ≡ e = ap (λ k. entry k c r.reply) last ∙ ap (entry n c) d.reply in
      let all : Log y'.journal.items ≡ log ++ e ∷ [] = grown y y' n c d.journal in
      let seen_is : w.seen ≡ log ++ e ∷ [] = ap (λ (u : V). u.seen) is ∙ all in
      let own_is : w.own ≡ v.own ++ e ∷ [] = ap (λ (u : V). u.own) is ∙ ap (λ l. v.own ++ l) (ap (drop (length log)) all ∙ drop_front log (e ∷ [])) in
      let long : length log ≡ length y.journal.items = history-length rules rules.first y.journal.items in record {
        between = t.begins.0;
        seen = seen_is ∙ (ap (λ l. l ++ e ∷ []) (sym t.begins.1) ∙ ap (λ (x : Entry C R). (v.seen ++ t.begins.0) ++ x ∷ []) (sym e''));
        place = d.place ∙ (sym long ∙ ap length (sym t.begins.1));
        room = d.room;
        legal = record {
          replies = subst (AreReplies rules rules.first) (sym (ap (λ (u : V). u.seen) is)) (history-replies rules rules.first y'.journal.items);
          rises = subst (λ k. Rises 0 w.seen (k + 1)) (sym last) (subst (λ l. Rises 0 l (n + 1)) (sym seen_is) (rises_new v y n c t));
        };
        own = own_is ∙ ap (λ (x : Entry C R). v.own ++ x ∷ []) (sym e'');
        within = own;
      }

  -- and where it was not
  missed : (z z' : TableId) (most n : ℕ) (v w : V) (y y' : Logged M C) (c : C) (e : CallFault) → Took stands rules n v y → w ≡ after_turn (at_turn v n (Log y.journal.items)) (Log y'.journal.items) → IsOwnOf w.own w.seen → AddsNot most y y' e → Missed rules most (sight z v) (sight z' w) e
  missed z z' most n v w y y' c e t is own d =
      let log = Log y.journal.items in
      let all : Log y'.journal.items ≡ log = ap Log d.journal in
      let seen : w.seen ≡ log = ap (λ (u : V). u.seen) is ∙ all in
      let none_new : drop (length log) (Log y'.journal.items) ≡ [] = ap (drop (length log)) (all ∙ sym (append-nil log)) ∙ drop_front log [] in
      let long : length w.seen ≡ length y.journal.items = ap length seen ∙ history-length rules rules.first y.journal.items in
      let rising : Rises 0 w.seen w.last = subst (λ k. Rises 0 w.seen k) (sym (ap (λ (u : V). u.last) is)) (subst (λ l. Rises 0 l n) (sym seen) t.rising) in record {
        begins = subst (Begins v.seen) (sym seen) t.begins;
        legal = record { replies = subst (AreReplies rules rules.first) (sym seen) (history-replies rules rules.first y.journal.items); rises = rising };
        unused = times_above 0 w.seen w.last rising;
        own = ap (λ (u : V). u.own) is ∙ (ap (λ l. v.own ++ l) none_new ∙ append-nil v.own);
        within = own;
        fault = subst (λ k. FaultAt most k e) (sym long) d.fault;
      }

  pub made_as : (z z' : TableId) (most n : ℕ) (v w : V) (y y' : Logged M C) (c : C) (res : Result (Receipt R) CallFault) (before : Sight C R) (limit : ℕ) → sight z v ≡ before → most ≡ limit → Took stands rules n v y → w ≡ after_turn (at_turn v n (Log y.journal.items)) (Log y'.journal.items) → IsOwnOf w.own w.seen
      → IfOk res (Adds rules most n c y y') → IfOk res (Made rules limit before (sight z' w) c)
  made_as z z' most n v w y y' c (Ok r) before limit sees same t is own d =
      subst (λ (b : Sight C R). Made rules limit b (sight z' w) c r) sees (subst (λ k. Made rules k (sight z v) (sight z' w) c r) same (made z z' most n v w y y' c r t is own d))
  made_as z z' most n v w y y' c (Err e) before limit sees same t is own d = tt

  pub missed_as : (z z' : TableId) (most n : ℕ) (v w : V) (y y' : Logged M C) (c : C) (res : Result (Receipt R) CallFault) (before : Sight C R) (limit : ℕ) → sight z v ≡ before → most ≡ limit → Took stands rules n v y → w ≡ after_turn (at_turn v n (Log y.journal.items)) (Log y'.journal.items) → IsOwnOf w.own w.seen
      → IfErr res (AddsNot most y y') → IfErr res (Missed rules limit before (sight z' w))
  missed_as z z' most n v w y y' c (Ok r) before limit sees same t is own d = tt
  missed_as z z' most n v w y y' c (Err e) before limit sees same t is own d =
      subst (λ (b : Sight C R). Missed rules limit b (sight z' w) e) sees (subst (λ k. Missed rules k (sight z v) (sight z' w) e) same (missed z z' most n v w y y' c e t is own d))

  legal_after : (most n : ℕ) (v : V) (y y' : Logged M C) (c : C) (res : Result (Receipt R) CallFault) → Took stands rules n v y → IfOk res (Adds rules most n c y y') → IfErr res (AddsNot most y y')
      → IsLegal rules (Log y'.journal.items)
  legal_after most n v y y' c (Ok r) t d _ = (n + 1, record { replies = history-replies rules rules.first y'.journal.items; rises = subst (λ l. Rises 0 l (n + 1)) (sym (grown y y' n c d.journal)) (rises_new v y n c t) })
  legal_after most n v y y' c (Err e) t _ d = (n, record { replies = history-replies rules rules.first y'.journal.items; rises = subst (λ l. Rises 0 l n) (sym (ap Log d.journal)) t.rising })

  pub rests : (most n : ℕ) (v : V) (me : Me H V) (y y' : Logged M C) (c : C) (res : Result (Receipt R) CallFault) → Took stands rules n v y
      → me ≡ (after_turn (at_turn v n (Log y.journal.items)) (Log y'.journal.items), []) → IsOwnOf me.0.own me.0.seen
      → IfOk res (Adds rules most n c y y') → IfErr res (AddsNot most y y') → IsAtRest rules me
  rests most n v me y y' c res t is own d f =
      let l = legal_after most n v y y' c res t d f in
      let seen : me.0.seen ≡ Log y'.journal.items = ap (λ (m : Me H V). m.0.seen) is in
      record { idle = ap (λ (m : Me H V). m.0.role) is; free = ap (λ (m : Me H V). m.1) is; legal = subst (IsLegal rules) (sym seen) l; own = own }

  no_turn : (ticket serving : ℕ) (log : List (Entry C R)) (r : Role) (seen : List (Entry C R)) → ticket ≡ serving → Knows stands rules ticket serving log r seen → has_turn r ≡ 0
  no_turn ticket serving log Spent seen e k = refl
  no_turn ticket serving log Idle seen e k = refl
  no_turn ticket serving log (Waiting n) seen e k = refl
  no_turn ticket serving log (Turn n) seen e k = let z = k.1 in absurd (omega arith)

  pub closes : (most id : ℕ) (v : V) (ws : List ℕ) (xs : List H) (a b : ℕ) (h : H) → Final (Seen (IsKept stands rules most) id v) ws xs → get_elem? ws 0 ≡ some a → get_elem? ws 1 ≡ some b → a ≡ b → get_elem? xs 0 ≡ some h
      → (y : Held M C) × (h ≡ Some y) × IsWhole stands rules y.value × Begins v.seen (Log y.value.journal.items) × IsLegalBelow rules b (Log y.value.journal.items) × (length (Log y.value.journal.items) ≤ most)
  closes most id v ws xs a b h f wa wb same at =
      let s = f.0 in
      let k = f.1.0 in
      let words : ws ≡ k.ticket ∷ k.serving ∷ [] = sym f.2 ∙ k.words_are in
      let ta : k.ticket ≡ a = some-injective _ _ (sym (ap (λ l. get_elem? l 0) words) ∙ wa) in
      let sb : k.serving ≡ b = some-injective _ _ (sym (ap (λ l. get_elem? l 1) words) ∙ wb) in
      ⊎_elim
      (λ (z : (y : Held M C) × (s.homes ≡ some (Some y) ∷ []) × (y.value.journal.items ≡ k.calls) × IsWhole stands rules y.value × (total (λ (u : V). has_turn u.role) s.views ≡ 0)).
      let y = z.0 in
      let there = f.4 0 (Some y) (ap (λ hs. get_elem? hs 0) z.1) in
      let log : Log y.value.journal.items ≡ Log k.calls = ap Log z.2 in
      let long : length (Log k.calls) ≡ length k.calls = history-length rules rules.first k.calls in
      let r = k.room in (
        y,
        some-injective _ _ (sym at ∙ there),
        z.3,
        subst (Begins v.seen) (sym log) (k.each id v f.1.1).begins,
        record { replies = history-replies rules rules.first y.value.journal.items; rises = subst (λ l. Rises 0 l b) (sym log) (subst (Rises 0 (Log k.calls)) sb k.rising) },
        subst (λ l. length l ≤ most) (sym log) (omega arith),
      ))
      (λ (z : (s.homes ≡ none ∷ []) × (total (λ (u : V). has_turn u.role) s.views ≡ 1)).
      let none_has : total (λ (u : V). has_turn u.role) s.views ≡ 0 = total_zero (λ (u : V). has_turn u.role) s.views (λ j u d. no_turn k.ticket k.serving (Log k.calls) u.role u.seen (ta ∙ (same ∙ sym sb)) (k.each j u d).knows) in
      let one = z.1 in
      absurd (omega arith))
      k.home

  pub shuts : (key most id : ℕ) (v : V) (ws : List ℕ) (xs : List H) (a b : ℕ) (h : H) → key ≡ most → Final (Seen (IsKept stands rules key) id v) ws xs → get_elem? ws 0 ≡ some a → get_elem? ws 1 ≡ some b → a ≡ b → get_elem? xs 0 ≡ some h
      → IfSome h (λ (y : Held M C). IsAtEnd stands rules v most y.value)
  shuts key most id v ws xs a b h keyed f wa wb same at =
      let k = closes key id v ws xs a b h f wa wb same at in
      let long : length (Log k.0.value.journal.items) ≡ length k.0.value.journal.items = history-length rules rules.first k.0.value.journal.items in
      let less : length k.0.value.journal.items ≤ most = let z = k.5 in omega arith in
      subst (λ (x : H). IfSome x (λ (y : Held M C). IsAtEnd stands rules v most y.value)) (sym k.1) (record { whole = k.2; begins = k.3; legal = (b, k.4); room = less })
