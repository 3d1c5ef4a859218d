-- A text is read as a schedule in one way.
use Rattle.std.proofs.Common.{◌≡◌, ℕ, suc, ◌≤◌, ◌<◌, ◌^◌, Bool, true, false, List, [], ◌∷◌, ◌++◌, length, take, drop, get_or, Option, Some, None, Result, Ok, Err, eqb, refl, sym, ap, subst, ◌∙◌, arith}
use Rattle.std.specs.Prelude.{codes, if◌then◌else◌}
use Rattle.std.specs.Int.{w64, to_be_bytes, from_be_bytes}
use Rattle.std.proofs.lemmas.Nat.{from_be_bytes-to_be_bytes_8}
use Rattle.std.proofs.lemmas.List.{append_cancel_left}
use Rattle.session_model.specs.declared.transfer.TransferKey.{TransferKey}
use Rattle.session_model.specs.Texts.{key_bytes}
use Rattle.std.specs.Fmt.{decimal}
use Rattle.std.proofs.lemmas.Fmt.{digits_value-decimal}
use Rattle.hex.specs.Hex.{decode_of}
use Rattle.hex.specs.declared.error.FromHexError.{FromHexError}
use Rattle.hex.proofs.HexLemmas.{decode_of-encode_lower}
use Rattle.forwarder_world.specs.declared.event.Event.{Event}
use Rattle.forwarder_world.specs.declared.event.Event.TheVariants.{Give, Eof, Read, Forward, Deliver, Pod, Back, Pass, Other, Stop, Park, Hold, Start, Move, DeliverNew, PodNew, Cut, CutNew, NoDial}
use Rattle.proxy_replay.specs.Numbers.{read_on}
use Rattle.proxy_replay.specs.Lines.{IsTextOf, Spells, SpellsNothing}
use Rattle.proxy_replay.specs.Schedule.{lines_of, SpellEvents, IsSchedule, IsFirstBad}
use Rattle.proxy_replay.proofs.Digits.{own, no_letter}
use Rattle.proxy_replay.proofs.Keys.{key_is_bytes}

-- the bytes of a text that decodes
bytes_in : Result (List ℕ) FromHexError → List ℕ
bytes_in (Ok b) = b
bytes_in (Err e) = []

-- the key of sixteen bytes
key_in : List ℕ → TransferKey
key_in b = record { high = from_be_bytes w64 (take 8 b); low = from_be_bytes w64 (drop 8 b) }

abbrev letter : List ℕ → ℕ → ℕ → Bool
letter text i c = eqb (get_or text i 0) c

-- the event of a text but for another client's, told by the letters of its words
abbrev event_in : (C : Type 0) → List ℕ → Option (Event C)
event_in C text =
    if letter text 0 103 then Some (Give (bytes_in (decode_of (drop 5 text))))
    else if letter text 0 101 then Some Eof
    else if letter text 0 114 then Some (Read (read_on 0 (drop 5 text)))
    else if letter text 0 102 then Some Forward
    else if letter text 0 100 then (if letter text 8 110 then Some (DeliverNew (read_on 0 (drop 12 text))) else Some (Deliver (read_on 0 (drop 8 text))))
    else if letter text 0 112 then (if letter text 2 100 then (if letter text 3 32 then Some PodNew else Some Pod) else if letter text 2 115 then Some Pass else Some Park)
    else if letter text 0 98 then Some (Back (read_on 0 (drop 5 text)))
    else if letter text 0 115 then (if letter text 2 111 then Some Stop else Some (Start (key_in (bytes_in (decode_of (drop 6 text))))))
    else if letter text 0 104 then Some Hold
    else if letter text 0 109 then Some Move
    else if letter text 0 99 then (if letter text 4 110 then Some (CutNew (read_on 0 (drop 8 text))) else Some (Cut (read_on 0 (drop 4 text))))
    else if letter text 0 110 then Some NoDial
    else None

number_in : (n : ℕ) → n ≤ 65535 → read_on 0 (decimal n) ≡ n
number_in n le = digits_value-decimal own n (omega arith)

is_other : {C : Type 0} → Event C → Bool
is_other (Give b) = false
is_other Eof = false
is_other (Read n) = false
is_other Forward = false
is_other (Deliver n) = false
is_other Pod = false
is_other (Back n) = false
is_other Pass = false
is_other (Other command) = true
is_other Stop = false
is_other Park = false
is_other Hold = false
is_other (Start key) = false
is_other Move = false
is_other (DeliverNew n) = false
is_other PodNew = false
is_other (Cut n) = false
is_other (CutNew n) = false
is_other NoDial = false

abbrev shown : {C : Type 0} → Bool → Event C → Option (Event C)
shown b e = if b then None else Some e

key_read : (key : TransferKey) → key.high < 2 ^ 64 → key.low < 2 ^ 64 → key_in (key_bytes key) ≡ key
unfolding key_in
key_read key high low =
    let h : from_be_bytes w64 (to_be_bytes w64 key.high) ≡ key.high = from_be_bytes-to_be_bytes_8 key.high high in
    let l : from_be_bytes w64 (to_be_bytes w64 key.low) ≡ key.low = from_be_bytes-to_be_bytes_8 key.low low in
    rw (h, l) refl

-- a spelling tells its event
tells : {C : Type 0} (says : List ℕ → C → Type 0) (text : List ℕ) (e : Event C) → IsTextOf says text e → event_in C text ≡ shown (is_other e) e
unfolding bytes_in is_other
tells {C} says text (Give b) h = ap (event_in C) h.0 ∙ rw (decode_of-encode_lower b h.1.1) refl
tells {C} says text Eof h = ap (event_in C) h
tells {C} says text (Read n) h = ap (event_in C) h.0 ∙ ap (λ (k : ℕ). Some (Read k)) (number_in n h.1)
tells {C} says text Forward h = ap (event_in C) h
tells {C} says text (Deliver n) h =
    ap (event_in C) h.0
    ∙ ap (λ (b : Bool). if b then Some (DeliverNew (read_on 0 (drop 12 (codes "deliver " ++ decimal n)))) else Some (Deliver (read_on 0 (decimal n)))) (no_letter n h.1)
    ∙ ap (λ (k : ℕ). Some (Deliver k)) (number_in n h.1)
tells {C} says text Pod h = ap (event_in C) h
tells {C} says text (Back n) h = ap (event_in C) h.0 ∙ ap (λ (k : ℕ). Some (Back k)) (number_in n h.1)
tells {C} says text Pass h = ap (event_in C) h
tells {C} says text (Other command) h = ap (event_in C) h.1
tells {C} says text Stop h = ap (event_in C) h
tells {C} says text Park h = ap (event_in C) h
tells {C} says text Hold h = ap (event_in C) h
tells {C} says text (Start key) h = ap (event_in C) h.0 ∙ rw (decode_of-encode_lower (key_bytes key) (key_is_bytes key)) (ap (λ (k : TransferKey). Some (Start k)) (key_read key h.1 h.2))
tells {C} says text Move h = ap (event_in C) h
tells {C} says text (DeliverNew n) h = ap (event_in C) h.0 ∙ ap (λ (k : ℕ). Some (DeliverNew k)) (number_in n h.1)
tells {C} says text PodNew h = ap (event_in C) h
tells {C} says text (Cut n) h =
    ap (event_in C) h.0
    ∙ ap (λ (b : Bool). if b then Some (CutNew (read_on 0 (drop 8 (codes "cut " ++ decimal n)))) else Some (Cut (read_on 0 (decimal n)))) (no_letter n h.1)
    ∙ ap (λ (k : ℕ). Some (Cut k)) (number_in n h.1)
tells {C} says text (CutNew n) h = ap (event_in C) h.0 ∙ ap (λ (k : ℕ). Some (CutNew k)) (number_in n h.1)
tells {C} says text NoDial h = ap (event_in C) h

-- another client's event has its command
other_of : {C : Type 0} (e : Event C) → is_other e ≡ true → (command : C) × (e ≡ Other command)
unfolding is_other
other_of (Other command) h = (command, refl)
other_of (Give b) h = absurd cc
other_of Eof h = absurd cc
other_of (Read n) h = absurd cc
other_of Forward h = absurd cc
other_of (Deliver n) h = absurd cc
other_of Pod h = absurd cc
other_of (Back n) h = absurd cc
other_of Pass h = absurd cc
other_of Stop h = absurd cc
other_of Park h = absurd cc
other_of Hold h = absurd cc
other_of (Start key) h = absurd cc
other_of Move h = absurd cc
other_of (DeliverNew n) h = absurd cc
other_of PodNew h = absurd cc
other_of (Cut n) h = absurd cc
other_of (CutNew n) h = absurd cc
other_of NoDial h = absurd cc

-- a text spells one command at most
abbrev pub SaysOne : {C : Type 0} → (List ℕ → C → Type 0) → Type 0
SaysOne {C} says = (text : List ℕ) (c d : C) → says text c → says text d → c ≡ d

same_shown : {C : Type 0} (b c : Bool) (e f : Event C) → shown b e ≡ shown c f → (b ≡ true → c ≡ true → e ≡ f) → e ≡ f
same_shown true true e f h both = both refl refl
same_shown false false e f h both = cc
same_shown true false e f h both = absurd cc
same_shown false true e f h both = absurd cc

-- a line spells one event at most
pub one_event : {C : Type 0} (says : List ℕ → C → Type 0) → SaysOne says → (line : List ℕ) (e f : Event C) → Spells says line e → Spells says line f → e ≡ f
one_event {C} says one line e f p q = same_shown (is_other e) (is_other f) e f (sym (tells says line e p.text) ∙ tells says line f q.text) both
  where
    both : is_other e ≡ true → is_other f ≡ true → e ≡ f
    both a b =
        let c = other_of e a in
        let d = other_of f b in
        let s : IsTextOf says line (Other c.0) = subst (λ (x : Event C). IsTextOf says line x) c.1 p.text in
        let t : IsTextOf says line (Other d.0) = subst (λ (x : Event C). IsTextOf says line x) d.1 q.text in
        let words : s.0 ≡ t.0 = append_cancel_left (codes "other ") s.0 t.0 (sym s.1 ∙ t.1) in
        c.1 ∙ ap Other (one t.0 c.0 d.0 (subst (λ (w : List ℕ). says w c.0) words s.2) t.2) ∙ sym d.1

same_events : {C : Type 0} (says : List ℕ → C → Type 0) → SaysOne says → (lines : List (List ℕ)) (es fs : List (Event C)) → SpellEvents says lines es → SpellEvents says lines fs → es ≡ fs
same_events says one [] [] [] p q = refl
same_events says one [] [] (f ∷ fs) p q = absurd q
same_events says one [] (e ∷ es) fs p q = absurd p
same_events says one (line ∷ lines) [] fs p q = absurd p
same_events says one (line ∷ lines) (e ∷ es) [] p q = absurd q
same_events says one (line ∷ lines) (e ∷ es) (f ∷ fs) p q =
    let head = one_event says one line e f p.0 q.0 in
    let tail = same_events says one lines es fs p.1 q.1 in
    cc

-- a text is one schedule at most
pub one_schedule : {C : Type 0} (says : List ℕ → C → Type 0) → SaysOne says → (text : List ℕ) (es fs : List (Event C)) → IsSchedule says text es → IsSchedule says text fs → es ≡ fs
one_schedule says one text es fs p q = same_events says one (lines_of text) es fs p q

-- a line in front of which all lines spell events stands where the first bad one stands
same_place : {C : Type 0} (says : List ℕ → C → Type 0) (g h : List (List ℕ)) (x y : List ℕ) (u v : List (List ℕ)) (es fs : List (Event C)) → g ++ x ∷ u ≡ h ++ y ∷ v
    → SpellEvents says g es → SpellEvents says h fs → SpellsNothing says x → SpellsNothing says y → length g ≡ length h
same_place says [] [] x y u v es fs e p q a b = refl
same_place says [] (l ∷ h) x y u v es [] e p q a b = absurd q
same_place says [] (l ∷ h) x y u v es (f ∷ fs) e p q a b =
    let is : l ≡ x = cc in
    absurd (a f (rw is at q.0))
same_place says (l ∷ g) [] x y u v [] fs e p q a b = absurd p
same_place says (l ∷ g) [] x y u v (f ∷ es) fs e p q a b =
    let is : l ≡ y = cc in
    absurd (b f (rw is at p.0))
same_place says (l ∷ g) (m ∷ h) x y u v [] fs e p q a b = absurd p
same_place says (l ∷ g) (m ∷ h) x y u v (k ∷ es) [] e p q a b = absurd q
same_place says (l ∷ g) (m ∷ h) x y u v (k ∷ es) (f ∷ fs) e p q a b =
    let rest : g ++ x ∷ u ≡ h ++ y ∷ v = cc in
    ap suc (same_place says g h x y u v es fs rest p.1 q.1 a b)

pub one_first_bad : {C : Type 0} (says : List ℕ → C → Type 0) (text : List ℕ) (m n : ℕ) → IsFirstBad says text m → IsFirstBad says text n → m ≡ n
one_first_bad says text m n p q =
    let place = same_place says p.good q.good p.bad q.bad p.others q.others p.events q.events (sym p.lines ∙ q.lines) p.spelled q.spelled p.nothing q.nothing in
    omega (arith, place, p.number, q.number)

-- lines that all spell events have no bad one
no_bad : {C : Type 0} (says : List ℕ → C → Type 0) (g : List (List ℕ)) (x : List ℕ) (u : List (List ℕ)) (es : List (Event C)) → SpellEvents says (g ++ x ∷ u) es → SpellsNothing says x → ⊥
no_bad says [] x u [] p a = absurd p
no_bad says [] x u (e ∷ es) p a = a e p.0
no_bad says (l ∷ g) x u [] p a = absurd p
no_bad says (l ∷ g) x u (e ∷ es) p a = no_bad says g x u es p.1 a

pub never_both : {C : Type 0} (says : List ℕ → C → Type 0) (text : List ℕ) (es : List (Event C)) (n : ℕ) → IsSchedule says text es → IsFirstBad says text n → ⊥
never_both says text es n p q = no_bad says q.good q.bad q.others es (rw q.lines at p) q.nothing
