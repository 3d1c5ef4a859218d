-- A schedule that is read line by line.
use Rattle.std.proofs.Common.{◌≡◌, ℕ, ◌+◌, ◌≤◌, Bool, true, false, List, [], ◌∷◌, ◌++◌, length, refl, sym, ap, ◌∙◌, append_assoc, arith}
use Rattle.std.specs.Prelude.{◌==◌, if◌then◌else◌}
use Rattle.std.proofs.lemmas.List.{append-nil, length-append}
use Rattle.forwarder_world.specs.declared.event.Event.{Event}
use Rattle.proxy_replay.specs.Lines.{Spells, SpellsNothing}
use Rattle.proxy_replay.specs.Schedule.{lines_of, with_byte, SpellEvents, IsSchedule, IsFirstBad, IsReadTo}
use Rattle.proxy_replay.proofs.Cuts.{no_lines}

-- before the first line
pub read_none : {C : Type 0} (says : List ℕ → C → Type 0) (text : List ℕ) → IsReadTo says text [] text
read_none says text = record { read = []; lines = refl; events = tt }

one_more : {C : Type 0} (says : List ℕ → C → Type 0) (lines : List (List ℕ)) (es : List (Event C)) (line : List ℕ) (e : Event C) → SpellEvents says lines es → Spells says line e
    → SpellEvents says (lines ++ line ∷ []) (es ++ e ∷ [])
one_more says [] [] line e p q = (q, tt)
one_more says [] (f ∷ es) line e p q = absurd p
one_more says (l ∷ lines) [] line e p q = absurd p
one_more says (l ∷ lines) (f ∷ es) line e p q = (p.0, one_more says lines es line e p.1 q)

-- a line that spells an event
pub read_more : {C : Type 0} (says : List ℕ → C → Type 0) (text : List ℕ) (es : List (Event C)) (left line more : List ℕ) (e : Event C) → IsReadTo says text es left
    → lines_of left ≡ line ∷ lines_of more → Spells says line e → IsReadTo says text (es ++ e ∷ []) more
read_more says text es left line more e p next q = record {
  read = p.read ++ line ∷ [];
  lines = p.lines ∙ ap (λ (ls : List (List ℕ)). p.read ++ ls) next ∙ sym (append_assoc p.read (line ∷ []) (lines_of more));
  events = one_more says p.read es line e p.events q;
}

-- after the last line
pub read_whole : {C : Type 0} (says : List ℕ → C → Type 0) (text : List ℕ) (es : List (Event C)) → IsReadTo says text es [] → IsSchedule says text es
read_whole says text es p = rw (p.lines, no_lines, append-nil p.read) p.events

as_many : {C : Type 0} (says : List ℕ → C → Type 0) (lines : List (List ℕ)) (es : List (Event C)) → SpellEvents says lines es → length lines ≡ length es
as_many says [] [] p = refl
as_many says [] (e ∷ es) p = absurd p
as_many says (l ∷ lines) [] p = absurd p
as_many says (l ∷ lines) (e ∷ es) p = let h = as_many says lines es p.1 in omega (arith, h)

-- a line that spells none
pub read_bad : {C : Type 0} (says : List ℕ → C → Type 0) (text : List ℕ) (es : List (Event C)) (left line more : List ℕ) → IsReadTo says text es left
    → lines_of left ≡ line ∷ lines_of more → SpellsNothing says line → IsFirstBad says text (length es + 1)
read_bad says text es left line more p next q = record {
  good = p.read;
  bad = line;
  others = lines_of more;
  events = es;
  lines = p.lines ∙ ap (λ (ls : List (List ℕ)). p.read ++ ls) next;
  spelled = p.events;
  nothing = q;
  number = (let h = as_many says p.read es p.events in omega (arith, h));
}

few_lines : (text : List ℕ) → length (lines_of text) ≤ length text
unfolding lines_of
few_lines [] = omega arith
few_lines (x ∷ text) = by (x == 10) (lines_of text) (few_lines text)
  where
    by : (b : Bool) (ls : List (List ℕ)) → length ls ≤ length text → length (if b then [] ∷ ls else with_byte x ls) ≤ length (x ∷ text)
    by true ls le = omega arith
    by false [] le = omega arith
    by false (l ∷ ls) le = omega arith

-- no more events than bytes
pub few_events : {C : Type 0} (says : List ℕ → C → Type 0) (text : List ℕ) (es : List (Event C)) (left : List ℕ) → IsReadTo says text es left → length es ≤ length text
few_events says text es left p =
    let many = as_many says p.read es p.events in
    let all : length (lines_of text) ≡ length p.read + length (lines_of left) = ap length p.lines ∙ length-append p.read (lines_of left) in
    omega (arith, few_lines text)
