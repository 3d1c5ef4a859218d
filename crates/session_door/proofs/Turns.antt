-- The packets so far, turn after turn.
use Rattle.std.proofs.Common.{◌≡◌, ℕ, ◌+◌, ◌≤◌, ◌<◌, true, List, [], ◌++◌, refl, sym, ap, ◌∙◌, subst, arith, inl, inr}
use Rattle.proxy_outside.specs.Reading.{Origin}
use Rattle.proxy_outside.specs.Writing.{Target}
use Rattle.startup_route.specs.Entrances.{entrance, is_need, wanted, step_between}
use Rattle.startup_route.specs.Doors.{goes_on, said_by}
use Rattle.startup_route.specs.declared.step.DoorStep.{DoorStep}
use Rattle.startup_route.specs.declared.step.DoorStep.TheVariants as step
use Rattle.startup_route.proofs.EntranceLemmas.{wanted_needed}
use Rattle.session_door.specs.declared.door.DoorCut.{DoorCut}
use Rattle.session_door.specs.declared.door.DoorCut.TheVariants.{ReadFault, WriteFault, Ended, Late, NoMemory}
use Rattle.session_door.specs.declared.door.Entry.{Entry}
use Rattle.session_door.specs.declared.door.Entry.TheVariants.{Session, Cancel, Refused, Cut}
use Rattle.session_door.specs.declared.door.Turn.{Turn}
use Rattle.session_door.specs.declared.door.Turn.TheVariants.{On, Over}
use Rattle.session_door.specs.Entering.{Hears, Breaks, Answers, Feeds, Turned, IsLeast, Says, Came, Enters}
use Rattle.session_door.proofs.Reading.{hears_none, hears_more, says_none, says_more, says_not, rose_from, why_from}
use Rattle.session_door.proofs.Entrances.{opens_with, says_nothing, Next, next_step, least_none, least_more}

-- more is wanted behind these packets
pub record So (patience : ℕ) (first now : Origin) (k l : Target) (fed : List ℕ) (waits : ℕ) : Type 0 where
  pub heard : Hears 0 waits first now fed
  pub said : Says (entrance fed).says k l
  pub need : is_need (entrance fed).step ≡ true
  pub least : IsLeast fed
  pub patient : waits < patience

pub so_none : (patience : ℕ) (s : Origin) (k : Target) (fed : List ℕ) → fed ≡ [] → 1 ≤ patience → So patience s s k k fed 0
so_none patience s k fed e h = subst (λ (v : List ℕ). So patience s s k k v 0) (sym e) (record {
  heard = hears_none 0 s;
  said = subst (λ (n : ℕ). Says n k k) (sym says_nothing) (says_none k);
  need = ap is_need opens_with;
  least = least_none;
  patient = omega (arith, h);
})

pub so_wants : (patience : ℕ) (first now : Origin) (k l : Target) (fed : List ℕ) (waits : ℕ) → So patience first now k l fed waits → 0 < wanted fed
so_wants patience first now k l fed waits so = (wanted_needed fed [] so.need).0

-- ---- it goes on

pub record WentOn (s : DoorStep) (w after : ℕ) (k l : Target) : Type 0 where
  pub same : w ≡ after
  pub says : Says (said_by s) k l
  pub goes : goes_on s ≡ true

silent : (k l : Target) → l ≡ k → Says 0 k l
silent k l e = subst (λ (x : Target). Says 0 k x) (sym e) (says_none k)

on_step : (s : DoorStep) (w after : ℕ) (k l : Target) → Answers after k l s (On w) → WentOn s w after k l
on_step step.Need w after k l h = record { same = cc; says = silent k l h.1; goes = refl }
on_step step.Say w after k l (inl h) = record { same = cc; says = h.1; goes = refl }
on_step step.Say w after k l (inr h) = absurd cc
on_step (step.Ready r) w after k l h = absurd cc
on_step (step.Cancel key) w after k l h = absurd cc
on_step (step.Refused f) w after k l h = absurd cc

-- what a piece adds, whatever is answered
pub record Fed (patience : ℕ) (first now : Origin) (k l : Target) (fed : List ℕ) (p : List ℕ) (s : DoorStep) (waits : ℕ) : Type 0 where
  pub heard : Hears 0 waits first now (fed ++ p)
  pub least : IsLeast (fed ++ p)
  pub next : Next fed p s

pub fed_more : (patience before : ℕ) (first old new : Origin) (k0 k l : Target) (fed fed' : List ℕ) (t : Turn) → So patience first old k0 k fed before → (f : Feeds before patience fed fed' old new k l t)
    → Fed patience first new k l fed f.piece (step_between (entrance fed) (entrance (fed ++ f.piece))) f.after
fed_more patience before first old new k0 k l fed fed' t so f = record {
  heard = hears_more 0 before f.after first old new fed f.piece so.heard f.heard;
  least = least_more fed f.piece so.need f.within so.least;
  next = next_step fed f.piece f.some f.within;
}

answers_at : (fed fed' p : List ℕ) (after : ℕ) (k l : Target) (t : Turn) → fed' ≡ fed ++ p → Answers after k l (step_between (entrance fed) (entrance fed')) t → Answers after k l (step_between (entrance fed) (entrance (fed ++ p))) t
answers_at fed fed' p after k l t e h = subst (λ (v : List ℕ). Answers after k l (step_between (entrance fed) (entrance v)) t) e h

fed_on : (patience before w : ℕ) (first old new : Origin) (k0 k l : Target) (fed fed' : List ℕ) → So patience first old k0 k fed before → Feeds before patience fed fed' old new k l (On w) → So patience first new k0 l fed' w
fed_on patience before w first old new k0 k l fed fed' so f =
    let s : DoorStep = step_between (entrance fed) (entrance (fed ++ f.piece)) in
    let m = fed_more patience before first old new k0 k l fed fed' (On w) so f in
    let o = on_step s w f.after k l (answers_at fed fed' f.piece f.after k l (On w) f.fed_is f.answered) in
    subst (λ (v : List ℕ). So patience first new k0 l v w) (sym f.fed_is)
    (subst (λ (n : ℕ). So patience first new k0 l (fed ++ f.piece) n) (sym o.same) (record {
      heard = m.heard;
      said = subst (λ (n : ℕ). Says n k0 l) (sym m.next.says) (says_more (entrance fed).says (said_by s) k0 k l so.said o.says);
      need = m.next.need ∙ o.goes;
      least = m.least;
      patient = f.patient;
    }))

pub so_more : (patience before w : ℕ) (first old new : Origin) (k0 k l : Target) (fed fed' : List ℕ) → So patience first old k0 k fed before → Turned before patience fed fed' old new k l (On w) → So patience first new k0 l fed' w
so_more patience before w first old new k0 k l fed fed' so (inl f) = fed_on patience before w first old new k0 k l fed fed' so f
so_more patience before w first old new k0 k l fed fed' so (inr s) = absurd (let e = s.is in cc)

-- ---- it is over

-- what was said up to a step that says nothing
said_by_none : (s : DoorStep) (n m : ℕ) (k0 k l : Target) → m ≡ n + said_by s → said_by s ≡ 0 → Says n k0 k → l ≡ k → Says m k0 l
said_by_none s n m k0 k l e none says same =
    let is : n ≡ m = omega (arith, e, none) in
    subst (λ (x : Target). Says m k0 x) (sym same) (subst (λ (x : ℕ). Says x k0 k) is says)

came_as : (entry entry' : Entry) (fed : List ℕ) (after patience : ℕ) (old new : Origin) (k l : Target) → Over entry ≡ Over entry' → Came entry' fed after patience old new k l → Came entry fed after patience old new k l
came_as entry entry' fed after patience old new k l e h = let is : entry ≡ entry' = cc in subst (λ (x : Entry). Came x fed after patience old new k l) (sym is) h

over_step : (patience before : ℕ) (first old new : Origin) (k0 k l : Target) (fed p : List ℕ) (entry : Entry) (s : DoorStep) (after : ℕ) → So patience first old k0 k fed before → Fed patience first new k l fed p s after
    → after < patience → Answers after k l s (Over entry) → Came entry (fed ++ p) after patience first new k0 l
over_step patience before first old new k0 k l fed p entry step.Need after so m lt h = absurd (let e = h.0 in cc)
over_step patience before first old new k0 k l fed p entry step.Say after so m lt (inl h) = absurd (let e = h.0 in cc)
over_step patience before first old new k0 k l fed p entry step.Say after so m lt (inr h) =
    came_as entry (Cut WriteFault) (fed ++ p) after patience first new k0 l h.0 (
      m.heard,
      record {
        said = (entrance fed).says;
        one_less = m.next.says;
        wrote = let n : (entrance fed).says + 0 ≡ (entrance fed).says = omega arith in subst (λ (x : ℕ). Says x k0 l) n (says_more (entrance fed).says 0 k0 k l so.said (says_not k l h.1));
        rose = rose_from k0.faults k.faults l.faults so.said.faults h.1.rose;
      },
    )
over_step patience before first old new k0 k l fed p entry (step.Ready r) after so m lt h =
    came_as entry (Session r after) (fed ++ p) after patience first new k0 l h.0
    (m.next.known refl, m.heard, lt, said_by_none (step.Ready r) (entrance fed).says (entrance (fed ++ p)).says k0 k l m.next.says refl so.said h.1)
over_step patience before first old new k0 k l fed p entry (step.Cancel key) after so m lt h =
    came_as entry (Cancel key) (fed ++ p) after patience first new k0 l h.0
    (m.next.known refl, m.heard, lt, said_by_none (step.Cancel key) (entrance fed).says (entrance (fed ++ p)).says k0 k l m.next.says refl so.said h.1)
over_step patience before first old new k0 k l fed p entry (step.Refused f) after so m lt h =
    came_as entry (Refused f) (fed ++ p) after patience first new k0 l h.0
    (m.next.known refl, m.heard, lt, said_by_none (step.Refused f) (entrance fed).says (entrance (fed ++ p)).says k0 k l m.next.says refl so.said h.1)

fed_over : (patience before : ℕ) (first old new : Origin) (k0 k l : Target) (fed fed' : List ℕ) (entry : Entry) → So patience first old k0 k fed before → Feeds before patience fed fed' old new k l (Over entry) → Enters patience first new k0 l entry
fed_over patience before first old new k0 k l fed fed' entry so f =
    let s : DoorStep = step_between (entrance fed) (entrance (fed ++ f.piece)) in
    let m = fed_more patience before first old new k0 k l fed fed' (Over entry) so f in
    record {
      fed = fed ++ f.piece;
      least = m.least;
      after = f.after;
      came = over_step patience before first old new k0 k l fed f.piece entry s f.after so m f.patient (answers_at fed fed' f.piece f.after k l (Over entry) f.fed_is f.answered);
    }

cut_came : (c : DoorCut) (patience before : ℕ) (first old new : Origin) (k0 k : Target) (fed : List ℕ) → So patience first old k0 k fed before → (b : Breaks c before patience old new) → Came (Cut c) fed b.after patience first new k0 k
cut_came ReadFault patience before first old new k0 k fed so b =
    (so.need, (b.part, hears_more 0 before b.after first old new fed b.part so.heard b.heard), why_from ReadFault b.after patience first old new so.heard.read.faults b.why, so.said)
cut_came WriteFault patience before first old new k0 k fed so b = absurd b.why
cut_came Ended patience before first old new k0 k fed so b =
    (so.need, (b.part, hears_more 0 before b.after first old new fed b.part so.heard b.heard), why_from Ended b.after patience first old new so.heard.read.faults b.why, so.said)
cut_came (Late n) patience before first old new k0 k fed so b =
    (so.need, (b.part, hears_more 0 before b.after first old new fed b.part so.heard b.heard), why_from (Late n) b.after patience first old new so.heard.read.faults b.why, so.said)
cut_came NoMemory patience before first old new k0 k fed so b =
    (so.need, (b.part, hears_more 0 before b.after first old new fed b.part so.heard b.heard), why_from NoMemory b.after patience first old new so.heard.read.faults b.why, so.said)

pub so_over : (patience before : ℕ) (first old new : Origin) (k0 k l : Target) (fed fed' : List ℕ) (entry : Entry) → So patience first old k0 k fed before → Turned before patience fed fed' old new k l (Over entry) → Enters patience first new k0 l entry
so_over patience before first old new k0 k l fed fed' entry so (inl f) = fed_over patience before first old new k0 k l fed fed' entry so f
so_over patience before first old new k0 k l fed fed' entry so (inr s) = record {
  fed = fed;
  least = so.least;
  after = s.breaks.after;
  came = came_as entry (Cut s.cut) fed s.breaks.after patience first new k0 l s.is
      (subst (λ (x : Target). Came (Cut s.cut) fed s.breaks.after patience first new k0 x) (sym s.silent) (cut_came s.cut patience before first old new k0 k fed so s.breaks));
}
