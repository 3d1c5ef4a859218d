-- Telling a session a message.
use Rattle.std.specs.Prelude.{◌≡◌, ℕ, List, [], ◌∷◌, ◌++◌, Option, Some, None, Result, Ok, Err}
use Rattle.std.specs.List.{AllByRecursion}
use Rattle.proxy_outside.specs.Reading.{Rose}
use Rattle.proxy_outside.specs.Writing.{Target}
use Rattle.proxy_outside.specs.Rules.{Rules}
use Rattle.link_io.specs.Writing.{Wrote}
use Rattle.pgw_frames.specs.declared.frame.Frame.{Frame}
use Rattle.pgw_frames.specs.Frames.{Begins, IsGood, render}
use Rattle.session_model.specs.Kind.{Kind, Answers}
use Rattle.pod_conn.specs.declared.end.PodEnd.{PodEnd}
use Rattle.pod_conn.specs.declared.end.PodEnd.TheVariants.{Closed, ClientCut, BadFrame, BadStartup, AuthRefused, ReadFault, WriteFault, JournalFull, NoMemory}
use Rattle.pod_conn.specs.Courses.{Starved, Course, answers_in, behind, stands}
use Rattle.pod_conn.specs.Sessions.{answered}
use Rattle.pod_conn.specs.Ports.{Port}
use Rattle.pod_conn.specs.Serving.{Asked, Sight, Follow, Leads, Ends}

-- all was written, or a front of it and the sink failed
abbrev pub WritesOut : Result (Unit {0}) PodEnd → Target → Target → List ℕ → Type 0
WritesOut (Ok u) k l bytes = Wrote k l bytes
WritesOut (Err WriteFault) k l bytes = ((some : List ℕ) × Begins some bytes × Wrote k l some) × Rose k.faults l.faults
WritesOut (Err Closed) k l bytes = ⊥
WritesOut (Err ClientCut) k l bytes = ⊥
WritesOut (Err (BadFrame n)) k l bytes = ⊥
WritesOut (Err BadStartup) k l bytes = ⊥
WritesOut (Err AuthRefused) k l bytes = ⊥
WritesOut (Err ReadFault) k l bytes = ⊥
WritesOut (Err (JournalFull n)) k l bytes = ⊥
WritesOut (Err NoMemory) k l bytes = ⊥

module _ {C R : Type 0} where
  -- what the port was asked where this was to be asked
  abbrev pub asked_for : Option C → Option R → List (C × R)
  asked_for (Some c) (Some a) = (c, a) ∷ []
  asked_for (Some c) None = []
  asked_for None a = []

module _ {T C R : Type 0} (rules : Rules T C R) where
  -- the port answered, or refused
  abbrev pub AnswersBy : Result (Option R) PodEnd → Option C → Port C R → Port C R → Type 0
  AnswersBy (Ok a) o old new = Asked old new (asked_for o a) × Answers rules o a
  AnswersBy (Err (JournalFull n)) o old new = Asked old new [] × Rose old.refusals new.refusals × (n ≡ old.desk.most) × ((c : C) × (o ≡ Some c))
  AnswersBy (Err NoMemory) o old new = Asked old new []
  AnswersBy (Err Closed) o old new = ⊥
  AnswersBy (Err ClientCut) o old new = ⊥
  AnswersBy (Err (BadFrame n)) o old new = ⊥
  AnswersBy (Err BadStartup) o old new = ⊥
  AnswersBy (Err AuthRefused) o old new = ⊥
  AnswersBy (Err ReadFault) o old new = ⊥
  AnswersBy (Err WriteFault) o old new = ⊥

module _ {S C R : Type 0} (k : Kind S C R) where
  abbrev pub Next : Type 0
  Next = S → List R → Course C R

  -- it replied these messages
  pub record Replies (s s' : S) (f : Frame) (fs : List Frame) (old new : Port C R) : Type 0 where
    pub asks : List (C × R)
    pub asked : Asked old new asks
    pub good : AllByRecursion IsGood fs
    pub goes : (rs : List R) (next : Next) → answered k s f (k.asks s f) (answers_in asks ++ rs) next ≡ behind (render fs) asks (next s' rs)

  -- there was no memory
  pub record Lacks (s : S) (f : Frame) (old new : Port C R) : Type 0 where
    pub asks : List (C × R)
    pub asked : Asked old new asks
    pub asks_are : (next : Next) → ((t : S) → (next t []).asked ≡ []) → (answered k s f (k.asks s f) (answers_in asks) next).asked ≡ asks

  -- the store was asked and refused
  pub record Starves (n : ℕ) (s : S) (f : Frame) (old new : Port C R) : Type 0 where
    pub asked : Asked old new []
    pub rose : Rose old.refusals new.refusals
    pub limit : n ≡ old.desk.most
    pub starved : (next : Next) → answered k s f (k.asks s f) [] next ≡ stands Starved

  abbrev pub HearsOne : Result (List Frame) PodEnd → S → S → Frame → Port C R → Port C R → Type 0
  HearsOne (Ok fs) s s' f old new = Replies s s' f fs old new
  HearsOne (Err (JournalFull n)) s s' f old new = Starves n s f old new
  HearsOne (Err NoMemory) s s' f old new = Lacks s f old new
  HearsOne (Err Closed) s s' f old new = ⊥
  HearsOne (Err ClientCut) s s' f old new = ⊥
  HearsOne (Err (BadFrame n)) s s' f old new = ⊥
  HearsOne (Err BadStartup) s s' f old new = ⊥
  HearsOne (Err AuthRefused) s s' f old new = ⊥
  HearsOne (Err ReadFault) s s' f old new = ⊥
  HearsOne (Err WriteFault) s s' f old new = ⊥

module _ {C R : Type 0} where
  -- it goes on from the one to the other, or ended
  abbrev pub TurnsOn : Result (Unit {0}) PodEnd → Follow C R → Follow C R → List ℕ → List ℕ → Sight C R → Sight C R → Type 0
  TurnsOn (Ok u) f g held held' old new = Leads f g held held' old new
  TurnsOn (Err end) f g held held' old new = Ends f held old new end
