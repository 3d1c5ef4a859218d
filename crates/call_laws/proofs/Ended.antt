-- What is held at a session's end, and what was forwarded at a farewell.
use Rattle.std.proofs.Common.{◌≡◌, ◌≢◌, ◌⊎◌, ℕ, true, List, [], ◌∷◌, ◌++◌, Some, inl, inr, refl, sym, ap, subst, ◌∙◌, append_assoc, append-nil}
use Rattle.pgw_frames.specs.Frames.{frames, render}
use Rattle.pgw_messages.specs.declared.params.Pair.{Pair}
use Rattle.pgw_frames.proofs.Fronts.{frames_nil}
use Rattle.pgw_frames.specs.declared.frame.Frame.{Frame}
use Rattle.proxy_outside.specs.Reading.{Origin, Rose}
use Rattle.proxy_outside.specs.Writing.{Target}
use Rattle.session_legs.specs.Laws.{never}
use Rattle.session_legs.specs.Legs.{Hands, Flow, Turns}
use Rattle.session_legs.specs.declared.side.LegEnd.{LegEnd}
use Rattle.session_legs.specs.declared.side.LegEnd.TheVariants.{Parked, Over, Terminated, Ended, Cut, Bad, ReadFault, WriteFault, NoMemory}
use Rattle.session_trace.specs.Calls.{Call}
use Rattle.session_trace.specs.Calls as call
use Rattle.session_trace.specs.Forwarded.{EndsInTerminate}
use Rattle.session_trace.specs.Openings.{IsWhole}
use Rattle.session_trace.specs.Relayed.{IsHeld}
use Rattle.session_trace.proofs.Bytes.{render_append}
use Rattle.session_trace.proofs.Lists.{good_append}
use Rattle.session_round.specs.Ending.{Because, LeavesShort}
use Rattle.session_round.specs.Standing.{IsShort}
use Rattle.session_rounds.specs.Turns.{IsOwnEnd}
use Rattle.proxy_session.specs.Why.{by_response, by_legs, by_finish}
use Rattle.session_course.specs.Course.{request_of, response_of, RanTo}
use Rattle.session_course.specs.Standing.{Course}
use Rattle.session_course.specs.declared.course.Finish.{Finish}
use Rattle.session_course.specs.declared.course.Finish.TheVariants.{Legs, Exchange}
use Rattle.call_laws.specs.Served.{why_of, is_bye}
use Rattle.call_laws.proofs.Reasons.{pod_end, no_pod_end, bye_by}

-- ---- what is held

short_held : (c : Call) (out : List ℕ) → IsShort out → (c.why.pod_ended ≡ true → frames out ≡ []) → IsHeld c out
short_held c out s none = record { early = s.early; late = s.late; parts = s.parts; few = s.few; none_early = s.none_early; none_at_end = none }

-- no side of the pod's ends with a Terminate
pub no_terminate : (why : LegEnd) (old new : Hands) (m : Flow) → Turns never (Some why) old new m → why ≢ Terminated
no_terminate why old new m t = λ e. let last = (subst (λ (w : LegEnd). Turns never (Some w) old new m) e t).2.is_last in absurd (cc)

abbrev pub Held : Call → List ℕ → Type 0
Held c out = ((c.client_faults ≡ true) ⊎ (c.why.no_memory ≡ true)) ⊎ IsHeld c out

module _ (c : Call) (old new : Origin) (k l : Target) (out : List ℕ) (faulted : Rose k.faults l.faults → c.client_faults ≡ true) where
  by_pod : (w w' : LegEnd) → c.why ≡ why_of (by_legs w w') → LeavesShort w' out → Because w' old new k l out → IsOwnEnd w w' → w' ≢ Terminated → Held c out
  by_pod w Parked is s b own never_last = inr (short_held c out s (λ e. absurd (own (pod_end w (by_response Parked) (sym (ap (λ (y : call.Why). y.pod_ended) is) ∙ e)) tt)))
  by_pod w Over is s b own never_last = inr (short_held c out s (λ e. absurd (own (pod_end w (by_response Over) (sym (ap (λ (y : call.Why). y.pod_ended) is) ∙ e)) tt)))
  by_pod w Terminated is s b own never_last = absurd (never_last refl)
  by_pod w Ended is s b own never_last = inr (short_held c out s (λ e. ap frames b.1 ∙ frames_nil))
  by_pod w Cut is s b own never_last = inr (short_held c out s (λ e. b.2))
  by_pod w (Bad n) is s b own never_last = inr (short_held c out s (λ e. b.0))
  by_pod w ReadFault is s b own never_last =
      inr (short_held c out s (λ e. let never_so = no_pod_end w (by_response ReadFault) refl in let so = sym (ap (λ (y : call.Why). y.pod_ended) is) ∙ e in absurd (cc)))
  by_pod w WriteFault is s b own never_last = inl (inl (faulted b))
  by_pod w NoMemory is s b own never_last = inl (inr (ap (λ (y : call.Why). y.no_memory) is))

  pub held_by : (p : List Pair) (patience : ℕ) (before behind : Course) (f : Finish) → c.why ≡ why_of (by_finish f) → RanTo p patience before behind f → LeavesShort (response_of f) out → Because (response_of f) old new k l out → Held c out
  held_by p patience before behind (Legs w w') is ran s b = by_pod w w' is s b ran.own (no_terminate w' _ _ ran.runs.response.flow ran.runs.response.turns)
  held_by p patience before behind (Exchange x) is ran s b = inr (short_held c out s (λ e. let so = sym (ap (λ (y : call.Why). y.pod_ended) is) ∙ e in absurd (cc)))

-- ---- a farewell

behind_login : (asked all : List ℕ) → IsWhole asked → EndsInTerminate all → EndsInTerminate (asked ++ all)
behind_login asked all w t = (
  record {
    fs = w.fs ++ t.0.fs;
    good = good_append w.fs t.0.fs w.good t.0.good;
    bytes = ap (λ (v : List ℕ). v ++ all) w.bytes ∙ ap (λ (v : List ℕ). render w.fs ++ v) t.0.bytes ∙ sym (render_append w.fs t.0.fs);
  },
  w.fs ++ t.1,
  t.2,
  ap (λ (v : List Frame). w.fs ++ v) t.3 ∙ sym (append_assoc w.fs t.1 (t.2 ∷ [])),
  t.4,
)

nothing_left : (asked all in_ : List ℕ) → in_ ≡ [] → asked ++ all ≡ asked ++ (all ++ in_)
nothing_left asked all in_ none = ap (λ (v : List ℕ). asked ++ v) (sym (append-nil all) ∙ ap (λ (v : List ℕ). all ++ v) (sym none))

-- a Terminate was sent on last, or all that was taken
pub bye_of : (f : Finish) (old new : Origin) (k l : Target) (asked all in_ : List ℕ) → is_bye (by_finish f) ≡ true → IsWhole asked → (request_of f ≡ Terminated → EndsInTerminate all) → Because (request_of f) old new k l in_
    → (asked ++ all ≡ asked ++ (all ++ in_)) ⊎ EndsInTerminate (asked ++ all)
bye_of (Legs w w') old new k l asked all in_ e whole bye b = elim (bye_by w w' e) [
  | inl last ↦ inr (behind_login asked all whole (bye last))
  | inr end ↦ inl (nothing_left asked all in_ (subst (λ (v : LegEnd). Because v old new k l in_) end b).1)
]
bye_of (Exchange x) old new k l asked all in_ e whole bye b = absurd (cc)
