use Rattle.std.proofs.Common.{ℕ, [], sym, ap, subst, ◌∙◌}
use Rattle.std.specs.Prelude.{IfOk, IfErr}
use Rattle.counted_desk.specs.Calls.{Adds, AddsNot}
use Rattle.counted_desk.specs.History.{log_of}
use Rattle.counted_desk.specs.Rule.{IsDue, after_turn}
use Rattle.counted_desk.proofs.Ends.{due, made_as, missed_as, rests}
use Rattle.counted_desk.proofs.desk.Desk.call.Goals as goal

pub leave-requires-clause-due : goal.leave-requires-clause-due
leave-requires-clause-due g c =
    let m = g.M.Machine in
    let e = c.enter-ticket.ensures in
    let a = c.log_call-answer in
    let ok = subst (λ y. IfOk a.result (Adds m.rules c.self.inside.lock.most c.enter-ticket.result.0 c.args.command y a.new.logged)) c.deref_mut.ensures.value a.ensures.ok in
    let err = subst (λ y. IfErr a.result (AddsNot c.self.inside.lock.most y a.new.logged)) c.deref_mut.ensures.value a.ensures.err in
    let same = ap (λ s. s.desk.most) c.seat.view_is ∙ (ap (λ d. d.most) c.requires ∙ sym (ap (λ d. d.most) c.self.view_is)) in
    subst (λ v. (n : ℕ) × (added : _) × IsDue m.stands_for m.rules n v a.new.logged added) (sym (ap (λ w. w.0) e.view))
    (due m.stands_for m.rules c.self.inside.lock.most _ c.seat.inside.lock_seat.me.0 c.enter-ticket.result.1.value a.new.logged c.args.command a.result same e.took a.ensures.whole ok err)

pub invariant_of-seat : goal.invariant_of-seat
invariant_of-seat g c =
    let m = g.M.Machine in
    let e = c.enter-ticket.ensures in
    let a = c.log_call-answer in
    let l = c.leave.ensures in
    let ok = subst (λ y. IfOk a.result (Adds m.rules c.self.inside.lock.most c.enter-ticket.result.0 c.args.command y a.new.logged)) c.deref_mut.ensures.value a.ensures.ok in
    let err = subst (λ y. IfErr a.result (AddsNot c.self.inside.lock.most y a.new.logged)) c.deref_mut.ensures.value a.ensures.err in
    rests m.stands_for m.rules c.self.inside.lock.most _ c.seat.inside.lock_seat.me.0 c.leave.new.seat.me c.enter-ticket.result.1.value a.new.logged c.args.command a.result e.took
    (l.view ∙ ap (λ w. (after_turn w.0 (log_of m.rules a.new.logged.journal.items), [])) e.view) l.own ok err

pub returns-clause-ok : goal.returns-clause-ok
returns-clause-ok g c =
    let m = g.M.Machine in
    let e = c.enter-ticket.ensures in
    let a = c.log_call-answer in
    let l = c.leave.ensures in
    let ok = subst (λ y. IfOk a.result (Adds m.rules c.self.inside.lock.most c.enter-ticket.result.0 c.args.command y a.new.logged)) c.deref_mut.ensures.value a.ensures.ok in
    made_as m.stands_for m.rules _ _ c.self.inside.lock.most _ c.seat.inside.lock_seat.me.0 c.leave.new.seat.me.0 c.enter-ticket.result.1.value a.new.logged c.args.command a.result _ _ c.seat.view_is (ap (λ d. d.most) c.self.view_is) e.took
    (ap (λ w. w.0) l.view ∙ ap (λ w. after_turn w.0 (log_of m.rules a.new.logged.journal.items)) e.view) l.own ok

pub returns-clause-err : goal.returns-clause-err
returns-clause-err g c =
    let m = g.M.Machine in
    let e = c.enter-ticket.ensures in
    let a = c.log_call-answer in
    let l = c.leave.ensures in
    let err = subst (λ y. IfErr a.result (AddsNot c.self.inside.lock.most y a.new.logged)) c.deref_mut.ensures.value a.ensures.err in
    missed_as m.stands_for m.rules _ _ c.self.inside.lock.most _ c.seat.inside.lock_seat.me.0 c.leave.new.seat.me.0 c.enter-ticket.result.1.value a.new.logged c.args.command a.result _ _ c.seat.view_is (ap (λ d. d.most) c.self.view_is) e.took
    (ap (λ w. w.0) l.view ∙ ap (λ w. after_turn w.0 (log_of m.rules a.new.logged.journal.items)) e.view) l.own err
