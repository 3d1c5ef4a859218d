-- A new pod that gives what is accepted.
use Rattle.std.proofs.Common.{◌≡◌, ℕ, List, [], ◌++◌, Option, refl, sym, ap, ◌∙◌, ◌⊎◌, inl, inr, append_assoc, append-nil}
use Rattle.pgw_frames.specs.declared.frame.Frame.{Frame}
use Rattle.pgw_messages.specs.declared.params.Pair.{Pair}
use Rattle.pgw_messages.specs.declared.pod_key.PodKey.{PodKey}
use Rattle.session_model.specs.declared.transfer.TransferKey.{TransferKey}
use Rattle.proxy_outside.specs.Reading.{Origin, Rose}
use Rattle.proxy_outside.specs.Writing.{Target}
use Rattle.transfer_stages.specs.Accepts.{AcceptsNew}
use Rattle.transfer_stages.specs.Exchange.{wants}
use Rattle.transfer_stages.specs.Taking.{Leads}
use Rattle.transfer_stages.specs.declared.stage.Cut.{Cut}
use Rattle.transfer_stages.specs.declared.stage.Cut.TheVariants.{ReadFault, WriteFault, Ended, BadLength, Unexpected, Strayed, Late}
use Rattle.transfer_stages.specs.declared.stage.Outcome.{Outcome}
use Rattle.transfer_stages.specs.declared.stage.Outcome.TheVariants as outcome
use Rattle.transfer_stages.specs.declared.stage.Stage.{Stage}
use Rattle.transfer_stages.specs.declared.stage.Stage.TheVariants as at
use Rattle.transfer_stages.specs.declared.stage.Want.TheVariants.{AwaitNew}
use Rattle.transfer_stages.proofs.NewGreeting as greeting
use Rattle.transfer_stages.proofs.RestoredReply as restored
use Rattle.link_transfer.specs.Hearing.{Breaks}
use Rattle.link_transfer.specs.Meeting.{Phase, NewSo, NewCutAt}
use Rattle.link_transfer.specs.Transfers.{Restored, NewEnded, NewLeaves}
use Rattle.link_transfer.proofs.Reaching.{IsRefusal}
use Rattle.transfer_laws.specs.Accepted.{Gives, Fails, NewPodIsHeard}
use Rattle.transfer_laws.proofs.Refusals.{no_move}
use Rattle.transfer_laws.proofs.Runs.{OneEnd, one_end, not_before}
use Rattle.transfer_laws.proofs.Fronts.{heard_whole, Broke, Failed, Passed, broke, rose_after}

some_same : (a b : Option PodKey) (state : List ℕ) → at.Restore state a ≡ at.Restore state b → a ≡ b
some_same a b state e = cc

moved_left : (o : Outcome) → ¬ (wants (at.Ended o) ≡ AwaitNew)
moved_left o e = cc

restore_left : (state : List ℕ) (key : Option PodKey) → ¬ (wants (at.Restore state key) ≡ AwaitNew)
restore_left state key e = cc

module _ (t : TransferKey) (p : List Pair) (state : List ℕ) (fs : List Frame) (key : Option PodKey) (a : AcceptsNew fs key) where
  greets : Leads AwaitNew t p (at.NewAuth state) a.greeting (at.Restore state key)
  greets = (greeting.accepted t p state a.greeting state key).1 (refl, a.greets)

  restores : (given : Option PodKey) → Leads AwaitNew t p (at.NewColumns given) a.reply (at.Ended (outcome.Moved given))
  restores given = (restored.accepted t p given a.reply given).1 (refl, a.restores)

  parts : (more gs : List Frame) → fs ++ more ≡ gs → a.greeting ++ (a.reply ++ more) ≡ gs
  parts more gs e = sym (append_assoc a.greeting a.reply more) ∙ ap (λ (v : List Frame). v ++ more) (sym a.whole) ∙ e

  -- the greeting is the one that was heard, if that was heard whole
  same_greeting : (heard reply more rest : List Frame) (given : Option PodKey) → Leads AwaitNew t p (at.NewAuth state) heard (at.Restore state given) → fs ++ more ≡ (heard ++ reply) ++ rest
      → OneEnd a.greeting heard (a.reply ++ more) (reply ++ rest) (at.Restore state key) (at.Restore state given)
  same_greeting heard reply more rest given h e =
      one_end AwaitNew t p (at.NewAuth state) a.greeting (at.Restore state key) heard (at.Restore state given) (a.reply ++ more) (reply ++ rest)
      (restore_left state key) (restore_left state given) greets h (parts more (heard ++ (reply ++ rest)) (e ∙ append_assoc heard reply rest))

  -- where the pod is awaited not all was heard
  not_awaited : (token sent : List ℕ) (gs : List Frame) (y : Stage) (more : List Frame) → wants y ≡ AwaitNew → Phase t p state token sent gs y → fs ++ more ≡ gs ++ [] → ⊥
  not_awaited token sent gs y more w (inl s) e = absurd (let k : wants (at.Packet state token) ≡ AwaitNew = sym (ap wants s.stage) ∙ w in cc)
  not_awaited token sent gs y more w (inr (inl s)) e =
      not_before AwaitNew t p (at.NewAuth state) a.greeting (at.Restore state key) gs y (a.reply ++ more) (restore_left state key) w greets s.greets (parts more gs (e ∙ append-nil gs))
  not_awaited token sent gs y more w (inr (inr s)) e =
      let o = same_greeting s.greeting s.reply more [] s.key s.greets (e ∙ ap (λ (v : List Frame). v ++ []) s.whole) in
      not_before AwaitNew t p (at.NewColumns s.key) a.reply (at.Ended (outcome.Moved s.key)) s.reply y more (moved_left (outcome.Moved s.key)) w (restores s.key) s.restores (o.rest ∙ append-nil s.reply)

  -- nothing of it is refused
  not_refused : (token sent : List ℕ) (gs : List Frame) (o : Outcome) (more rest : List Frame) → IsRefusal o → Phase t p state token sent gs (at.Ended o) → fs ++ more ≡ gs ++ rest → ⊥
  not_refused token sent gs o more rest i (inl s) e = absurd (let k = s.stage in cc)
  not_refused token sent gs o more rest i (inr (inl s)) e =
      let k = (one_end AwaitNew t p (at.NewAuth state) a.greeting (at.Restore state key) gs (at.Ended o) (a.reply ++ more) rest (restore_left state key) (moved_left o) greets s.greets (parts more (gs ++ rest) e)).stage in
      absurd cc
  not_refused token sent gs o more rest i (inr (inr s)) e =
      let q = same_greeting s.greeting s.reply more rest s.key s.greets (e ∙ ap (λ (v : List Frame). v ++ rest) s.whole) in
      let k = one_end AwaitNew t p (at.NewColumns s.key) a.reply (at.Ended (outcome.Moved s.key)) s.reply (at.Ended o) more rest (moved_left (outcome.Moved s.key)) (moved_left o) (restores s.key) s.restores q.rest in
      no_move s.key o i (sym k.stage)

  same_key : (gs : List Frame) (given : Option PodKey) (more rest : List Frame) → AcceptsNew gs given → fs ++ more ≡ gs ++ rest → given ≡ key
  same_key gs given more rest b e =
      some_same given key state (sym (same_greeting b.greeting b.reply more rest given ((greeting.accepted t p state b.greeting state given).1 (refl, b.greets)) (e ∙ ap (λ (v : List Frame). v ++ rest) b.whole)).stage)

module _ (t : TransferKey) (p : List Pair) (state token : List ℕ) (patience : ℕ) (k l : Target) (old new : Origin) (fs : List Frame) (key : Option PodKey) (a : AcceptsNew fs key) (g : Gives old fs) where
  says_so : (given : Option PodKey) → Restored p state token patience k l old new given → given ≡ key
  says_so given m =
      let o = heard_whole 0 m.waits old new fs m.frames g m.good m.heard in
      same_key t p state fs key a m.frames given o.more o.rest m.accepts o.same

  never_ended : (o : Outcome) → IsRefusal o → ¬ NewEnded t p state token patience (at.Ended o) k l old new
  never_ended o i m =
      let q = heard_whole 0 m.waits old new fs m.so.frames g m.so.good m.so.heard in
      not_refused t p state fs key a token m.so.sent m.so.frames o q.more q.rest i m.so.phase q.same

  broken : (c : Cut) (w : ℕ) (mid : Target) (between : Origin) (y : Stage) → NewSo t p state token w k mid old between y → wants y ≡ AwaitNew → Breaks c w patience between new → Fails patience old new
  broken c w mid between y so e b = by (broke c w patience old between new fs so.frames g so.good so.heard b)
    where
      by : Broke patience old new fs so.frames → Fails patience old new
      by (Failed h) = h
      by (Passed more same) = absurd (not_awaited t p state fs key a token so.sent so.frames y more e so.phase same)

  left_at : (c : Cut) (w : ℕ) (mid : Target) (between : Origin) (y : Stage) → NewSo t p state token w k mid old between y → NewCutAt c t p w patience mid l between new y → Rose k.faults l.faults ⊎ Fails patience old new
  left_at WriteFault w mid between y so h = inl (rose_after k.faults mid.faults l.faults so.wrote.faults h.0.rose)
  left_at ReadFault w mid between y so h = inr (broken ReadFault w mid between y so h.1 h.2)
  left_at Ended w mid between y so h = inr (broken Ended w mid between y so h.1 h.2)
  left_at (Late n) w mid between y so h = inr (broken (Late n) w mid between y so h.1 h.2)
  left_at (BadLength n) w mid between y so h = inr (broken (BadLength n) w mid between y so h.1 h.2)
  left_at (Unexpected f) w mid between y so h = absurd h
  left_at (Strayed tag) w mid between y so h = absurd h

  leaves : (c : Cut) → NewLeaves t p state token patience c k l old new → Rose k.faults l.faults ⊎ Fails patience old new
  leaves c (inl m) = absurd (never_ended (outcome.NewCut c) tt m)
  leaves c (inr m) = left_at c m.waits m.tx m.rx m.stage m.so m.cut

pub new_heard : NewPodIsHeard
new_heard t p state token patience k l old new fs key a g = record {
  says = says_so t p state token patience k l old new fs key a g;
  takes = λ f m. never_ended t p state token patience k l old new fs key a g (outcome.RevivalRefused f) tt m;
  leaves = leaves t p state token patience k l old new fs key a g;
}
