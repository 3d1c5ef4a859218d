-- What a port asks at a desk: its list grows by the call, whose answer is one that the machine gives.
use Rattle.std.proofs.Common.{◌≡◌, ℕ, List, [], ◌∷◌, ◌++◌, ap, ◌∙◌, sym, subst, map}
use Rattle.std.proofs.lemmas.List.{map-append}
use Rattle.counted_desk.specs.declared.answer.Receipt.{Receipt}
use Rattle.counted_desk.specs.declared.entry.Entry.{Entry}
use Rattle.counted_desk.specs.History.{entry, AreReplies}
use Rattle.counted_desk.specs.Calls.{Made}
use Rattle.counted_desk.specs.Seats.{Sight}
use Rattle.proxy_outside.specs.Rules.{Rules, after, IsAnswer}
use Rattle.pod_conn.specs.AtDesks.{asked_by}

module _ {S C R : Type 0} (rules : Rules S C R) where
  -- the last reply of a history is the machine's behind some commands
  last_is : (s : S) (es : List (Entry C R)) (e : Entry C R) → AreReplies rules s (es ++ e ∷ []) → (before : List C) × (e.reply ≡ rules.reply (after rules s before) e.command)
  last_is s [] e r = ([], r.0)
  last_is s (x ∷ xs) e r = let more = last_is (rules.next s x.command) xs e r.1 in (x.command ∷ more.0, more.1)

  pub answers_made : (most : ℕ) (old new : Sight C R) (c : C) (r : Receipt R) → Made rules most old new c r → IsAnswer rules c r.reply
  answers_made most old new c r m = last_is rules.first (old.seen ++ m.between) (entry new.last c r.reply) (subst (AreReplies rules rules.first) m.seen m.legal.replies)

  pub lists_made : (most : ℕ) (old new : Sight C R) (c : C) (r : Receipt R) → Made rules most old new c r → asked_by new ≡ asked_by old ++ (c, r.reply) ∷ []
  lists_made most old new c r m = ap (map (λ (e : Entry C R). (e.command, e.reply))) m.own ∙ map-append _ old.own (entry new.last c r.reply ∷ [])
