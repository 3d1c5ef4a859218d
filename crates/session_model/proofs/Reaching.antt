-- A machine that was run from its opening, and one more command.
use Rattle.std.proofs.Common.{◌≡◌, List, [], ◌∷◌, ◌++◌, Option, Some, None, refl, sym, subst}
use Rattle.proxy_outside.specs.Rules.{Rules, after}
use Rattle.session_model.specs.Kind.{Answers}
use Rattle.session_model.specs.Reached.{IsReached}
use Rattle.session_model.specs.Solo.{answer_to, store_after}

pub after_push : {T C R : Type 0} (rules : Rules T C R) (t : T) (cs : List C) (c : C) → after rules t (cs ++ c ∷ []) ≡ rules.next (after rules t cs) c
after_push rules t [] c = refl
after_push rules t (d ∷ cs) c = after_push rules (rules.next t d) cs c

pub reached_after : {M T C R : Type 0} (rules : Rules T C R) (stands_for : M → T → Type 0) (m : M) (o : Option C) (before : List C) → stands_for m (store_after rules (after rules rules.first before) o) → IsReached rules stands_for m
reached_after rules stands_for m None before h = (before, h)
reached_after rules stands_for m (Some c) before h = (before ++ c ∷ [], subst (λ t. stands_for m t) (sym (after_push rules rules.first before c)) h)

-- what such a machine answers is an answer of the definition
pub answered : {T C R : Type 0} (rules : Rules T C R) (before : List C) (o : Option C) → Answers rules o (answer_to rules (after rules rules.first before) o)
answered rules before None = tt
answered rules before (Some c) = (before, refl)
