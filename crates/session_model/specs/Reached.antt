-- Machines that were run from their opening.
use Rattle.std.specs.Prelude.{List}
use Rattle.proxy_outside.specs.Rules.{Rules, after}

-- the machine stands for a state that some commands led to
abbrev pub IsReached : {M T C R : Type 0} → Rules T C R → (M → T → Type 0) → M → Type 0
IsReached {M} {T} {C} {R} rules stands_for m = (before : List C) × stands_for m (after rules rules.first before)
