-- The definition of a sequential object: a first state, and for each state and command a reply and a next state.
use Rattle.std.specs.Prelude.{◌≡◌, List, [], ◌∷◌}

pub record Rules (S C R : Type 0) : Type 0 where
  pub first : S
  pub next : S → C → S
  pub reply : S → C → R

-- the state after these commands
abbrev pub after : {S C R : Type 0} → Rules S C R → S → List C → S
after rules s [] = s
after rules s (c ∷ cs) = after rules (rules.next s c) cs

-- an answer that the object, run from its opening over some commands, gives to this one
abbrev pub IsAnswer : {S C R : Type 0} → Rules S C R → C → R → Type 0
IsAnswer {S} {C} {R} rules c r = (before : List C) × (r ≡ rules.reply (after rules rules.first before) c)
