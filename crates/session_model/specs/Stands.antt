-- What a session with its store stands for.
use Rattle.std.specs.Prelude.{◌≡◌, Bool, false}
use Rattle.session_model.specs.Solo as model
use Rattle.session_model.specs.declared.solo.Solo.{Solo}

-- it was not given up, and its session and its store are those of the definition
pub record SoloStands {X Y C R S T : Type 0} (state : X → S) (stands_for : Y → T → Type 0) (solo : Solo X Y C R) (so : model.Solo S T) : Type 0 where
  pub usable : solo.given_up ≡ false
  pub session : state solo.session ≡ so.session
  pub store : stands_for solo.store so.store

abbrev pub is_given_up : {X Y C R : Type 0} → Solo X Y C R → Bool
is_given_up solo = solo.given_up
