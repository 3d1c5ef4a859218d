-- What a pod writes for the bytes that it took, what it asks of its store, and where it then stands.
use Rattle.std.specs.Prelude.{ℕ, List, [], ◌∷◌, ◌++◌}

pub data Standing : Type 0 where
  Between : Standing  -- between two messages
  Inside : Standing  -- inside a message
  Starved : Standing  -- the store has not answered what was asked
  Left : Standing  -- the client said that it leaves, or came to cancel
  BadLength : ℕ → Standing  -- a length that begins no message
  BadStart : Standing  -- the first packets are none that can be served
  Refused : Standing  -- the login was refused

pub record Course (C R : Type 0) : Type 0 where
  pub written : List ℕ
  pub asked : List (C × R)
  pub standing : Standing

module _ {C R : Type 0} where
  abbrev pub stands : Standing → Course C R
  stands s = record { written = []; asked = []; standing = s }

  -- these bytes are written and this is asked first
  abbrev pub behind : List ℕ → List (C × R) → Course C R → Course C R
  behind bytes asks c = record { written = bytes ++ c.written; asked = asks ++ c.asked; standing = c.standing }

  abbrev pub writes : List ℕ → Course C R → Course C R
  writes bytes c = behind bytes [] c

  abbrev pub asks : C → R → Course C R → Course C R
  asks command answer c = behind [] ((command, answer) ∷ []) c

  -- the answers among what was asked
  abbrev pub answers_in : List (C × R) → List R
  answers_in [] = []
  answers_in (q ∷ qs) = q.1 ∷ answers_in qs

-- where the bytes end
abbrev pub resting : List ℕ → Standing
resting [] = Between
resting (c ∷ b) = Inside
