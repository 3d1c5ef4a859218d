-- What a ring does to the list of rings.
use Rattle.std.specs.Prelude.{ℕ, nat_lt, List, [], ◌∷◌, ◌++◌, length, Bool, false, if◌then◌else◌, Option, Some, None}
use Rattle.proxy_outside.specs.declared.identity.SessionNo.{SessionNo}
use Rattle.proxy_links.specs.Told.{Grows}

-- the session stands at the end of the list, or the list is told no longer
abbrev pub Ringing : Option (List SessionNo) → Option (List SessionNo) → SessionNo → Type 0
Ringing old new s = Grows old new (s ∷ [])

-- A list of rings with room for so many. It is whole while nobody else was rung.
pub record Roll : Type 0 where
  pub rung : List SessionNo
  pub room : ℕ
  pub is_whole : Bool

-- the list is told while it is whole
abbrev pub told : Roll → Option (List SessionNo)
told r = if r.is_whole then Some r.rung else None

-- one more was rung, and is listed where there is room
abbrev pub after_ring : Roll → SessionNo → Roll
after_ring r s = if nat_lt (length r.rung) r.room then record r { rung = r.rung ++ s ∷ [] } else record r { is_whole = false }
