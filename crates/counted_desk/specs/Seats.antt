-- What contracts see of a desk and of its seats.
use Rattle.std.specs.Prelude.{◌≡◌, ℕ, List, []}
use Rattle.atomic_table.specs.Table.{Me}
use Rattle.atomic_table.specs.Seated.{TableId}
use Rattle.proxy_outside.specs.Rules.{Rules}
use Rattle.counted_desk.specs.declared.entry.Entry.{Entry}
use Rattle.counted_desk.specs.declared.entry.Role.TheVariants.{Idle}
use Rattle.counted_desk.specs.declared.entry.View.{View}
use Rattle.counted_desk.specs.History.{IsLegal, IsOwnOf}

-- which desk it is, and how many entries its journal takes at most
pub record DeskId : Type 0 where
  pub table : TableId
  pub most : ℕ

abbrev pub desk_id : TableId → ℕ → DeskId
desk_id z n = record { table = z; most = n }

-- the desk of a seat, the ticket that it drew last, the history that it has seen, and its own calls
pub record Sight (C R : Type 0) : Type 0 where
  pub desk : DeskId
  pub last : ℕ
  pub seen : List (Entry C R)
  pub own : List (Entry C R)

abbrev pub sight : {C R : Type 0} → TableId → View C R → Sight C R
sight z v = record { desk = desk_id z v.most; last = v.last; seen = v.seen; own = v.own }

-- between two calls
pub record IsAtRest {H C R S : Type 0} (rules : Rules S C R) (me : Me H (View C R)) : Type 0 where
  pub idle : me.0.role ≡ Idle
  pub free : me.1 ≡ []
  pub legal : IsLegal rules me.0.seen
  pub own : IsOwnOf me.0.own me.0.seen
