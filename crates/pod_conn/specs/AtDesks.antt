-- What a port of a desk asked.
use Rattle.std.specs.Prelude.{◌≡◌, ℕ, List, map, Result, Ok, Err}
use Rattle.counted_desk.specs.declared.entry.Entry.{Entry}
use Rattle.counted_desk.specs.declared.answer.CallFault.{CallFault}
use Rattle.counted_desk.specs.Calls.{Made, Missed}
use Rattle.counted_desk.specs.Seats as desk
use Rattle.proxy_outside.specs.Rules.{Rules}
use Rattle.pod_conn.specs.Ports.{Port}

-- the seat through which a port asks, and how often it was refused
pub record AtDesk (C R : Type 0) : Type 0 where
  pub seat : desk.Sight C R
  pub refusals : ℕ

module _ {C R : Type 0} where
  abbrev pub at_desk : desk.Sight C R → ℕ → AtDesk C R
  at_desk seat refusals = record { seat = seat; refusals = refusals }

  -- the commands of a seat's own calls, with their answers
  abbrev pub asked_by : desk.Sight C R → List (C × R)
  asked_by seat = map (λ (e : Entry C R). (e.command, e.reply)) seat.own

  abbrev pub port_of : AtDesk C R → Port C R
  port_of p = record { desk = p.seat.desk; asked = asked_by p.seat; refusals = p.refusals }

module _ {S C R : Type 0} (rules : Rules S C R) where
  -- What a seat sees of an ask. The command stands with its answer behind all that the seat had seen; or it stands nowhere, and the
  -- desk's journal is full exactly where the fault says so.
  abbrev pub Sees : desk.Sight C R → desk.Sight C R → C → Result R CallFault → Type 0
  Sees old new c (Ok r) = (place : ℕ) × Made rules old.desk.most old new c (record { place = place; reply = r })
  Sees old new c (Err e) = Missed rules old.desk.most old new e
