-- Bells by the numbers of their sessions, in rising order.
use Rattle.std.specs.Prelude.{List, Option}
use Rattle.std.specs.BTreeMap.{is_at, insert_entry}
use Rattle.std.specs.Map.{lookup, remove_entry}
use Rattle.proxy_outside.specs.Orders.{sessions}
use Rattle.proxy_outside.specs.declared.identity.SessionNo.{SessionNo}
use Rattle.atomic_board.specs.declared.board.Bell.{Bell}

abbrev pub Table : Type 0
Table = List (SessionNo × Bell)

-- the session has this bell
abbrev pub with_bell : SessionNo → Bell → Table → Table
with_bell s bell table = insert_entry sessions table s bell

-- the session has none
abbrev pub without_bell : SessionNo → Table → Table
without_bell s table = remove_entry (is_at (sessions s)) table

-- the session's bell
abbrev pub bell_of : SessionNo → Table → Option Bell
bell_of s table = lookup (is_at (sessions s)) table
