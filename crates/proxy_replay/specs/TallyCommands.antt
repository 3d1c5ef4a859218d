-- What spells the one command of the tally's store.
use Rattle.std.specs.Prelude.{◌≤◌, ℕ, List, length}
use Rattle.tally_session.specs.declared.store.Nothing.{Nothing}

-- any 1 to 256 bytes
abbrev pub says_nothing : List ℕ → Nothing → Type 0
says_nothing text command = (1 ≤ length text) × (length text ≤ 256)
