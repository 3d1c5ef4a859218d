-- What was read ahead.
use Rattle.std.specs.Prelude.{ℕ, List}
use Rattle.tcp_links.specs.Part.{part}
use Rattle.tcp_links.specs.declared.read_ahead.ReadAhead.{ReadAhead}

-- the bytes that are still to be handed on
abbrev pub held_of : ReadAhead → List ℕ
held_of a = part a.at a.end a.buffer.items
