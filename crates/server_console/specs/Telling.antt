-- The lines that a server writes.
use Rattle.std.specs.Prelude.{ℕ, List, ◌++◌, codes, Option, Some, None}
use Rattle.std.specs.Fmt.{decimal}
use Rattle.std.specs.Net.Text.{socket_text}
use Rattle.std.specs.declared.net.socket_addr.SocketAddr.{SocketAddr}
use Rattle.proxy_outside.specs.declared.identity.SessionNo.{SessionNo}
use Rattle.proxy_outside.specs.declared.identity.TenantId.{TenantId}
use Rattle.server_console.specs.declared.lines.Closed.{Closed}

-- a name and its number, or a hyphen
abbrev pub named : List ℕ → Option ℕ → List ℕ
named name (Some n) = codes " " ++ (name ++ (codes " " ++ decimal n))
named name None = codes " " ++ name ++ codes " -"

abbrev pub tenant_number : Option TenantId → Option ℕ
tenant_number (Some t) = Some t.0
tenant_number None = None

abbrev pub session_number : Option SessionNo → Option ℕ
session_number (Some s) = Some s.0
session_number None = None

-- what happened, and when
abbrev pub at_moment : List ℕ → ℕ → List ℕ → List ℕ
at_moment what now text = what ++ codes " at " ++ decimal now ++ codes ": " ++ text ++ codes "\n"

-- a connection that ended: when, whose it was, and of which tenant and session
abbrev pub who_line : ℕ → Closed → List ℕ
who_line now c = codes "closed at " ++ decimal now ++ codes ": peer " ++ socket_text c.peer ++ named (codes "tenant") (tenant_number c.tenant)
    ++ named (codes "session") (session_number c.session)

-- why it ended, and what it did
abbrev pub end_line : Closed → List ℕ
end_line c = codes " why " ++ c.why.now ++ codes " moves " ++ decimal c.moves ++ codes " seconds " ++ decimal c.seconds ++ codes "\n"

abbrev pub listening_line : SocketAddr → List ℕ
listening_line addr = codes "listening on " ++ socket_text addr ++ codes "\n"

abbrev pub drain_line : ℕ → ℕ → List ℕ
drain_line now rung = codes "drain at " ++ decimal now ++ codes ": " ++ decimal rung ++ codes " rung\n"
