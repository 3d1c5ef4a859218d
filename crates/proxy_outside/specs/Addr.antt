-- Addresses: which are the same, and IPv4 addresses inside IPv6 (RFC 4291, 2.5.5.2, IPv4-Mapped IPv6 Address).
use Rattle.std.specs.Prelude.{◌==◌, ℕ, ◌/◌, ◌%◌, ◌^◌, Bool, false, if◌then◌else◌}
use Rattle.proxy_outside.specs.declared.addr.Addr.{Addr}
use Rattle.proxy_outside.specs.declared.addr.Addr.TheVariants.{V4, V6}

-- 80 zero bits, 16 one bits, and the bits of the IPv4 address
abbrev pub addr_of_v6 : ℕ → Addr
addr_of_v6 bits = if bits / 2 ^ 32 == 65535 then V4 (bits % 2 ^ 32) else V6 bits

-- an address of one family is none of the other
abbrev pub is_same_addr : Addr → Addr → Bool
is_same_addr (V4 m) (V4 n) = m == n
is_same_addr (V6 m) (V6 n) = m == n
is_same_addr (V4 m) (V6 n) = false
is_same_addr (V6 m) (V4 n) = false
