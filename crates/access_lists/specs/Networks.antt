-- Which addresses a network has.
use Rattle.std.specs.Prelude.{◌==◌, ℕ, ◌/◌, ◌-◌, ◌^◌, Bool, false}
use Rattle.proxy_outside.specs.declared.addr.Addr.{Addr}
use Rattle.proxy_outside.specs.declared.addr.Addr.TheVariants.{V4, V6}
use Rattle.access_lists.specs.declared.net.Net.{Net}

-- the number of bits of an address
abbrev pub width_of : Addr → ℕ
width_of (V4 bits) = 32
width_of (V6 bits) = 128

-- The numbers, of so many bits, agree in the first bits, as many as the prefix says. A prefix past the end is the end.
abbrev pub begin_alike : ℕ → ℕ → ℕ → ℕ → Bool
begin_alike width prefix m n = m / 2 ^ (width - prefix) == n / 2 ^ (width - prefix)

-- the addresses are of one family, and agree in the first bits
abbrev pub are_alike : ℕ → Addr → Addr → Bool
are_alike prefix (V4 m) (V4 n) = begin_alike 32 prefix m n
are_alike prefix (V6 m) (V6 n) = begin_alike 128 prefix m n
are_alike prefix (V4 m) (V6 n) = false
are_alike prefix (V6 m) (V4 n) = false

-- the network has the address
abbrev pub has : Net → Addr → Bool
has net a = are_alike net.prefix net.addr a
