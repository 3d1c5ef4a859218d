-- Addresses, and the system's.
use Rattle.std.specs.Net.Addr.{ipv4_bits, ipv6_bits, IsIpv4OfBits, IsIpv6OfBits}
use Rattle.std.specs.declared.net.ip_addr.IpAddr.{IpAddr}
use Rattle.std.specs.declared.net.ip_addr.IpAddr.TheVariants as Ip
use Rattle.proxy_outside.specs.declared.addr.Addr.{Addr}
use Rattle.proxy_outside.specs.declared.addr.Addr.TheVariants.{V4, V6}
use Rattle.proxy_outside.specs.Addr.{addr_of_v6}

-- the system's address has the same bits, and is of the same family
abbrev pub IsIpOf : Addr → IpAddr → Type 0
IsIpOf (V4 bits) (Ip.V4 ip) = IsIpv4OfBits ip bits
IsIpOf (V6 bits) (Ip.V6 ip) = IsIpv6OfBits ip bits
IsIpOf (V4 bits) (Ip.V6 ip) = ⊥
IsIpOf (V6 bits) (Ip.V4 ip) = ⊥

abbrev pub addr_of_ip : IpAddr → Addr
addr_of_ip (Ip.V4 ip) = V4 (ipv4_bits ip)
addr_of_ip (Ip.V6 ip) = addr_of_v6 (ipv6_bits ip)
