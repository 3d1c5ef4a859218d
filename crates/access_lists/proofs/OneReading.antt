-- A text spells one address, and one network, at most.
use Rattle.std.proofs.Common.{◌≡◌, ℕ, ◌≤◌, List, Option, Some, None, sym, ap, ◌∙◌, arith}
use Rattle.std.specs.Int.{w32, w128, from_be_bytes}
use Rattle.std.specs.Net.Addr.{octets_of}
use Rattle.std.proofs.lemmas.Fmt.{decimal_injective}
use Rattle.std.specs.declared.net.ipv4_addr.Ipv4Addr.{Ipv4Addr}
use Rattle.std.specs.declared.net.ipv6_addr.Ipv6Addr.{Ipv6Addr}
use Rattle.std.proofs.NetLemmas.Theorems.{IsIpv4Text_unique, IsIpv6Text_unique}
use Rattle.std.proofs.NetLemmas.Ipv6.{IsDotted-not_colon_hex}
use Rattle.proxy_outside.specs.declared.addr.Addr.{Addr}
use Rattle.proxy_outside.specs.declared.addr.Addr.TheVariants.{V4, V6}
use Rattle.access_lists.specs.declared.net.Net.{Net}
use Rattle.access_lists.specs.Networks.{width_of}
use Rattle.access_lists.specs.Addresses.{IsV4Text, IsV6Text, IsAddrText}
use Rattle.access_lists.specs.NetTexts.{before_slash, behind_slash, IsPrefix, IsNetText}
use Rattle.access_lists.proofs.ColonHex.{in_std}

one_v4 : (text : List ℕ) (m n : ℕ) → IsV4Text text m → IsV4Text text n → m ≡ n
one_v4 text m n h k =
    let x : Ipv4Addr = record { octets = h.0 } in
    let y : Ipv4Addr = record { octets = k.0 } in
    let same : x ≡ y = IsIpv4Text_unique text x y h.1 k.1 in
    h.2 ∙ ap (λ (a : Ipv4Addr). from_be_bytes w32 a.octets) same ∙ sym k.2

one_v6 : (text : List ℕ) (m n : ℕ) → IsV6Text text m → IsV6Text text n → m ≡ n
one_v6 text m n h k =
    let x : Ipv6Addr = record { segments = h.0 } in
    let y : Ipv6Addr = record { segments = k.0 } in
    let same : x ≡ y = IsIpv6Text_unique text x y (in_std text h.0 h.1) (in_std text k.0 k.1) in
    h.2 ∙ ap (λ (a : Ipv6Addr). from_be_bytes w128 (octets_of a.segments)) same ∙ sym k.2

pub one_address : (text : List ℕ) (a b : Addr) → IsAddrText text a → IsAddrText text b → a ≡ b
one_address text (V4 m) (V4 n) h k = ap V4 (one_v4 text m n h k)
one_address text (V4 m) (V6 n) h k = absurd (IsDotted-not_colon_hex text h.0 k.0 h.1 (in_std text k.0 k.1))
one_address text (V6 m) (V4 n) h k = absurd (IsDotted-not_colon_hex text k.0 h.0 k.1 (in_std text h.0 h.1))
one_address text (V6 m) (V6 n) h k = ap V6 (one_v6 text m n h k)

widths : (a : Addr) → width_of a ≤ 128
widths (V4 bits) = omega arith
widths (V6 bits) = omega arith

one_prefix : (width : ℕ) (text : Option (List ℕ)) (m n : ℕ) → width ≤ 128 → IsPrefix width text m → IsPrefix width text n → m ≡ n
one_prefix width None m n le h k = h ∙ sym k
one_prefix width (Some text) m n le h k = decimal_injective m n (omega (arith, le, h.1)) (omega (arith, le, k.1)) (sym h.0 ∙ k.0)

pub one_network : (text : List ℕ) (m n : Net) → IsNetText text m → IsNetText text n → m ≡ n
one_network text m n h k =
    let address : m.addr ≡ n.addr = one_address (before_slash text) m.addr n.addr h.0 k.0 in
    let prefix : m.prefix ≡ n.prefix = one_prefix (width_of n.addr) (behind_slash text) m.prefix n.prefix (widths n.addr) (rw address at h.1) k.1 in
    λ i. record { addr = address i; prefix = prefix i }
