-- Addresses as text: IPv4 with dots, and IPv6 with colons (RFC 4291, 2.2, forms 1 and 2). The form that ends in an IPv4
-- address is none here.
use Rattle.std.specs.Prelude.{◌≡◌, ◌==◌, ℕ, ◌+◌, ◌-◌, ◌<◌, ◌⊎◌, Bool, false, List, ◌++◌, length, replicate, codes, Option, Some, None, Result, Ok, Err}
use Rattle.std.specs.Int.{w32, w128, from_be_bytes}
use Rattle.std.specs.Net.Addr.{octets_of}
use Rattle.std.specs.Net.Grammar.{IsDotted, IsGroups}
use Rattle.proxy_outside.specs.declared.addr.Addr.{Addr}
use Rattle.proxy_outside.specs.declared.addr.Addr.TheVariants.{V4, V6}
use Rattle.access_lists.specs.declared.fault.NetFault.{NetFault}
use Rattle.access_lists.specs.declared.fault.NetFault.TheVariants.{BadAddress, BadPrefix}

-- four decimal numbers below 256, without leading zeros, with dots between them
abbrev pub IsV4Text : List ℕ → ℕ → Type 0
IsV4Text text bits = (octets : List ℕ) × IsDotted text octets × (bits ≡ from_be_bytes w32 octets)

-- groups of one to four hexadecimal digits on each side of `::`, which stands for one zero group or more
pub record IsElided (text groups : List ℕ) : Type 0 where
  pub head_text : List ℕ
  pub tail_text : List ℕ
  pub head : List ℕ
  pub tail : List ℕ
  pub spelled : text ≡ head_text ++ codes "::" ++ tail_text
  pub head_groups : IsGroups false head_text head
  pub tail_groups : IsGroups false tail_text tail
  pub room : length head + length tail < 8
  pub value : groups ≡ head ++ replicate (8 - length head - length tail) 0 ++ tail

-- all eight groups, with colons between them, or some with `::`
abbrev pub IsColonHex : List ℕ → List ℕ → Type 0
IsColonHex text groups = (IsGroups false text groups × (length groups ≡ 8)) ⊎ IsElided text groups

abbrev pub IsV6Text : List ℕ → ℕ → Type 0
IsV6Text text bits = (groups : List ℕ) × IsColonHex text groups × (bits ≡ from_be_bytes w128 (octets_of groups))

-- the text spells the address
abbrev pub IsAddrText : List ℕ → Addr → Type 0
IsAddrText text (V4 bits) = IsV4Text text bits
IsAddrText text (V6 bits) = IsV6Text text bits

-- ---- what is read

abbrev pub is_dot : ℕ → Bool
is_dot c = c == 46

abbrev pub ReadsV4 : List ℕ → Option ℕ → Type 0
ReadsV4 text (Some bits) = IsV4Text text bits
ReadsV4 text None = (bits : ℕ) → ¬ IsV4Text text bits

abbrev pub ReadsV6 : List ℕ → Option ℕ → Type 0
ReadsV6 text (Some bits) = IsV6Text text bits
ReadsV6 text None = (bits : ℕ) → ¬ IsV6Text text bits

-- an address that the text spells, or that it spells none
abbrev pub ReadsAddr : List ℕ → Result Addr NetFault → Type 0
ReadsAddr text (Ok a) = IsAddrText text a
ReadsAddr text (Err BadAddress) = (a : Addr) → ¬ IsAddrText text a
ReadsAddr text (Err BadPrefix) = ⊥
