-- Addresses, networks and places as texts.
use Rattle.std.specs.Prelude.{◌≡◌, ◌==◌, ◌↔◌, ◌&&◌, ℕ, ◌^◌, Bool, nat_lt, nat_le, List, if◌then◌else◌, Option, Some, None, option_map, option_and_then, slice_index, length}
use Rattle.std.specs.Int.{w32, w128, from_be_bytes}
use Rattle.std.specs.Fmt.{decimal}
use Rattle.std.specs.List.{list_any, before_first, after_first, position_or_len}
use Rattle.std.specs.Str.{bytes_eq, all_ascii_digits}
use Rattle.std.specs.Str.Parse.{digits_value}
use Rattle.std.specs.Net.Addr.{octets_of}
use Rattle.std.specs.Net.Reader.{read_ipv4, read_ipv6, whole_value}
use Rattle.proxy_outside.specs.declared.addr.Addr.{Addr}
use Rattle.proxy_outside.specs.declared.addr.Addr.TheVariants.{V4, V6}
use Rattle.access_lists.specs.Addresses.{IsAddrText, is_dot}
use Rattle.access_lists.specs.Networks.{width_of}
use Rattle.access_lists.specs.NetTexts.{IsNetText, before_slash, behind_slash}
use Rattle.access_lists.specs.declared.net.Net.{Net}
use Rattle.proxy_config.specs.declared.settings.Spot.{Spot}

-- ---- addresses

-- the first of both
abbrev pub or_else : {A : Type 0} → Option A → Option A → Option A
or_else (Some x) other = Some x
or_else None other = other

abbrev pub v4_of : List ℕ → Option ℕ
v4_of text = option_map (from_be_bytes w32) (whole_value (read_ipv4 text))

abbrev pub v6_of : List ℕ → Option ℕ
v6_of text = if list_any is_dot text then None else option_map (λ groups. from_be_bytes w128 (octets_of groups)) (whole_value (read_ipv6 text))

-- the address that the text spells
unfoldable pub addr_of : List ℕ → Option Addr
addr_of text = or_else (option_map V4 (v4_of text)) (option_map V6 (v6_of text))

-- ---- networks

-- a decimal number without leading zeros, of at most this
abbrev pub number_within : ℕ → List ℕ → Option ℕ
number_within most text = if bytes_eq text (decimal (digits_value 10 text)) && nat_le (digits_value 10 text) most then Some (digits_value 10 text) else None

abbrev pub prefix_of : ℕ → Option (List ℕ) → Option ℕ
prefix_of width (Some text) = number_within width text
prefix_of width None = Some width

abbrev pub net_at : Addr → Option (List ℕ) → Option Net
net_at addr behind = option_map (λ n. record { addr = addr; prefix = n }) (prefix_of (width_of addr) behind)

-- the network that the text spells
unfoldable pub net_of : List ℕ → Option Net
net_of text = option_and_then (λ addr. net_at addr (behind_slash text)) (addr_of (before_slash text))

-- ---- an address with a port

abbrev pub is_colon : ℕ → Bool
is_colon c = c == 58

abbrev pub is_opening : ℕ → Bool
is_opening c = c == 91

abbrev pub is_closing : ℕ → Bool
is_closing c = c == 93

-- the parts before and behind the first such byte
abbrev pub split_at : (ℕ → Bool) → List ℕ → Option (List ℕ × List ℕ)
split_at is text = if nat_lt (position_or_len is text) (length text) then Some (before_first is text, after_first is text) else None

-- what stands behind such a byte, where it is the first of the text
abbrev pub behind_lead : (ℕ → Bool) → List ℕ → Option (List ℕ)
behind_lead is text = option_and_then (λ p. if length p.0 == 0 then Some p.1 else None) (split_at is text)

-- the first digit is 1 to 9
abbrev pub begins_number : List ℕ → Bool
begins_number text = nat_lt 48 (slice_index text 0) && nat_lt (slice_index text 0) 58

-- a decimal number without leading zeros, 1 to 65,535
abbrev pub port_of : List ℕ → Option ℕ
port_of text = if begins_number text && (all_ascii_digits text && nat_lt (digits_value 10 text) (2 ^ 16)) then Some (digits_value 10 text) else None

abbrev pub v4_spot : Option Addr → Option ℕ → Option Spot
v4_spot (Some (V4 bits)) (Some port) = Some (record { addr = V4 bits; port = port })
v4_spot _ _ = None

abbrev pub v6_spot : Option Addr → Option ℕ → Option Spot
v6_spot (Some (V6 bits)) (Some port) = Some (record { addr = V6 bits; port = port })
v6_spot _ _ = None

-- an IPv4 address, a colon and a port
abbrev pub plain_spot : List ℕ → Option Spot
plain_spot text = option_and_then (λ p. v4_spot (addr_of p.0) (port_of p.1)) (split_at is_colon text)

-- an IPv6 address behind an opening bracket, and a colon and a port behind the closing one
abbrev pub bracketed_spot : List ℕ → List ℕ → Option Spot
bracketed_spot before behind = option_and_then (λ host. option_and_then (λ port. v6_spot (addr_of host) (port_of port)) (behind_lead is_colon behind)) (behind_lead is_opening before)

abbrev pub spot_by : List ℕ → Option (List ℕ × List ℕ) → Option Spot
spot_by text (Some p) = bracketed_spot p.0 p.1
spot_by text None = plain_spot text

unfoldable pub spot_of : List ℕ → Option Spot
spot_of text = spot_by text (split_at is_closing text)

-- ---- laws

abbrev pub AddressesAreSpelled : Type 0
AddressesAreSpelled = (text : List ℕ) (a : Addr) → (addr_of text ≡ Some a) ↔ IsAddrText text a

abbrev pub NetworksAreSpelled : Type 0
NetworksAreSpelled = (text : List ℕ) (net : Net) → (net_of text ≡ Some net) ↔ IsNetText text net
