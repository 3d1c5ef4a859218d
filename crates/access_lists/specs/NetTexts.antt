-- Networks as text: an address, or an address, a slash and a prefix (RFC 4632, 3.1; RFC 4291, 2.3).
use Rattle.std.specs.Prelude.{◌≡◌, ◌==◌, ℕ, ◌≤◌, Bool, if◌then◌else◌, List, [], ◌∷◌, Option, Some, None, Result, Ok, Err}
use Rattle.std.specs.Fmt.{decimal}
use Rattle.proxy_outside.specs.declared.addr.Addr.{Addr}
use Rattle.access_lists.specs.declared.net.Net.{Net}
use Rattle.access_lists.specs.declared.fault.NetFault.{NetFault}
use Rattle.access_lists.specs.declared.fault.NetFault.TheVariants.{BadAddress, BadPrefix}
use Rattle.access_lists.specs.Networks.{width_of}
use Rattle.access_lists.specs.Addresses.{IsAddrText}

abbrev pub is_slash : ℕ → Bool
is_slash c = c == 47

-- what stands before the first slash, or all where there is none
abbrev pub before_slash : List ℕ → List ℕ
before_slash [] = []
before_slash (c ∷ cs) = if is_slash c then [] else c ∷ before_slash cs

-- what stands behind it
abbrev pub behind_slash : List ℕ → Option (List ℕ)
behind_slash [] = None
behind_slash (c ∷ cs) = if is_slash c then Some cs else behind_slash cs

-- the prefix that the text gives an address of so many bits, or that no text gives
abbrev pub IsPrefix : ℕ → Option (List ℕ) → ℕ → Type 0
IsPrefix width (Some text) n = (text ≡ decimal n) × (n ≤ width)
IsPrefix width None n = n ≡ width

-- the text spells the network
abbrev pub IsNetText : List ℕ → Net → Type 0
IsNetText text net = IsAddrText (before_slash text) net.addr × IsPrefix (width_of net.addr) (behind_slash text) net.prefix

-- ---- what is read

-- a prefix that the text gives, or that it gives none
abbrev pub ReadsPrefix : ℕ → Option (List ℕ) → Result ℕ NetFault → Type 0
ReadsPrefix width text (Ok n) = IsPrefix width text n
ReadsPrefix width text (Err BadPrefix) = (n : ℕ) → ¬ IsPrefix width text n
ReadsPrefix width text (Err BadAddress) = ⊥

abbrev pub ReadsNumber : ℕ → List ℕ → Result ℕ NetFault → Type 0
ReadsNumber width text r = ReadsPrefix width (Some text) r

-- No address stands before the first slash; or one does, and no prefix of its family is given.
abbrev pub ReadsNet : List ℕ → Result Net NetFault → Type 0
ReadsNet text (Ok net) = IsNetText text net
ReadsNet text (Err BadAddress) = (a : Addr) → ¬ IsAddrText (before_slash text) a
ReadsNet text (Err BadPrefix) = (a : Addr) × IsAddrText (before_slash text) a × ((n : ℕ) → ¬ IsPrefix (width_of a) (behind_slash text) n)
