-- A text is read in one way.
use Rattle.std.specs.Prelude.{◌≡◌, ℕ, List}
use Rattle.proxy_outside.specs.declared.addr.Addr.{Addr}
use Rattle.access_lists.specs.declared.net.Net.{Net}
use Rattle.access_lists.specs.Addresses.{IsAddrText}
use Rattle.access_lists.specs.NetTexts.{IsNetText}

abbrev pub AddressesReadOnce : Type 0
AddressesReadOnce = (text : List ℕ) (a b : Addr) → IsAddrText text a → IsAddrText text b → a ≡ b

abbrev pub NetworksReadOnce : Type 0
NetworksReadOnce = (text : List ℕ) (m n : Net) → IsNetText text m → IsNetText text n → m ≡ n
