-- From the parts of a text to what it spells.
use Rattle.std.proofs.Common.{◌≡◌, ℕ, ◌<◌, List, None, Result, Ok, sym, ◌∙◌, arith}
use Rattle.std.specs.Fmt.{decimal}
use Rattle.std.specs.Str.Parse.{ParsesUnsigned}
use Rattle.std.proofs.lemmas.Fmt.{parse-decimal}
use Rattle.proxy_outside.specs.declared.addr.Addr.{Addr}
use Rattle.proxy_outside.specs.declared.addr.Addr.TheVariants.{V4, V6}
use Rattle.access_lists.specs.Addresses.{IsAddrText, ReadsV4, ReadsV6}

pub no_addr : (text : List ℕ) → ReadsV4 text None → ReadsV6 text None → (a : Addr) → ¬ IsAddrText text a
no_addr text v4 v6 (V4 bits) = v4 bits
no_addr text v4 v6 (V6 bits) = v6 bits

ok_same : {E : Type 0} (m n : ℕ) → ◌≡◌ {A = Result ℕ E} (Ok m) (Ok n) → m ≡ n
ok_same m n e = cc

-- a small number that is spelled is what was parsed
pub parsed : {E : Type 0} (n m : ℕ) (text : List ℕ) (r : Result ℕ E) → n < 256 → text ≡ decimal n → ParsesUnsigned 8 10 text r → r ≡ Ok m → n ≡ m
parsed n m text r small spelled parses is = ok_same n m (sym (parse-decimal 8 n text r (omega arith) (omega arith) spelled parses) ∙ is)
