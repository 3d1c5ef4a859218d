-- A startup packet with a revival token, and what can be taken over.
use Rattle.std.specs.Prelude.{ℕ, Bool, ◌&&◌, not, nat_lt, List, length}
use Rattle.std.specs.List.{flat_map}
use Rattle.pgw_messages.specs.Startup.{pair_bytes}
use Rattle.pgw_messages.specs.declared.params.Pair.{Pair}
use Rattle.transfer_stages.specs.Exchange.{packet, with_token}

-- whether these parameters and the token's take at most so many bytes
abbrev pub fits_behind : ℕ → List ℕ → List Pair → Bool
fits_behind room token p = not (nat_lt room (length (flat_map pair_bytes (with_token p token))))

-- a state, and the packet with this token, within their limits
abbrev pub are_within : List Pair → List ℕ → List ℕ → Bool
are_within p state token = not (nat_lt 1048576 (length state)) && not (nat_lt 11900000 (length (packet p token)))
