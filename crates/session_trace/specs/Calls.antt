-- What one call for a client shows at its return.
use Rattle.std.specs.Prelude.{Option, Bool, ℕ, List, ◌-◌, ◌^◌, min}
use Rattle.pgw_frames.specs.declared.frame.Frame.{Frame}
use Rattle.pgw_messages.specs.declared.params.Pair.{Pair}
use Rattle.proxy_links.specs.Links.{LinkRecord}
use Rattle.proxy_outside.specs.declared.identity.ClientKey.{ClientKey}

-- what the reason of a call's end says of its trace
pub record Why : Type 0 where
  pub rejection : Option Frame  -- the ErrorResponse that a client gets for it
  pub exchange_cut : Bool
  pub bye : Bool
  pub pod_ended : Bool
  pub auth_refused : Bool
  pub no_memory : Bool

-- what a call shows at its return
pub record Call : Type 0 where
  pub route : List Pair
  pub key : ClientKey
  pub says : ℕ  -- how many refusals of encryption were written
  pub taken : List ℕ  -- of the client, behind the startup packet
  pub given : List ℕ  -- to the client
  pub records : List LinkRecord  -- the links that were hung up, but for a CancelRequest's
  pub moves : ℕ
  pub starved : ℕ
  pub patience : ℕ
  pub client_faults : Bool  -- whether the client's write faults rose
  pub why : Why

-- counts stop at 2^64 - 1
abbrev pub counted : ℕ → ℕ
counted n = min n (2 ^ 64 - 1)
