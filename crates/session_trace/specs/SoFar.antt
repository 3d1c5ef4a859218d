-- A trace so far, as the objects tell it.
use Rattle.std.specs.Prelude.{ℕ, List, Option, ◌≡◌, ◌++◌}
use Rattle.proxy_links.specs.Links.{LinkRecord, Links}
use Rattle.proxy_links.specs.Told.{push, blank}
use Rattle.session_trace.specs.Trace.{all_relayed, Opening, Round, all_forwarded}
use Rattle.session_trace.specs.Records.{open_link, left, link_got, link_sent}
use Rattle.session_trace.specs.Running.{Now}

-- what was told before the first round
pub record Start : Type 0 where
  pub client_taken : Option (List ℕ)
  pub client_given : Option (List ℕ)
  pub records : Option (List LinkRecord)

-- in_ was taken of the client and not forwarded, out was got of the pod and not relayed
pub record SoFar (start : Start) (now : Now) (links : Links) (first : Opening) (rs : List Round) (in_ out : List ℕ) : Type 0 where
  pub tx : now.tx.contents ≡ push (blank start.records) (link_sent first rs)
  pub rx : now.rx.taken ≡ push (blank start.records) (link_got first rs ++ out)
  pub tx_number : now.tx.link ≡ (open_link first rs).number
  pub rx_number : now.rx.link ≡ (open_link first rs).number
  pub records : links.records ≡ push start.records (left first rs)
  pub forwards : now.client_in.taken ≡ push start.client_taken (all_forwarded rs ++ in_)
  pub relays : now.client_out.contents ≡ push start.client_given (all_relayed rs)
