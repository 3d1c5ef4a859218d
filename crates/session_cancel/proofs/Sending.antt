-- A link on which a request was sent.
use Rattle.std.proofs.Common.{◌≡◌, ℕ, Bool, List, inr, subst}
use Rattle.pgw_messages.specs.declared.pod_key.PodKey.{PodKey}
use Rattle.proxy_outside.specs.Reading.{Origin}
use Rattle.proxy_outside.specs.Writing.{Target}
use Rattle.proxy_outside.specs.declared.place.Place.{Place}
use Rattle.proxy_links.specs.Links.{Links, Came, HangsUp}
use Rattle.link_io.specs.Writing.{WritesAll}
use Rattle.session_cancel.specs.Cancelling.{cancel_request, Sends}

-- a link came, these bytes were written to it, and it was hung up
pub sent_on : (place : Place) (key : PodKey) (old between new : Links) (tx tx' : Target) (rx : Origin) (whole : Bool) (request : List ℕ)
    → request ≡ cancel_request key → Came old between place tx rx → WritesAll whole tx tx' request → HangsUp between new tx' rx → Sends place key old new
sent_on place key old between new tx tx' rx whole request e came wrote hung = inr (record {
  between = between;
  tx = tx;
  tx' = tx';
  rx = rx;
  came = came;
  whole = whole;
  wrote = subst (λ (v : List ℕ). WritesAll whole tx tx' v) e wrote;
  hung = hung;
})
