-- An opening that came to no session, against a call that ends in it.
use Rattle.std.specs.Prelude.{◌≡◌, ℕ, Bool, true, List, [], Option, Some, Err}
use Rattle.proxy_outside.specs.Reading.{Rose}
use Rattle.proxy_outside.specs.declared.addr.Addr.{Addr}
use Rattle.proxy_outside.specs.declared.identity.ClientKey.{ClientKey}
use Rattle.proxy_links.specs.Links.{LinkCounts, LinkRecord}
use Rattle.startup_route.specs.declared.step.Route.{Route}
use Rattle.session_trace.specs.Trace.{Opening}
use Rattle.session_asks.specs.Fits.{Outside, FitsHub}
use Rattle.session_greeting.specs.declared.greeting.Limits.{Limits}
use Rattle.session_opening.specs.Linking.{Around}
use Rattle.session_opening.specs.Opening.{Opens}
use Rattle.session_opening.specs.declared.opening.Ended.{Ended}
use Rattle.session_opening.specs.Shown.{Shows, call_of, client_of, FitsEnd, IsCounted, GotBytes}

-- what the opening showed is what a call shows that ends in it
pub record EndFits (peer : Addr) (route : Route) (limits : Limits) (old new : Around) (words words' : Option (List ℕ)) (e : Ended) : Type 0 where
  pub outside : Outside
  pub opened : Option Opening
  pub key : ClientKey
  pub is_key : (k : ClientKey) → e.key ≡ Some k → key ≡ k
  pub counts : LinkCounts
  pub taken : List ℕ
  pub given : List ℕ
  pub records : List LinkRecord
  pub shows : Shows old new words words' taken given records outside
  pub asks : FitsHub route.params (client_of peer route.tenant e) outside opened []
  pub trace :
      (says : ℕ) (faulted : Bool) → IsCounted old.links new.links → GotBytes opened → (Rose old.client_out.faults new.client_out.faults → faulted ≡ true)
      → FitsEnd opened counts (call_of route.params key limits.patience says faulted taken given records e.why)

abbrev pub EndsFit : Type 0
EndsFit =
    (peer : Addr) (route : Route) (waited : ℕ) (limits : Limits) (old new : Around) (words words' : Option (List ℕ)) (e : Ended)
    → Opens peer route waited limits old new words words' (Err e) → EndFits peer route limits old new words words' e
