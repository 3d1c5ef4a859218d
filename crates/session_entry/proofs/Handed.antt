-- What a request to cancel comes to.
use Rattle.std.proofs.Common.{◌≡◌, ℕ, ap, subst, Ok, Err, inl, inr, refl}
use Rattle.proxy_outside.specs.Writing.{Target}
use Rattle.proxy_outside.specs.declared.addr.Addr.{Addr}
use Rattle.proxy_outside.specs.declared.identity.ClientKey.{ClientKey}
use Rattle.proxy_links.specs.Links.{Links}
use Rattle.proxy_hub.specs.Ports.{Port}
use Rattle.proxy_hub.specs.Ports as port
use Rattle.proxy_hub.specs.declared.fault.HubFault.{HubFault}
use Rattle.proxy_hub.specs.declared.fault.HubFault.TheVariants as fault
use Rattle.startup_route.specs.declared.rejection.Rejection.TheVariants as because
use Rattle.session_cancel.specs.Cancelling.{Cancels}
use Rattle.session_door.specs.declared.door.DoorCut.TheVariants.{NoMemory}
use Rattle.session_entry.specs.Telling.{IsTold}
use Rattle.session_entry.specs.Receiving.{HandsOver}
use Rattle.session_entry.specs.declared.entry.Received.TheVariants.{Cancelled, JournalFull, Cut}
use Rattle.session_entry.proofs.Sent.{asks}

pub handed : (peer : Addr) (key : ClientKey) (k : Target) (hub hub' : Port) (links links' : Links) (u : Unit {0}) → Cancels peer key hub hub' links links' (Ok u) → HandsOver peer key k k hub hub' links links' Cancelled
handed peer key k hub hub' links links' u c = (asks peer key hub hub' links links' (Ok u) c, inl (refl, refl))

pub untold : (peer : Addr) (key : ClientKey) (k l : Target) (hub hub' : Port) (links links' : Links) (f : HubFault) → Cancels peer key hub hub' links links' (Err f) → l ≡ k → HandsOver peer key k l hub hub' links links' (Cut NoMemory)
untold peer key k l hub hub' links links' f c e = (asks peer key hub hub' links links' (Err f) c, inr (inl (refl, e)))

-- the fault tells the limit
limit_told : (f : HubFault) (n most : ℕ) → f ≡ fault.JournalFull n → port.Tells f most → n ≡ most
limit_told f n most e t = subst (λ (x : HubFault). port.Tells x most) e t

pub full : (peer : Addr) (key : ClientKey) (n : ℕ) (k l : Target) (hub hub' : Port) (links links' : Links) (f : HubFault) → f ≡ fault.JournalFull n → Cancels peer key hub hub' links links' (Err f) → IsTold because.JournalFull k l → HandsOver peer key k l hub hub' links links' (JournalFull n)
full peer key n k l hub hub' links links' f e c told = (asks peer key hub hub' links links' (Err f) c, inr (inr (ap JournalFull (limit_told f n hub.desk.most e c.0.3), told)))
