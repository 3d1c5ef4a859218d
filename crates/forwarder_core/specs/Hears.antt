-- What is heard of a World, whatever its schedule was.
use Rattle.std.specs.Prelude.{◌≡◌, ℕ, List}
use Rattle.proxy_outside.specs.Rules.{Rules}
use Rattle.proxy_outside.specs.declared.identity.ClientKey.{ClientKey}
use Rattle.pgw_messages.specs.declared.params.Pair.{Pair}
use Rattle.session_model.specs.Kind.{Kind}
use Rattle.forwarder_world.specs.World.{World}
use Rattle.forwarder_world.specs.Headline.{Headline}
use Rattle.forwarder_world.specs.Turns.{BeginsSafely, Resumes, EndsByMove, EndsThere}
use Rattle.forwarder_world.specs.declared.event.Event.{Event}
use Rattle.session_model.specs.declared.transfer.TransferKey.{TransferKey}

-- these are the received bytes, and the headline holds of them
pub record Hears {S T C R : Type 0} (k : Kind S C R) (rules : Rules T C R) (key : ClientKey) (p : List Pair) (w : World S T C) (bytes : List ℕ) : Type 0 where
  pub bytes_are : bytes ≡ w.received
  pub headline : Headline k rules key p w

-- A transfer begins by this event only at a safe point with both sides suspended, and nothing is sent yet; elsewhere a
-- start lets both sides go on. It ends by this event only if that is a move, exactly where it has an outcome, and the
-- outcome says where the session is: at the new link, at the old one, or closed with the client.
pub record Turns {S T C R : Type 0} (k : Kind S C R) (rules : Rules T C R) (key : ClientKey) (p : List Pair) (w : World S T C) (e : Event C) : Type 0 where
  pub begins : BeginsSafely k rules key p w e
  pub resumes : (t : TransferKey) → Resumes k rules key p w t
  pub ends : EndsByMove k rules key p w e
  pub ends_there : EndsThere k rules key p w
