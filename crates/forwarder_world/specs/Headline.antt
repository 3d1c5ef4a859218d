-- What holds of a world, whatever happened in it.
use Rattle.std.specs.Prelude.{◌≡◌, ◌≤◌, ℕ, ◌+◌, List, [], ◌∷◌, Some, length, take}
use Rattle.pgw_frames.specs.Frames.{frames, Begins}
use Rattle.proxy_outside.specs.Rules.{Rules}
use Rattle.session_model.specs.Kind.{Kind}
use Rattle.pgw_messages.specs.declared.params.Pair.{Pair}
use Rattle.session_model.specs.Solo.{Deed, Take, Other, solo}
use Rattle.session_model.specs.Heard.{heard}
use Rattle.forwarder_world.specs.World.{World, unwritten}
use Rattle.proxy_outside.specs.declared.identity.ClientKey.{ClientKey}

-- how many messages a story takes
abbrev pub takes_in : {C : Type 0} → List (Deed C) → ℕ
takes_in [] = 0
takes_in (Take ∷ ds) = 1 + takes_in ds
takes_in (Other c ∷ ds) = takes_in ds

-- The received bytes begin what the client hears of one session that is never moved and was told the client's
-- messages, each once and in order; a pod takes only what was sent, and all that was handed out was sent, but for the
-- last message at a podwrite; and the session at the current link and the store are that session's.
pub record Headline {S T C R : Type 0} (k : Kind S C R) (rules : Rules T C R) (key : ClientKey) (p : List Pair) (w : World S T C) : Type 0 where
  pub received : Begins w.received (heard k key p (solo k rules p w.script w.story).replied)
  pub takes : takes_in w.story ≤ w.written
  pub written : w.written + unwritten w.mode ≡ length w.forwarded
  pub in_order : Begins w.forwarded (frames (take w.read w.script))
  pub session : w.link.session ≡ Some (solo k rules p w.script w.story).session
  pub store : w.store ≡ (solo k rules p w.script w.story).store

-- the session at the link of a world is the one that was never moved
abbrev pub IsServed : {S T C R : Type 0} → Kind S C R → Rules T C R → List Pair → World S T C → Type 0
IsServed k rules p w = w.link.session ≡ Some (solo k rules p w.script w.story).session
