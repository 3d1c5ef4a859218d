use Rattle.std.proofs.Common.{◌≡◌, ℕ, List, take}
use Rattle.std.specs.Prelude.{IsTrue}
use Rattle.pgw_messages.specs.declared.params.Pair.{Pair}
use Rattle.proxy_outside.specs.declared.identity.ClientKey.{ClientKey}
use Rattle.forwarder_world.specs.World.{World, run}
use Rattle.forwarder_core.specs.Stands.{WorldStands, is_given_up}
use Rattle.forwarder_core.proofs.world.World.run.Given as goal

abbrev pub invariant-loop-e : goal.invariant-loop-e
invariant-loop-e g l =
    ((key : ClientKey) (p : List Pair) (d : World g.S.Session.State g.S.Store.Machine.State _) → WorldStands g.S.Session.state g.S.Store.Machine.stands_for key p l.fn.self d
    → WorldStands g.S.Session.state g.S.Store.Machine.stands_for key p l.self (run g.S.Session.kind g.S.Store.Machine.rules key p d (take l.e-index l.es)))
    × (IsTrue (is_given_up l.fn.self) → (l.e-index ≡ 0) × (l.self ≡ l.fn.self))
