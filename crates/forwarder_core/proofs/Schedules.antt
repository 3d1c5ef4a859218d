-- The worlds of schedules.
use Rattle.std.proofs.Common.{◌≡◌, ℕ, ◌+◌, ◌<◌, List, [], ◌∷◌, ◌++◌, length, take, get_or, refl, sym, ap, ◌∙◌}
use Rattle.std.proofs.lemmas.List.{take_more}
use Rattle.proxy_outside.specs.Rules.{Rules}
use Rattle.proxy_outside.specs.declared.identity.ClientKey.{ClientKey}
use Rattle.pgw_messages.specs.declared.params.Pair.{Pair}
use Rattle.session_model.specs.Kind.{Kind}
use Rattle.forwarder_world.specs.World.{World, happens, run}
use Rattle.forwarder_world.specs.declared.event.Event.{Event}
use Rattle.forwarder_world.proofs.Turning.{begins_safely, resumes}
use Rattle.forwarder_world.proofs.Ending.{ends_by_move, ends_there}
use Rattle.forwarder_core.specs.Hears.{Turns}

module _ {S T C R : Type 0} (k : Kind S C R) (rules : Rules T C R) (key : ClientKey) (p : List Pair) where
  pub run-append : (w : World S T C) (es fs : List (Event C)) → run k rules key p w (es ++ fs) ≡ run k rules key p (run k rules key p w es) fs
  run-append w [] fs = refl
  run-append w (e ∷ es) fs = run-append (happens k rules key p w e) es fs

  pub run_more : (w : World S T C) (es : List (Event C)) (i : ℕ) (e : Event C) → i < length es → e ≡ get_or es i e → run k rules key p w (take (i + 1) es) ≡ happens k rules key p (run k rules key p w (take i es)) e
  run_more w es i e lt is =
      ap (λ (t : List (Event C)). run k rules key p w t) (take_more es i e lt)
      ∙ run-append w (take i es) (get_or es i e ∷ [])
      ∙ ap (λ (x : Event C). happens k rules key p (run k rules key p w (take i es)) x) (sym is)

  pub turns_of : (w : World S T C) (e : Event C) → Turns k rules key p w e
  turns_of w e = record { begins = begins_safely k rules key p w e; resumes = (λ t. resumes k rules key p w t); ends = ends_by_move k rules key p w e; ends_there = ends_there k rules key p w }
