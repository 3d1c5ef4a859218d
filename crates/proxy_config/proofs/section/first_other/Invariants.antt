use Rattle.std.proofs.Common.{◌≡◌, map}
use Rattle.toml.specs.View.{members_view}
use Rattle.proxy_config.specs.Sections.{first_other}
use Rattle.proxy_config.proofs.section.first_other.Given as goal

abbrev pub invariant-loop-key : goal.invariant-loop-key
invariant-loop-key l =
    (goal.iterator-loop-key).can_next l.key-iterator ×
    (goal.iterator-loop-key).is_finite l.key-iterator ×
    (first_other (map (λ n. n.now) l.names) (members_view l.key-iterator) ≡ first_other (map (λ n. n.now) l.names) (members_view l.table.entries))
