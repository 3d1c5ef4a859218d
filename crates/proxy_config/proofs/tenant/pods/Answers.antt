use Rattle.std.proofs.Common.{◌≡◌, [], Ok, Some, sym, ◌∙◌, subst, arith}
use Rattle.std.specs.Prelude.{codes}
use Rattle.toml.specs.View.{array_view}
use Rattle.proxy_config.specs.Reading.{Gives, entries}
use Rattle.proxy_config.specs.Sections.{part_of, items}
use Rattle.proxy_config.specs.Settings.{pod_at}
use Rattle.proxy_config.proofs.Counted.{too_many, few}
use Rattle.proxy_config.proofs.tenant.pods.Goals as goal

pub returns-then-len-gt-MOST_PODS : goal.returns-then-len-gt-MOST_PODS
returns-then-len-gt-MOST_PODS c =
    let told : items (codes "pod") (part_of c.args.section.now) ≡ Ok (Some (array_view c.in-Some.array.now)) = rw c.in-Some.is at c.in_ok-array.ensures in
    rw c.in_ok-key.ensures (too_many (part_of c.args.section.now) c.in-Some.array.now.items told (omega (arith, c.len.ensures, c.if-len-gt-MOST_PODS.true)))

pub returns : goal.returns
returns c =
    let told : items (codes "pod") (part_of c.args.section.now) ≡ Ok (Some (array_view c.in-Some.array.now)) = rw c.in-Some.is at c.in_ok-array.ensures in
    let same = few (part_of c.args.section.now) c.in-Some.array.now.items told (omega (arith, c.len.ensures, c.if-len-gt-MOST_PODS.false)) in
    subst (Gives c.entries.result) (sym same)
    (subst (λ k. Gives c.entries.result (entries pod_at k [] (array_view c.in-Some.array.now))) (c.as_str.ensures ∙ c.in_ok-key-2.ensures) c.entries.ensures)
