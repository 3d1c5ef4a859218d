use Rattle.std.proofs.Common.{◌≡◌, true, false, List, Some, None, sym, ap, ◌∙◌, arith}
use Rattle.std.specs.Prelude.{position, filter, min, ◌-◌, ◌^◌}
use Rattle.std.proofs.lemmas.Grind.{common_steps}
use Rattle.access_lists.specs.declared.deny.Deny.{Deny}
use Rattle.access_lists.specs.declared.verdict.Verdict.TheVariants.{Denied}
use Rattle.access_lists.specs.Verdicts.{Entries, matches, is_of, is_barred, verdict}
use Rattle.access_lists.proofs.Places.{verdict_at, verdict_nowhere}
use Rattle.access_lists.proofs.lists.Lists.judge.Goals as goal

pub returns-in-Some : goal.returns-in-Some
returns-in-Some c =
    let place : Some c.in-Some.place ≡ position (matches c.args.addr.now c.args.tenant c.args.now) c.self.inside.denies.items
    = sym c.in-Some.is ∙ c.first_match.ensures ∙ ap (λ (p : List Deny). position (matches c.args.addr.now c.args.tenant c.args.now) p) c.as_slice.ensures.value in
    let number : c.unwrap_or.result ≡ min c.in-Some.place (2 ^ 32 - 1) = grind (arith, common_steps) in
    ap Denied number ∙ verdict_at _ c.args.addr.now c.args.tenant c.args.now c.in-Some.place place
    ∙ ap (λ (l : Entries). verdict l c.args.addr.now c.args.tenant c.args.now) c.self.view_is

pub returns-then-bars : goal.returns-then-bars
returns-then-bars c =
    let nowhere : None ≡ position (matches c.args.addr.now c.args.tenant c.args.now) c.self.inside.denies.items
    = c.in_default.ensures ∙ ap (λ (p : List Deny). position (matches c.args.addr.now c.args.tenant c.args.now) p) c.as_slice.ensures.value in
    let barred : true ≡ is_barred c.args.addr.now (filter (is_of c.args.tenant) c.self.inside.allows.items)
    = c.if-bars.ensures c.self.inside.allows.items c.self.invariant in
    verdict_nowhere (record { denies = c.self.inside.denies.items; allows = c.self.inside.allows.items }) c.args.addr.now c.args.tenant c.args.now true nowhere barred
    ∙ ap (λ (l : Entries). verdict l c.args.addr.now c.args.tenant c.args.now) c.self.view_is

pub returns : goal.returns
returns c =
    let nowhere : None ≡ position (matches c.args.addr.now c.args.tenant c.args.now) c.self.inside.denies.items
    = c.in_default.ensures ∙ ap (λ (p : List Deny). position (matches c.args.addr.now c.args.tenant c.args.now) p) c.as_slice.ensures.value in
    let barred : false ≡ is_barred c.args.addr.now (filter (is_of c.args.tenant) c.self.inside.allows.items)
    = c.if-bars.ensures c.self.inside.allows.items c.self.invariant in
    verdict_nowhere (record { denies = c.self.inside.denies.items; allows = c.self.inside.allows.items }) c.args.addr.now c.args.tenant c.args.now false nowhere barred
    ∙ ap (λ (l : Entries). verdict l c.args.addr.now c.args.tenant c.args.now) c.self.view_is
