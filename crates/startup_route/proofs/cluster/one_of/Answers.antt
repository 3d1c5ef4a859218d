use Rattle.std.proofs.Common.{◌∙◌, List, ℕ, Bor, true, false, Ok, sym, ap}
use Rattle.std.specs.Prelude.{map}
use Rattle.startup_route.specs.Clusters.{one_of}
use Rattle.startup_route.proofs.ClusterLemmas.{now, one_name}
use Rattle.startup_route.proofs.cluster.one_of.Goals as goal

pub returns-then-not-are_all : goal.returns-then-not-are_all
returns-then-not-are_all c =
    ap (λ (ns : List (Bor (List ℕ))). one_of (map now ns)) c.in-Some.ensures.cases.0
    ∙ one_name c.in-Some.first.now c.in-Some.others.now false (sym c.are_all.ensures ∙ c.if-not-are_all.true)

pub returns : goal.returns
returns c =
    ap (λ (ns : List (Bor (List ℕ))). one_of (map now ns)) c.in-Some.ensures.cases.0
    ∙ one_name c.in-Some.first.now c.in-Some.others.now true (sym c.are_all.ensures ∙ c.if-not-are_all.false)
    ∙ ap Ok (sym c.in_ok-of.ensures)
