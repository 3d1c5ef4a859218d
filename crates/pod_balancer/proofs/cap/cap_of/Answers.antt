use Rattle.std.proofs.Common.{◌≡◌, length, refl, ap, sym, ◌∙◌}
use Rattle.std.specs.Int.{div_ceil}
use Rattle.std.proofs.lemmas.List.Sums.{length-filter}
use Rattle.pod_balancer.specs.declared.load.Load.{Load}
use Rattle.pod_balancer.specs.Picks.{running}
use Rattle.pod_balancer.proofs.Counting.{no_elements}
use Rattle.pod_balancer.proofs.cap.cap_of.Goals as goal

pub returns-then-running-eq0-clause-none : goal.returns-then-running-eq0-clause-none
returns-then-running-eq0-clause-none c =
    let loads = c.args.loads.now in
    let none : length (running loads) ≡ 0 = length-filter (λ (l : Load). l.running) loads ∙ sym c.running_len-running.ensures ∙ c.if-running-eq0.true in
    (λ _. no_elements (running loads) none, λ _. refl)

pub returns-clause-value : goal.returns-clause-value
returns-clause-value c =
    let loads = c.args.loads.now in
    let same : c.running_len-running.result ≡ length (running loads) = c.running_len-running.ensures ∙ sym (length-filter (λ (l : Load). l.running) loads) in
    c.div_ceil.ensures ∙ ap (div_ceil (length c.args.homes.now)) same

pub returns-clause-none : goal.returns-clause-none
returns-clause-none c =
    let loads = c.args.loads.now in
    let same : c.running_len-running.result ≡ length (running loads) = c.running_len-running.ensures ∙ sym (length-filter (λ (l : Load). l.running) loads) in
    (λ t. absurd cc, λ e. absurd (c.if-running-eq0.false (same ∙ ap length e)))
