use Rattle.std.proofs.Common.{rules, ◌≡◌, take, drop, List, ℕ, arith, refl, ap, ◌∙◌}
use Rattle.std.proofs.Math.Seq.{take-add}
use Rattle.std.proofs.lemmas.List.{take-append-drop, drop-drop}
use Rattle.proxy_outside.proofs.mem_source.MemSourceSource.read.Goals as goal

pub returns-clause-reads : goal.returns-clause-reads
returns-clause-reads c =
    let at : ℕ = c.self.inside.at in
    let bytes : List ℕ = c.self.inside.bytes in
    let count : ℕ = c.min-count.result in
    let front : take count c.copy_part.new.to ≡ take count (drop at bytes) = c.copy_part.ensures.front ∙ ap (λ (t : List ℕ). take count (drop at t)) c.as_slice-3.ensures in
    rw (← c.self.view_is) (record {
      by_case = (
        omega arith,
        omega arith,
        record {
          taken = rw (take-add at count bytes, front) refl;
          left = rw (front, ← drop-drop count at bytes, take-append-drop count (drop at bytes)) refl;
        },
        c.copy_part.ensures.others,
      );
      after_end = search rules;
      stays_ended = search rules;
      only_end = search rules;
      faults = omega arith;
      waits = omega arith;
      link = refl;
    })
