-- One read, by what it gave.
use Rattle.std.proofs.Common.{◌≡◌, ℕ, List, [], length, ◌≤◌, sym, subst, arith}
use Rattle.proxy_outside.specs.Reading.{Origin, Rose, Takes}
use Rattle.proxy_outside.specs.declared.source.Took.{Took}
use Rattle.proxy_outside.specs.declared.source.Took.TheVariants.{Got, End, Idle, Failed}
use Rattle.link_io.specs.Reading.{ReadOn, IsAtEnd}
use Rattle.link_io.proofs.Parts.{got_on, stay_on}
use Rattle.processor_core.specs.Intakes.{ReadsSome}

pub read_some : (t : Took) (n : ℕ) (old new : Origin) (bytes : List ℕ) → t ≡ Got n → ReadsSome t old new bytes → (length bytes ≤ 8192) × ReadOn old new bytes 0
read_some t n old new bytes is some =
    let s = subst (λ v. ReadsSome v old new bytes) is some in
    let r = s.reads in (
      (let c = r.by_case.1 in omega (arith, s.count, s.most)),
      got_on old new bytes (subst (λ v. Takes old new v) (sym s.are) r.by_case.2) r.faults r.waits r.link,
    )

pub read_end : (t : Took) (old new : Origin) (bytes : List ℕ) → t ≡ End → ReadsSome t old new bytes → ReadOn old new [] 0 × IsAtEnd new
read_end t old new bytes is some =
    let r = (subst (λ v. ReadsSome v old new bytes) is some).reads in
    (stay_on old new 0 r.by_case.0 r.faults (let w = r.waits in omega arith) r.link, (r.by_case.1, r.by_case.2))

pub read_idle : (t : Took) (old new : Origin) (bytes : List ℕ) → t ≡ Idle → ReadsSome t old new bytes → ReadOn old new [] 0 × ReadOn old new [] 1
read_idle t old new bytes is some =
    let r = (subst (λ v. ReadsSome v old new bytes) is some).reads in
    (stay_on old new 0 r.by_case.0 r.faults (let w = r.waits in omega arith) r.link, stay_on old new 1 r.by_case.0 r.faults r.by_case.1 r.link)

pub read_failed : (t : Took) (old new : Origin) (bytes : List ℕ) → t ≡ Failed → ReadsSome t old new bytes → ReadOn old new [] 0 × Rose old.faults new.faults
read_failed t old new bytes is some =
    let r = (subst (λ v. ReadsSome v old new bytes) is some).reads in
    (stay_on old new 0 r.by_case.0 r.faults (let w = r.waits in omega arith) r.link, r.by_case.1)
