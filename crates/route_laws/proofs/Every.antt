-- What holds of a result wherever it is one.
use Rattle.std.proofs.Common.{Result, Ok, Err}

abbrev pub Every : {A E : Type 0} → (A → Type 0) → Result A E → Type 0
Every P (Ok x) = P x
Every P (Err e) = Unit {0}

pub every_any : {A E : Type 0} (r : Result A E) → Every (λ x. Unit {0}) r
every_any (Ok x) = tt
every_any (Err e) = tt
