-- What a call answers that lends a value.
use Rattle.std.specs.Prelude.{Result, Ok, Err}
use Rattle.std.specs.Borrow.{Bor}
use Rattle.mini_store.specs.declared.fault.Fault.{Fault}

abbrev pub shown : {A : Type 0} → Result (Bor A) Fault → Result A Fault
shown (Ok x) = Ok x.now
shown (Err e) = Err e
