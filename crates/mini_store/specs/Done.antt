-- What a call answers that does an operation, and the tables before and behind it.
use Rattle.std.specs.Prelude.{◌≡◌, List, Result, Ok, Err}
use Rattle.mini_store.specs.declared.answer.Answer.{Answer}
use Rattle.mini_store.specs.declared.fault.Fault.{Fault}
use Rattle.mini_store.specs.Answers.{Fails, OrCode}
use Rattle.pgw_frames.specs.declared.memory.NoMemory.{NoMemory}
use Rattle.mini_store.specs.Operations.{Done, answer_in, tables_in}
use Rattle.mini_store.specs.Tables.{TableOf}

abbrev pub Does : Result Answer Fault → List TableOf → List TableOf → OrCode Done → Type 0
Does (Ok a) old new meant = meant ≡ Ok (record { answer = a; tables = new })
Does (Err e) old new meant = Fails e meant × (new ≡ old)

-- the same of a call that only reads
abbrev pub Tells : Result Answer Fault → List TableOf → OrCode Done → Type 0
Tells (Ok a) ts meant = meant ≡ Ok (record { answer = a; tables = ts })
Tells (Err e) ts meant = Fails e meant

-- what an operation answers, whatever it is; no memory leaves the tables as they were
abbrev pub Answers : Result Answer NoMemory → List TableOf → List TableOf → OrCode Done → Type 0
Answers (Ok a) old new meant = (a ≡ answer_in meant) × (new ≡ tables_in old meant)
Answers (Err e) old new meant = new ≡ old
