-- Rows put among others one after another, as a loop does.
use Rattle.std.proofs.Common.{◌≡◌, Bool, true, false, List, [], ◌∷◌, Ok, Err, refl}
use Rattle.std.specs.Prelude.{if◌then◌else◌}
use Rattle.mini_store.specs.declared.code.SqlCode.TheVariants as code
use Rattle.mini_store.specs.declared.fault.Fault.{Fault}
use Rattle.mini_store.specs.declared.fault.Fault.TheVariants as fault
use Rattle.mini_store.specs.Answers.{Fails, OrCode}
use Rattle.mini_store.specs.Values.{Datums, added, has_key, placed}

more_by : (rs new more : List Datums) (b : Bool) (all : OrCode (List Datums)) (one : List Datums) → (if b then Err code.UniqueViolation else Ok one) ≡ Ok new → (if b then Err code.UniqueViolation else added one more) ≡ added new more
more_by rs new more true all one e = cc
more_by rs new more false all one e = let same : one ≡ new = cc in rw same refl

pub added_more : (rs new more : List Datums) (r : Datums) → added rs (r ∷ []) ≡ Ok new → added rs (r ∷ more) ≡ added new more
added_more rs new more r e = more_by rs new more (has_key r rs) (Ok []) (placed r rs) e

fails_by : (e : Fault) (more one : List Datums) (b : Bool) → Fails e (if b then Err code.UniqueViolation else Ok one) → Fails e (if b then Err code.UniqueViolation else added one more)
fails_by fault.NoMemory more one b h = tt
fails_by (fault.Bad c) more one true h = h
fails_by (fault.Bad c) more one false h = cc

pub added_fails : (e : Fault) (rs more : List Datums) (r : Datums) → Fails e (added rs (r ∷ [])) → Fails e (added rs (r ∷ more))
added_fails e rs more r h = fails_by e more (placed r rs) (has_key r rs) h
