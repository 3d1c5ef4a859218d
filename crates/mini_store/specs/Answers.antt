-- What a call answers that may be refused by a code.
use Rattle.std.specs.Prelude.{◌≡◌, Bool, true, false, List, ◌∷◌, ◌++◌, Result, Ok, Err}
use Rattle.mini_store.specs.declared.code.SqlCode.{SqlCode}
use Rattle.mini_store.specs.declared.fault.Fault.{Fault}
use Rattle.mini_store.specs.declared.fault.Fault.TheVariants as fault

-- what is meant, or the code that refuses it
abbrev pub OrCode : Type 0 → Type 0
OrCode A = Result A SqlCode

infixl 10 ◌>>=◌
abbrev pub ◌>>=◌ : {A B : Type 0} → OrCode A → (A → OrCode B) → OrCode B
(Ok x) >>= f = f x
(Err c) >>= f = Err c

-- this code, unless something holds
abbrev pub must : SqlCode → Bool → OrCode (Unit {0})
must c true = Ok tt
must c false = Err c

-- an item before others
abbrev pub before : {A : Type 0} → A → OrCode (List A) → OrCode (List A)
before x (Ok xs) = Ok (x ∷ xs)
before x (Err c) = Err c

-- items before others
abbrev pub behind : {A : Type 0} → List A → OrCode (List A) → OrCode (List A)
behind xs (Ok ys) = Ok (xs ++ ys)
behind xs (Err c) = Err c

-- the fault is the code that is meant, unless memory ran out
abbrev pub Fails : {A : Type 0} → Fault → OrCode A → Type 0
Fails fault.NoMemory meant = Unit {0}
Fails (fault.Bad c) meant = meant ≡ Err c

-- the answer is what is meant, unless memory ran out
abbrev pub Gives : {A : Type 0} → Result A Fault → OrCode A → Type 0
Gives (Ok x) meant = meant ≡ Ok x
Gives (Err e) meant = Fails e meant

-- what a call leaves that makes it, unless memory ran out
abbrev pub Leaves : {A : Type 0} → Result (Unit {0}) Fault → A → OrCode A → Type 0
Leaves (Ok u) x meant = meant ≡ Ok x
Leaves (Err e) x meant = Fails e meant
