-- Clauses of answers.
use Rattle.std.specs.Prelude.{IfOk, Result, Ok, Err}

-- what holds of a value under a premise
pub if_ok_under : {A E : Type 0} (r : Result A E) (P : Type 0) (Q : A → Type 0) → (P → IfOk r Q) → IfOk r (λ a. P → Q a)
if_ok_under (Ok a) P Q f = f
if_ok_under (Err e) P Q f = tt

pub if_ok_given : {A E : Type 0} (r : Result A E) (P : Type 0) (Q : A → Type 0) → P → IfOk r (λ a. P → Q a) → IfOk r Q
if_ok_given (Ok a) P Q p f = f p
if_ok_given (Err e) P Q p f = tt

pub if_ok_with : {A E : Type 0} (r : Result A E) (P : A → Type 0) (Q : Type 0) → Q → IfOk r P → IfOk r (λ a. P a × Q)
if_ok_with (Ok a) P Q q h = (h, q)
if_ok_with (Err e) P Q q h = tt
