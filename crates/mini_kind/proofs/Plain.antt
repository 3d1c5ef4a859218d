-- Steps, and lists of frames.
use Rattle.std.proofs.Common.{List, Option, Some, [], arith, map, refl, ℕ, ◌++◌, ◌+◌, ◌∷◌, ◌≡◌, ◌≤◌}
use Rattle.pgw_frames.specs.declared.frame.Frame.{Frame}
use Rattle.session_model.specs.Tags.{last_tag, readies_in}
use Rattle.mini_kind.specs.Plans.{Asks, Now, Plan, and_then, with_answer}
use Rattle.mini_kind.specs.Replies.{row_frame}
use Rattle.mini_store.specs.declared.answer.Answer.{Answer}
use Rattle.mini_store.specs.declared.command.StoreCommand.{StoreCommand}
use Rattle.mini_store.specs.declared.datum.Datum.{Datum}

-- it holds whatever the answer is
abbrev pub Always : {A : Type 0} → (A → Type 0) → Plan A → Type 0
Always P (Now x) = P x
Always P (Asks c k) = (a : Option Answer) → P (k a)

-- it holds for an answer that may come to this command
abbrev pub Lawfully : {A : Type 0} → (StoreCommand → Answer → Type 0) → (A → Type 0) → Plan A → Type 0
Lawfully May P (Now x) = P x
Lawfully May P (Asks c k) = (a : Answer) → May c a → P (k (Some a))

pub always_then : {A B : Type 0} (P : A → Type 0) (Q : B → Type 0) (f : A → B) (p : Plan A) → ((x : A) → P x → Q (f x)) → Always P p → Always Q (and_then f p)
always_then P Q f (Now x) h a = h x a
always_then P Q f (Asks c k) h a = λ r. h (k r) (a r)

pub always_answer : {A : Type 0} (P : A → Type 0) (p : Plan A) → Always P p → (a : Option Answer) → P (with_answer p a)
always_answer P (Now x) h a = h
always_answer P (Asks c k) h a = h a

pub readies-append : (xs ys : List Frame) → readies_in (xs ++ ys) ≡ readies_in xs + readies_in ys
readies-append [] ys = omega arith
readies-append (x ∷ xs) ys = let h = readies-append xs ys in omega arith

pub last_push : (d : ℕ) (xs : List Frame) (x : Frame) → last_tag d (xs ++ x ∷ []) ≡ x.tag
last_push d [] x = refl
last_push d (y ∷ xs) x = last_push y.tag xs x

pub last_any : (d e : ℕ) (xs : List Frame) → 1 ≤ readies_in xs → last_tag d xs ≡ last_tag e xs
last_any d e [] h = absurd (omega arith)
last_any d e (x ∷ xs) h = refl

pub readies-rows : (rs : List (List Datum)) (fs : List Frame) → readies_in (map row_frame rs ++ fs) ≡ readies_in fs
readies-rows [] fs = refl
readies-rows (r ∷ rs) fs = let h = readies-rows rs fs in omega arith
