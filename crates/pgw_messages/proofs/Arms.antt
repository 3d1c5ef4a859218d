-- A message of a type is its body and that type, both ways.
use Rattle.std.proofs.Common.{◌≡◌, ℕ, Bool, true, false, List, [], ◌∷◌, Ok, Result, refl, sym, ap, subst, ◌∙◌}
use Rattle.std.specs.Prelude.{◌==◌, if◌then◌else◌}
use Rattle.std.proofs.lemmas.Bool.{eqb-true}
use Rattle.std.proofs.lemmas.List.{append-nil}
use Rattle.pgw_frames.specs.Frames.{IsBytes}
use Rattle.pgw_messages.specs.declared.fault.MsgFault.{MsgFault}
use Rattle.pgw_messages.specs.Reading.{Read, ◌>>=◌, mapped, remaining_at, ended, whole}
use Rattle.pgw_messages.specs.Spelling.{Spells}
use Rattle.pgw_messages.proofs.Ended.{bind_ok}
use Rattle.pgw_messages.proofs.Codecs.{Codec, ok_is}

-- a whole body both ways
pub record Body {A : Type 0} (at : List ℕ → Read A) (bytes : A → List ℕ) (Is : A → Type 0) : Type 0 where
  pub takes : (b : List ℕ) (x : A) → IsBytes b → at b ≡ Ok (x, []) → (b ≡ bytes x) × Is x
  pub again : (x : A) → Is x → at (bytes x) ≡ Ok (x, [])

pub body_of : {A : Type 0} {at : List ℕ → Read A} {bytes : A → List ℕ} {Is : A → Type 0} → Codec at bytes Is → Body at bytes Is
body_of {at = at} {bytes = bytes} codec = record {
  takes = λ b x fits e. let t = codec.takes b x [] fits e in (t.0.parts ∙ append-nil (bytes x), t.1);
  again = λ x is. ap at (sym (append-nil (bytes x))) ∙ codec.again x [] is;
}

-- nothing
abbrev pub nothing_at : List ℕ → Read (Unit {0})
nothing_at b = Ok (tt, b)

abbrev done : {A : Type 0} → A → Result A MsgFault
done x = Ok x

pub nothing : Body nothing_at (λ u. []) (λ u. Unit {0})
nothing = record {
  takes = λ b x fits e. (ap (λ (p : Unit {0} × List ℕ). p.1) (ok_is (tt, b) (x, []) e), tt);
  again = λ x is. refl;
}

-- all bytes
pub remaining : Body remaining_at (λ b. b) (λ b. Unit {0})
remaining = record {
  takes = λ b x fits e. (ap (λ (p : List ℕ × List ℕ). p.0) (ok_is (b, []) (x, []) e), tt);
  again = λ x is. refl;
}

nothing_left : (b : List ℕ) (u : Unit {0}) → ended b ≡ done u → b ≡ []
nothing_left [] u e = refl
nothing_left (c ∷ b) u e = absurd cc

-- how a message of this type is made of its body
pub record Makes {A M : Type 0} (tag_of : M → ℕ) (body_is : M → List ℕ) (Good : M → Type 0) (bytes : A → List ℕ) (Is : A → Type 0) (make : A → M) (n : ℕ) : Type 0 where
  pub tag : (x : A) → tag_of (make x) ≡ n
  pub body : (x : A) → body_is (make x) ≡ bytes x
  pub good : (x : A) → Is x → Good (make x)

whole_ok : {A : Type 0} (read : Read A) (y : A) → whole read ≡ Ok y → read ≡ Ok (y, [])
whole_ok read y e =
    let r = bind_ok read (λ x. ended x.1 >>= λ nothing. done x.0) y e in
    let s = bind_ok (ended r.0.1) (λ nothing. done r.0.0) y r.2 in
    let left : r.0.1 ≡ [] = nothing_left r.0.1 s.0 s.1 in
    let value : r.0.0 ≡ y = ok_is r.0.0 y s.2 in
    r.1 ∙ ap (λ (t : List ℕ). Ok (r.0.0, t)) left ∙ ap (λ z. Ok (z, [])) value

arm_by : {A M : Type 0} {at : List ℕ → Read A} {bytes : A → List ℕ} {Is : A → Type 0} (body : Body at bytes Is) (tag_of : M → ℕ) (body_is : M → List ℕ) (Good : M → Type 0) (make : A → M) (n : ℕ) → Makes tag_of body_is Good bytes Is make n
    → (tag : ℕ) (b : List ℕ) (m : M) (others : Read M) (x : Bool) → (tag == n) ≡ x → IsBytes b → whole (if x then mapped make (at b) else others) ≡ Ok m → (whole others ≡ Ok m → Spells tag_of body_is Good tag b m) → Spells tag_of body_is Good tag b m
arm_by body tag_of body_is Good make n makes tag b m others false is fits e more = more e
arm_by {at = at} body tag_of body_is Good make n makes tag b m others true is fits e more =
    let r = whole_ok (mapped make (at b)) m e in
    let s = bind_ok (at b) (λ x. done (make x.0, x.1)) (m, []) r in
    let same = ok_is (make s.0.0, s.0.1) (m, []) s.2 in
    let made : make s.0.0 ≡ m = ap (λ p. p.0) same in
    let left : s.0.1 ≡ [] = ap (λ p. p.1) same in
    let t = body.takes b s.0.0 fits (s.1 ∙ ap (λ (u : List ℕ). Ok (s.0.0, u)) left) in
    subst (Spells tag_of body_is Good tag b) made (record { good = makes.good s.0.0 t.1; tag = eqb-true tag n is ∙ sym (makes.tag s.0.0); body = t.0 ∙ sym (makes.body s.0.0) })

pub arm : {A M : Type 0} {at : List ℕ → Read A} {bytes : A → List ℕ} {Is : A → Type 0} (body : Body at bytes Is) (tag_of : M → ℕ) (body_is : M → List ℕ) (Good : M → Type 0) (make : A → M) (n : ℕ) → Makes tag_of body_is Good bytes Is make n
    → (tag : ℕ) (b : List ℕ) (m : M) (others : Read M) → IsBytes b → whole (if tag == n then mapped make (at b) else others) ≡ Ok m → (whole others ≡ Ok m → Spells tag_of body_is Good tag b m) → Spells tag_of body_is Good tag b m
arm body tag_of body_is Good make n makes tag b m others fits e more = arm_by body tag_of body_is Good make n makes tag b m others (tag == n) refl fits e more

pub arm_again : {A M : Type 0} {at : List ℕ → Read A} {bytes : A → List ℕ} {Is : A → Type 0} (body : Body at bytes Is) (make : A → M) (x : A) → Is x → whole (mapped make (at (bytes x))) ≡ Ok (make x)
arm_again body make x is = rw (body.again x is) refl

pub whole_is : {A : Type 0} (read : Read A) (x : A) (rest : List ℕ) (u : Unit {0}) → read ≡ Ok (x, rest) → ended rest ≡ done u → whole read ≡ Ok x
whole_is read x rest u e f = rw (e, f) refl
