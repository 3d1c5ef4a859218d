-- The type of a message that can be read.
use Rattle.std.proofs.Common.{◌≡◌, ℕ, Bool, true, false, if◌then◌else◌, ◌==◌, List, [], ◌∷◌, Result, Ok, refl, sym, subst}
use Rattle.std.specs.Int.{w32}
use Rattle.std.proofs.lemmas.Bool.{eqb-true}
use Rattle.pgw_frames.specs.declared.frame.Frame.{Frame}
use Rattle.pgw_messages.specs.Backend.{auth_at, key_at, ready_at, column_at, notify_at, copy_at, back_at, back_of, back_tag}
use Rattle.pgw_messages.specs.Fields.{fields_at}
use Rattle.pgw_messages.specs.Reading.{Read, mapped, number_at, value_at, text_at, list_at, whole}
use Rattle.pgw_messages.specs.Startup.{pair_at}
use Rattle.pgw_messages.specs.declared.backend.message.BackMsg.{BackMsg}
use Rattle.pgw_messages.specs.declared.backend.message.BackMsg.TheVariants as back
use Rattle.pgw_messages.specs.declared.fault.MsgFault.{MsgFault}
use Rattle.session_greeting.proofs.Meant.{whole_by}

-- a message that is read as one of a type has that type
abbrev Is : ℕ → BackMsg → Result BackMsg MsgFault → Type 0
Is t m r = r ≡ Ok m → back_tag m ≡ t

of_kind : {A : Type 0} (t : ℕ) (m : BackMsg) (f : A → BackMsg) (r : Read A) → ((x : A) → back_tag (f x) ≡ t) → Is t m (whole (mapped f r))
of_kind t m f r is = whole_by (Is t m) f r (λ x e. let same : f x ≡ m = cc in subst (λ (y : BackMsg). back_tag y ≡ t) same (is x)) (λ x e. absurd (cc))

-- by the type that is looked for next
next_kind : (t n : ℕ) (m : BackMsg) (hit miss : Read BackMsg) → Is n m (whole hit) → Is t m (whole miss) → Is t m (whole (if t == n then hit else miss))
next_kind t n m hit miss is other = by (t == n) refl
  where
    by : (b : Bool) → (t == n) ≡ b → Is t m (whole (if b then hit else miss))
    by true e = let same : t ≡ n = eqb-true t n e in subst (λ (k : ℕ). Is k m (whole hit)) (sym same) is
    by false e = other

nullary : (n : ℕ) (m x : BackMsg) (b : List ℕ) → back_tag x ≡ n → Is n m (whole (Ok (x, b)))
nullary n m x [] is e = let same : x ≡ m = cc in subst (λ (y : BackMsg). back_tag y ≡ n) same is
nullary n m x (c ∷ b) is e = absurd (cc)

kind_at : (t : ℕ) (b : List ℕ) (m : BackMsg) → Is t m (whole (back_at t b))
kind_at t b m =
    next_kind t 82 m _ _ (of_kind 82 m back.Auth (auth_at b) (λ x. refl)) (
    next_kind t 83 m _ _ (of_kind 83 m back.Status (pair_at b) (λ x. refl)) (
    next_kind t 75 m _ _ (of_kind 75 m back.Key (key_at b) (λ x. refl)) (
    next_kind t 90 m _ _ (of_kind 90 m back.Ready (ready_at b) (λ x. refl)) (
    next_kind t 84 m _ _ (of_kind 84 m back.Columns (list_at column_at b) (λ x. refl)) (
    next_kind t 68 m _ _ (of_kind 68 m back.Row (list_at value_at b) (λ x. refl)) (
    next_kind t 67 m _ _ (of_kind 67 m back.Complete (text_at b) (λ x. refl)) (
    next_kind t 73 m _ _ (nullary 73 m back.Empty b refl) (
    next_kind t 69 m _ _ (of_kind 69 m back.Fault (fields_at b) (λ x. refl)) (
    next_kind t 78 m _ _ (of_kind 78 m back.Notice (fields_at b) (λ x. refl)) (
    next_kind t 65 m _ _ (of_kind 65 m back.Notify (notify_at b) (λ x. refl)) (
    next_kind t 49 m _ _ (nullary 49 m back.ParseDone b refl) (
    next_kind t 50 m _ _ (nullary 50 m back.BindDone b refl) (
    next_kind t 51 m _ _ (nullary 51 m back.CloseDone b refl) (
    next_kind t 116 m _ _ (of_kind 116 m back.ParamTypes (list_at (number_at w32) b) (λ x. refl)) (
    next_kind t 110 m _ _ (nullary 110 m back.NoRows b refl) (
    next_kind t 115 m _ _ (nullary 115 m back.Suspended b refl) (
    next_kind t 71 m _ _ (of_kind 71 m back.CopyIn (copy_at b) (λ x. refl)) (λ e. absurd (cc)))))))))))))))))))

pub kind_of : (f : Frame) (m : BackMsg) → back_of f ≡ Ok m → back_tag m ≡ f.tag
unfolding back_of
kind_of f m e = kind_at f.tag f.body m e
