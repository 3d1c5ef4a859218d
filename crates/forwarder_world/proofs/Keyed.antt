-- The frames that a client gets: those of the pod, with the client's key in the greeting.
use Rattle.std.proofs.Common.{◌≡◌, Bool, true, false, List, [], ◌∷◌, ◌++◌, map, refl, ap, subst}
use Rattle.std.specs.Prelude.{◌==◌, ◌||◌, if◌then◌else◌}
use Rattle.std.proofs.lemmas.Bool.{ne_eqb, eq-eqb}
use Rattle.pgw_frames.specs.declared.frame.Frame.{Frame}
use Rattle.pgw_frames.specs.Frames.{Begins}
use Rattle.session_model.specs.Kind.{EndsReady}
use Rattle.proxy_outside.specs.declared.identity.ClientKey.{ClientKey}
use Rattle.session_model.specs.Heard.{with_key, has_ready}

abbrev keyed_behind : Bool → List Frame → List Frame → List Frame
keyed_behind true plain changed = plain
keyed_behind false plain changed = changed

abbrev pub keyed : ClientKey → List Frame → List Frame
keyed key [] = []
keyed key (f ∷ fs) = with_key key f ∷ keyed_behind (f.tag == 90) fs (keyed key fs)

abbrev chosen : Bool → ClientKey → Frame → Frame
chosen true key f = f
chosen false key f = with_key key f

chosen_is : (b : Bool) (key : ClientKey) (f : Frame) → (if b then f else with_key key f) ≡ chosen b key f
chosen_is true key f = refl
chosen_is false key f = refl

push_by : (key : ClientKey) (g : Frame) (gs : List Frame) (f : Frame) (b : Bool) → keyed key (gs ++ f ∷ []) ≡ keyed key gs ++ chosen (has_ready gs) key f ∷ []
    → keyed_behind b (gs ++ f ∷ []) (keyed key (gs ++ f ∷ [])) ≡ keyed_behind b gs (keyed key gs) ++ chosen (b || has_ready gs) key f ∷ []
push_by key g gs f true h = refl
push_by key g gs f false h = h

alone : (b : Bool) → keyed_behind b [] [] ≡ []
alone true = refl
alone false = refl

keyed_push : (key : ClientKey) (fs : List Frame) (f : Frame) → keyed key (fs ++ f ∷ []) ≡ keyed key fs ++ chosen (has_ready fs) key f ∷ []
keyed_push key [] f = ap (λ t. with_key key f ∷ t) (alone (f.tag == 90))
keyed_push key (g ∷ gs) f = ap (λ t. with_key key g ∷ t) (push_by key g gs f (g.tag == 90) (keyed_push key gs f))

-- one more frame
pub keyed_next : (key : ClientKey) (fs : List Frame) (f : Frame) → keyed key (fs ++ f ∷ []) ≡ keyed key fs ++ (if has_ready fs then f else with_key key f) ∷ []
keyed_next key fs f = rw chosen_is (keyed_push key fs f)

begins_by : (key : ClientKey) (b : Bool) (fs more rest : List Frame) → keyed key fs ++ rest ≡ keyed key (fs ++ more)
    → Begins (keyed_behind b fs (keyed key fs)) (keyed_behind b (fs ++ more) (keyed key (fs ++ more)))
begins_by key true fs more rest h = (more, refl)
begins_by key false fs more rest h = (rest, h)

keyed_grows : (key : ClientKey) (fs more : List Frame) → Begins (keyed key fs) (keyed key (fs ++ more))
keyed_grows key [] more = (keyed key more, refl)
keyed_grows key (f ∷ fs) more =
    let o = keyed_grows key fs more in
    let n = begins_by key (f.tag == 90) fs more o.0 o.1 in
    (n.0, ap (λ t. with_key key f ∷ t) n.1)

pub begins_keyed : (key : ClientKey) (fs gs : List Frame) → Begins fs gs → Begins (keyed key fs) (keyed key gs)
begins_keyed key fs gs p = subst (λ t. Begins (keyed key fs) (keyed key t)) p.1 (keyed_grows key fs p.0)

-- behind a greeting nothing is changed
pub keyed_greeting : (key : ClientKey) (fs more : List Frame) → EndsReady fs → keyed key (fs ++ more) ≡ map (with_key key) fs ++ more
keyed_greeting key [] more e = absurd e
keyed_greeting key (f ∷ []) more e = let t : (f.tag == 90) ≡ true = eq-eqb f.tag 90 e in rw t refl
keyed_greeting key (f ∷ g ∷ fs) more e = let t : (f.tag == 90) ≡ false = ne_eqb f.tag 90 e.0 in rw t (ap (λ s. with_key key f ∷ s) (keyed_greeting key (g ∷ fs) more e.1))

or_last : (x y z w : Bool) → y ≡ (z || w) → (x || y) ≡ ((x || z) || w)
or_last true y z w e = refl
or_last false y z w e = e

or_false : (x : Bool) → (x || false) ≡ x
or_false true = refl
or_false false = refl

pub has_ready-push : (fs : List Frame) (f : Frame) → has_ready (fs ++ f ∷ []) ≡ (has_ready fs || (f.tag == 90))
has_ready-push [] f = or_false (f.tag == 90)
has_ready-push (g ∷ gs) f = or_last (g.tag == 90) (has_ready (gs ++ f ∷ [])) (has_ready gs) (f.tag == 90) (has_ready-push gs f)
