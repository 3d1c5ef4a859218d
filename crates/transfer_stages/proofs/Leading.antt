-- Frames that lead from a stage to another, one after another.
use Rattle.std.proofs.Common.{◌≡◌, Bool, true, false, List, [], ◌∷◌, ◌++◌, refl, sym, ap, ◌∙◌, subst, ◌⊎◌, inl, inr}
use Rattle.std.specs.Prelude.{if◌then◌else◌}
use Rattle.pgw_frames.specs.declared.frame.Frame.{Frame}
use Rattle.pgw_messages.specs.declared.params.Pair.{Pair}
use Rattle.session_model.specs.declared.transfer.TransferKey.{TransferKey}
use Rattle.transfer_stages.specs.Taking.{Leads}
use Rattle.transfer_stages.specs.Exchange.{wants, takes}
use Rattle.transfer_stages.specs.declared.stage.Stage.{Stage}
use Rattle.transfer_stages.specs.declared.stage.Want.{Want}

-- nothing leads on from a stage at which the pod isn't awaited
pub stuck : (who : Want) (t : TransferKey) (p : List Pair) (x : Stage) (fs : List Frame) (y : Stage) → ¬ (wants x ≡ who) → Leads who t p x fs y → (fs ≡ []) × (x ≡ y)
stuck who t p x [] y other h = (refl, h)
stuck who t p x (f ∷ fs) y other h = absurd (other h.0)

-- a frame that is tested, where its refusal is no end that is sought
pub step : (who : Want) (t : TransferKey) (p : List Pair) (x : Stage) (f : Frame) (fs : List Frame) (y good bad : Stage) (b : Bool)
    → takes t p x f ≡ (if b then good else bad) → ¬ (wants bad ≡ who) → ¬ (bad ≡ y) → Leads who t p x (f ∷ fs) y → (b ≡ true) × Leads who t p good fs y
step who t p x f fs y good bad true e ended other h = (refl, subst (λ (z : Stage). Leads who t p z fs y) e h.1)
step who t p x f fs y good bad false e ended other h =
    let s = stuck who t p bad fs y ended (subst (λ (z : Stage). Leads who t p z fs y) e h.1) in
    absurd (other s.1)

pub step_back : (who : Want) (t : TransferKey) (p : List Pair) (x : Stage) (f : Frame) (fs : List Frame) (y good bad : Stage) (b : Bool)
    → takes t p x f ≡ (if b then good else bad) → wants x ≡ who → b ≡ true → Leads who t p good fs y → Leads who t p x (f ∷ fs) y
step_back who t p x f fs y good bad b e w is h =
    let to : takes t p x f ≡ good = e ∙ ap (λ (v : Bool). if v then good else bad) is in
    (w, subst (λ (z : Stage). Leads who t p z fs y) (sym to) h)

-- what comes behind frames that lead to a stage leads on from there
pub behind : (who : Want) (t : TransferKey) (p : List Pair) (x : Stage) (before : List Frame) (z : Stage) (fs : List Frame) (y : Stage)
    → Leads who t p x before z → Leads who t p x (before ++ fs) y → Leads who t p z fs y
behind who t p x [] z fs y h g = subst (λ (v : Stage). Leads who t p v fs y) h g
behind who t p x (f ∷ before) z fs y h g = behind who t p (takes t p x f) before z fs y h.1 g.1

pub joined : (who : Want) (t : TransferKey) (p : List Pair) (x : Stage) (before : List Frame) (z : Stage) (fs : List Frame) (y : Stage)
    → Leads who t p x before z → Leads who t p z fs y → Leads who t p x (before ++ fs) y
joined who t p x [] z fs y h g = subst (λ (v : Stage). Leads who t p v fs y) (sym h) g
joined who t p x (f ∷ before) z fs y h g = (h.0, joined who t p (takes t p x f) before z fs y h.1 g)

-- a frame is refused, or what holds of the next stage holds
pub refused_or : (Q : Stage → Type 0) (z good bad : Stage) (b : Bool) → z ≡ (if b then good else bad) → Q good → (z ≡ bad) ⊎ Q z
refused_or Q z good bad true e q = inr (subst Q (sym e) q)
refused_or Q z good bad false e q = inl e
