-- Two runs of the stages over one list of messages.
use Rattle.std.proofs.Common.{◌≡◌, List, [], ◌∷◌, ◌++◌, refl, sym, ap, ◌∙◌, subst}
use Rattle.pgw_frames.specs.declared.frame.Frame.{Frame}
use Rattle.pgw_messages.specs.declared.params.Pair.{Pair}
use Rattle.session_model.specs.declared.transfer.TransferKey.{TransferKey}
use Rattle.transfer_stages.specs.Exchange.{wants, takes}
use Rattle.transfer_stages.specs.Taking.{Leads}
use Rattle.transfer_stages.specs.declared.stage.Stage.{Stage}
use Rattle.transfer_stages.specs.declared.stage.Want.{Want}

pub record OneEnd (fs gs us vs : List Frame) (y z : Stage) : Type 0 where
  pub frames : fs ≡ gs
  pub rest : us ≡ vs
  pub stage : y ≡ z

one_more : (f g : Frame) (fs gs us vs : List Frame) (y z : Stage) → f ≡ g → OneEnd fs gs us vs y z → OneEnd (f ∷ fs) (g ∷ gs) us vs y z
one_more f g fs gs us vs y z e r = record { frames = subst (λ (h : Frame). f ∷ fs ≡ h ∷ gs) e (ap (λ (v : List Frame). f ∷ v) r.frames); rest = r.rest; stage = r.stage }

-- that end where the pod isn't awaited end alike
pub one_end : (who : Want) (t : TransferKey) (p : List Pair) (x : Stage) (fs : List Frame) (y : Stage) (gs : List Frame) (z : Stage) (us vs : List Frame)
    → ¬ (wants y ≡ who) → ¬ (wants z ≡ who) → Leads who t p x fs y → Leads who t p x gs z → fs ++ us ≡ gs ++ vs → OneEnd fs gs us vs y z
one_end who t p x [] y [] z us vs v w h k e = record { frames = refl; rest = e; stage = sym h ∙ k }
one_end who t p x [] y (g ∷ gs) z us vs v w h k e = absurd (v (ap wants (sym h) ∙ k.0))
one_end who t p x (f ∷ fs) y [] z us vs v w h k e = absurd (w (ap wants (sym k) ∙ h.0))
one_end who t p x (f ∷ fs) y (g ∷ gs) z us vs v w h k e =
    let head : f ≡ g = cc in
    let tail : fs ++ us ≡ gs ++ vs = cc in
    let led = subst (λ (q : Frame). Leads who t p (takes t p x q) gs z) (sym head) k.1 in
    one_more f g fs gs us vs y z head (one_end who t p (takes t p x f) fs y gs z us vs v w h.1 led tail)

-- one that ends where it isn't awaited doesn't end before one at whose end it is
pub not_before : (who : Want) (t : TransferKey) (p : List Pair) (x : Stage) (fs : List Frame) (y : Stage) (gs : List Frame) (z : Stage) (us : List Frame)
    → ¬ (wants y ≡ who) → wants z ≡ who → Leads who t p x fs y → Leads who t p x gs z → fs ++ us ≡ gs → ⊥
not_before who t p x [] y [] z us v w h k e = v (ap wants (sym h ∙ k) ∙ w)
not_before who t p x [] y (g ∷ gs) z us v w h k e = v (ap wants (sym h) ∙ k.0)
not_before who t p x (f ∷ fs) y [] z us v w h k e = absurd cc
not_before who t p x (f ∷ fs) y (g ∷ gs) z us v w h k e =
    let head : f ≡ g = cc in
    let tail : fs ++ us ≡ gs = cc in
    let led = subst (λ (q : Frame). Leads who t p (takes t p x q) gs z) (sym head) k.1 in
    not_before who t p (takes t p x f) fs y gs z us v w h.1 led tail
