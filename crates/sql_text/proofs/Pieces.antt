-- Pieces printed one behind the other.
use Rattle.std.proofs.Common.{◌≡◌, ℕ, List, ◌++◌, ap, ◌∙◌, append_assoc}

pub both : (s a b x : List ℕ) → x ≡ s ++ a ++ b → x ≡ s ++ (a ++ b)
both s a b x e = e ∙ append_assoc s a b

pub then_more : (s a b x y : List ℕ) → x ≡ s ++ a → y ≡ x ++ b → y ≡ s ++ (a ++ b)
then_more s a b x y e f = f ∙ ap (λ (t : List ℕ). t ++ b) e ∙ append_assoc s a b

-- a piece, items, and a closing bracket
pub closed : (s a before items close w x y z : List ℕ) → w ≡ s ++ a → x ≡ w ++ before → y ≡ x ++ items → z ≡ y ++ close → z ≡ s ++ (a ++ before ++ items ++ close)
closed s a before items close w x y z e f g h =
    then_more s (a ++ before ++ items) close y z (then_more s (a ++ before) items x y (then_more s a before w x e f) g) h
