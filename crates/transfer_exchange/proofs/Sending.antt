-- The texts at the stages that send one, and the stage behind a frame.
use Rattle.std.proofs.Common.{◌≡◌, ℕ, List, sym, ap, ◌∙◌}
use Rattle.std.specs.Result.{OnErr, IfOk}
use Rattle.std.specs.declared.result.Result.{Result}
use Rattle.std.specs.declared.result.Result.TheVariants.{Ok, Err}
use Rattle.std.proofs.lemmas.Result.{IfOk-weaker}
use Rattle.pgw_frames.specs.Frames.{frame_bytes}
use Rattle.session_model.specs.Texts.{query, transfer_text, transfer_query, restore_text, restore_query}
use Rattle.transfer_stages.specs.declared.stage.Stage.TheVariants as at
use Rattle.pgw_messages.specs.declared.pod_key.PodKey.{PodKey}
use Rattle.std.specs.Prelude.{Option}
use Rattle.transfer_exchange.specs.Course.{Course, text_at}

pub on_err : {T E : Type 0} (r : Result T E) (P : Type 0) → P → OnErr r P
on_err (Ok x) P h = tt
on_err (Err e) P h = h

abbrev text_of : Course → List ℕ
text_of e = text_at e.key e.params e.stage

pub asked : {E : Type 0} (d e : Course) (t : List ℕ) (r : Result (List ℕ) E) → d ≡ e → d.stage ≡ at.AskOld → t ≡ transfer_text d.key → IfOk r (λ b. b ≡ frame_bytes (query t)) → IfOk r (λ b. b ≡ text_at e.key e.params e.stage)
unfolding transfer_query
asked d e t r same x is h =
    IfOk-weaker r (λ b. b ≡ frame_bytes (query t)) (λ b. b ≡ text_of e)
    (λ b s. s ∙ ap (λ (u : List ℕ). frame_bytes (query u)) is ∙ sym (ap (text_at d.key d.params) x) ∙ ap text_of same) h

pub restored : {E : Type 0} (d e : Course) (state : List ℕ) (key : Option PodKey) (t : List ℕ) (r : Result (List ℕ) E) → d ≡ e → d.stage ≡ at.Restore state key → t ≡ restore_text state → IfOk r (λ b. b ≡ frame_bytes (query t))
    → IfOk r (λ b. b ≡ text_at e.key e.params e.stage)
unfolding restore_query
restored d e state key t r same x is h =
    IfOk-weaker r (λ b. b ≡ frame_bytes (query t)) (λ b. b ≡ text_of e)
    (λ b s. s ∙ ap (λ (u : List ℕ). frame_bytes (query u)) is ∙ sym (ap (text_at d.key d.params) x) ∙ ap text_of same) h
