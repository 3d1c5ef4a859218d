-- The types of the old pod's messages, up to a stage at which it is awaited.
use Rattle.std.proofs.Common.{◌≡◌, ℕ, List, [], ◌∷◌, ◌++◌, length, drop, refl, sym, ap, ◌∙◌, append_assoc}
use Rattle.pgw_frames.specs.declared.frame.Frame.{Frame}
use Rattle.pgw_messages.specs.declared.params.Pair.{Pair}
use Rattle.proxy_outside.specs.Reading.{Origin}
use Rattle.session_model.specs.declared.transfer.TransferKey.{TransferKey}
use Rattle.session_trace.specs.Transfers.{tags_of}
use Rattle.transfer_stages.specs.Exchange.{wants}
use Rattle.transfer_stages.specs.Taking.{Leads}
use Rattle.transfer_stages.specs.declared.stage.Stage.{Stage}
use Rattle.transfer_stages.specs.declared.stage.Stage.TheVariants as at
use Rattle.transfer_stages.specs.declared.stage.Want.TheVariants.{AwaitOld}
use Rattle.transfer_stages.proofs.OldReply.{goes_on}
use Rattle.link_transfer.specs.Telling.{OldSo, tags, dues, all_dues}
use Rattle.transfer_laws.proofs.OldHeard.{dues_by, tags_both}
use Rattle.transfer_laws.proofs.Tags.{accepted_tags}

pub same_tags : (fs : List Frame) → tags_of fs ≡ tags fs
same_tags [] = refl
same_tags (f ∷ fs) = ap (λ (ts : List ℕ). f.tag ∷ ts) (same_tags fs)

behind : (fs : List Frame) (ts : List ℕ) → drop (length fs) (tags fs ++ ts) ≡ ts
behind [] ts = refl
behind (f ∷ fs) ts = behind fs ts

-- those that led there, and then those that are due
led_tags : (t : TransferKey) (p : List Pair) (fs : List Frame) (x : Stage) → Leads AwaitOld t p at.OldColumns fs x → wants x ≡ AwaitOld → tags fs ++ dues x ≡ all_dues
led_tags t p fs x h w =
    let g = goes_on t p fs x (h, w) in
    let all : tags fs ++ tags g.0 ≡ all_dues = sym (tags_both fs g.0) ∙ accepted_tags t p (fs ++ g.0) g.1.0 g.1.1 in
    let due : dues x ≡ tags g.0 = dues_by t p at.OldColumns fs x h w ∙ ap (λ (ts : List ℕ). drop (length fs) ts) (sym all) ∙ behind fs (tags g.0) in
    ap (λ (ts : List ℕ). tags fs ++ ts) due ∙ all

-- and those that were dropped
pub so_tags : (t : TransferKey) (p : List Pair) (w : ℕ) (one two : Origin) (x : Stage) (dropped : List Frame) (more : List ℕ) (so : OldSo t p w one two x dropped more) → wants x ≡ AwaitOld → tags (so.frames ++ dropped) ++ more ≡ all_dues
so_tags t p w one two x dropped more so h =
    ap (λ (ts : List ℕ). ts ++ more) (tags_both so.frames dropped) ∙ append_assoc (tags so.frames) (tags dropped) more
    ∙ ap (λ (ts : List ℕ). tags so.frames ++ ts) so.due ∙ led_tags t p so.frames x so.leads h
