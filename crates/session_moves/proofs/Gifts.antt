-- Answers in which the old pod gives no state.
use Rattle.std.proofs.Common.{◌≡◌, ◌≢◌, ℕ, Bool, true, false, List, [], ◌∷◌, ◌++◌, length, Option, Some, None, refl, sym, ap, subst, ◌∙◌, arith, append-nil, length-append}
use Rattle.std.specs.Prelude.{if◌then◌else◌}
use Rattle.std.specs.List.{AllByRecursion}
use Rattle.pgw_frames.specs.declared.frame.Frame.{Frame}
use Rattle.pgw_frames.specs.Frames.{IsGood, frames, frame_bytes, render}
use Rattle.pgw_frames.proofs.Longest.{frames_of_render}
use Rattle.pgw_messages.specs.declared.params.Pair.{Pair}
use Rattle.session_model.specs.declared.transfer.TransferKey.{TransferKey}
use Rattle.session_asks.specs.Dialing.{GivesState}
use Rattle.session_trace.proofs.Bytes.{frames_rendered, render_append}
use Rattle.transfer_stages.specs.Accepts.{AcceptsOld, FitsReady}
use Rattle.transfer_stages.specs.Exchange.{takes, said, has_key, by_error, row_said, old_ends, old_unexpected}
use Rattle.transfer_stages.specs.Rows.{row_of}
use Rattle.transfer_stages.specs.Taking.{Leads, end_of}
use Rattle.transfer_stages.specs.declared.stage.Said.{Said}
use Rattle.transfer_stages.specs.declared.stage.Said.TheVariants.{Given, Refuses}
use Rattle.transfer_stages.specs.declared.stage.Stage.{Stage}
use Rattle.transfer_stages.specs.declared.stage.Stage.TheVariants as at
use Rattle.transfer_stages.specs.declared.stage.Want.TheVariants.{AwaitOld, Ended}
use Rattle.link_transfer.specs.Telling.{tags, all_dues}
use Rattle.link_transfer.proofs.Messages.{good_both}
use Rattle.transfer_laws.proofs.OldHeard.{tags_both}
use Rattle.transfer_laws.proofs.Tags.{accepted_tags}
use Rattle.session_moves.proofs.Lists.{some_is}

-- ---- what a row says doesn't depend on whose key it is read for

alike_by : (a b : Bool) (o : Option Said) (r s : Said) → (if a then o else None) ≡ Some r → (if b then o else None) ≡ Some s → r ≡ s
alike_by true true o r s h k = some_is r s (sym h ∙ k)
alike_by true false o r s h k = absurd cc
alike_by false b o r s h k = absurd cc

said_alike : (t u : TransferKey) (p : List Pair) (vs : Option (List (Option (List ℕ)))) (r s : Said) → said t p vs ≡ Some r → said u p vs ≡ Some s → r ≡ s
said_alike t u p (Some (error ∷ state ∷ token ∷ key ∷ [])) r s h k = alike_by (has_key t key) (has_key u key) (by_error p error state token) r s h k
said_alike t u p (Some (error ∷ state ∷ token ∷ key ∷ more ∷ vs)) r s h k = absurd cc
said_alike t u p (Some (error ∷ state ∷ token ∷ [])) r s h k = absurd cc
said_alike t u p (Some (error ∷ state ∷ [])) r s h k = absurd cc
said_alike t u p (Some (error ∷ [])) r s h k = absurd cc
said_alike t u p (Some []) r s h k = absurd cc
said_alike t u p None r s h k = absurd cc

-- ---- messages that are an accepted reply for another key lead to what that says

ends_by : (s : Said) (f : Frame) → FitsReady s f → old_ends f s ≡ end_of s
ends_by (Given state token) f h = ap (λ (b : Bool). if b then at.Dial state token else old_unexpected f) h
ends_by (Refuses reason) f h = ap (λ (b : Bool). if b then end_of (Refuses reason) else old_unexpected f) h

module _ (t u : TransferKey) (p : List Pair) (fs : List Frame) (x : Stage) (s : Said) (a : AcceptsOld u p fs s) where
  behind_tag : Leads AwaitOld t p (at.OldTag s) (a.tag ∷ a.ready ∷ []) x → x ≡ end_of s
  unfolding takes
  behind_tag h =
      let on : takes t p (at.OldTag s) a.tag ≡ at.OldReady s = ap (λ (b : Bool). if b then at.OldReady s else old_unexpected a.tag) a.ends in
      let last : Leads AwaitOld t p (at.OldReady s) (a.ready ∷ []) x = subst (λ (z : Stage). Leads AwaitOld t p z (a.ready ∷ []) x) on h.1 in
      sym last.1 ∙ ends_by s a.ready a.fits

  behind_row : (o : Option Said) → said t p (row_of a.values) ≡ o → Leads AwaitOld t p (row_said a.values o) (a.tag ∷ a.ready ∷ []) x → x ≡ end_of s
  behind_row None e h = absurd (let no : Ended ≡ AwaitOld = h.0 in cc)
  behind_row (Some r) e h = behind_tag (subst (λ (v : Said). Leads AwaitOld t p (at.OldTag v) (a.tag ∷ a.ready ∷ []) x) (said_alike t u p (row_of a.values) r s e a.says) h)

  leads_there : Leads AwaitOld t p at.OldColumns fs x → x ≡ end_of s
  unfolding takes
  leads_there h =
      let all : Leads AwaitOld t p at.OldColumns (a.columns ∷ a.values ∷ a.tag ∷ a.ready ∷ []) x = subst (λ (gs : List Frame). Leads AwaitOld t p at.OldColumns gs x) a.whole h in
      let on : takes t p at.OldColumns a.columns ≡ at.OldRow = ap (λ (b : Bool). if b then at.OldRow else old_unexpected a.columns) a.named in
      let row : Leads AwaitOld t p at.OldRow (a.values ∷ a.tag ∷ a.ready ∷ []) x = subst (λ (z : Stage). Leads AwaitOld t p z (a.values ∷ a.tag ∷ a.ready ∷ []) x) on all.1 in
      behind_row (said t p (row_of a.values)) refl row.1

-- ---- no state is given

given_frames : (p : List Pair) (answer : List ℕ) (g : GivesState p answer) → g.0.fs ≡ frames answer
given_frames p answer g = sym (frames_rendered g.0.fs g.0.good) ∙ sym (ap frames g.0.bytes)

-- by messages that led elsewhere
pub led_gives_none : (t : TransferKey) (p : List Pair) (fs : List Frame) (x : Stage) → AllByRecursion IsGood fs → Leads AwaitOld t p at.OldColumns fs x → ((state token : List ℕ) → x ≢ at.Dial state token) → GivesState p (render fs) → ⊥
led_gives_none t p fs x good leads other g =
    let same : g.0.fs ≡ fs = given_frames p (render fs) g ∙ frames_rendered fs good in
    let a : AcceptsOld g.1 p fs (Given g.2 g.3) = subst (λ (gs : List Frame). AcceptsOld g.1 p gs (Given g.2 g.3)) same g.4 in
    other g.2 g.3 (leads_there t g.1 p fs x (Given g.2 g.3) a leads)

given_tags : (p : List Pair) (answer : List ℕ) (fs : List Frame) → frames answer ≡ fs → GivesState p answer → tags fs ≡ all_dues
given_tags p answer fs e g = ap tags (sym e ∙ sym (given_frames p answer g)) ∙ accepted_tags g.1 p g.0.fs (Given g.2 g.3) g.4

-- by fewer messages
pub few_give_none : (p : List Pair) (fs : List Frame) (part : List ℕ) (d : ℕ) (ds : List ℕ) → AllByRecursion IsGood fs → tags fs ++ d ∷ ds ≡ all_dues → frames part ≡ [] → GivesState p (render fs ++ part) → ⊥
few_give_none p fs part d ds good due none g =
    let just : frames (render fs ++ part) ≡ fs = frames_of_render fs part good ∙ ap (λ (gs : List Frame). fs ++ gs) none ∙ append-nil fs in
    let all = ap length (given_tags p (render fs ++ part) fs just g) in
    let more = ap length due in
    absurd (omega (arith, all, more, length-append (tags fs) (d ∷ ds)))

last_same : (xs : List ℕ) (x d : ℕ) (ds : List ℕ) → xs ++ x ∷ [] ≡ xs ++ d ∷ ds → x ≡ d
last_same [] x d ds e = cc
last_same (y ∷ xs) x d ds e = last_same xs x d ds (let k : xs ++ x ∷ [] ≡ xs ++ d ∷ ds = cc in k)

-- or behind them by one of another type than was due
pub stray_gives_none : (p : List Pair) (fs : List Frame) (f : Frame) (d : ℕ) (ds : List ℕ) → AllByRecursion IsGood fs → IsGood f → tags fs ++ d ∷ ds ≡ all_dues → f.tag ≢ d → GivesState p (render fs ++ frame_bytes f) → ⊥
stray_gives_none p fs f d ds good one due other g =
    let all : List Frame = fs ++ f ∷ [] in
    let bytes : render fs ++ frame_bytes f ≡ render all = ap (λ (v : List ℕ). render fs ++ v) (sym (append-nil (frame_bytes f))) ∙ sym (render_append fs (f ∷ [])) in
    let just : frames (render fs ++ frame_bytes f) ≡ all = ap frames bytes ∙ frames_rendered all (good_both fs (f ∷ []) good (one, tt)) in
    let same : tags fs ++ f.tag ∷ [] ≡ tags fs ++ d ∷ ds = sym (tags_both fs (f ∷ [])) ∙ given_tags p (render fs ++ frame_bytes f) all just g ∙ sym due in
    other (last_same (tags fs) f.tag d ds same)
