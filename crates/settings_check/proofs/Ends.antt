-- How the check of a whole text ends.
use Rattle.std.proofs.Common.{◌≡◌, ◌⊎◌, ℕ, List, inl, inr, refl, sym, ◌∙◌}
use Rattle.std.specs.Prelude.{Ok}
use Rattle.proxy_outside.specs.Reading.{Origin, Rose}
use Rattle.proxy_outside.specs.Writing.{Target}
use Rattle.proxy_config.specs.declared.settings.Settings.{Settings}
use Rattle.proxy_config.specs.Settings.{settings_of_text}
use Rattle.settings_check.specs.Inputs.{IsWhole}
use Rattle.settings_check.specs.Checking.{AnswersBy, TextCase}
use Rattle.settings_check.specs.declared.question.Question.{Question}
use Rattle.settings_check.specs.declared.status.CheckStatus.{CheckStatus}
use Rattle.settings_check.specs.declared.status.CheckStatus.TheVariants.{Done, Usage, BadSettings, ReadFault, WriteFault, NoMemory, TooLong, Late}

pub text_case : (status : CheckStatus) (old new : Origin) (so sn : Target) (text : List ℕ) (q : Question) → IsWhole new text → AnswersBy status text q so sn → TextCase status old new so sn text q
text_case Done old new so sn text q w h = (w, h)
text_case WriteFault old new so sn text q w h = (w, h)
text_case (BadSettings f) old new so sn text q w h = (w, h)
text_case NoMemory old new so sn text q w h = (w.1, h)
text_case Usage old new so sn text q w h = absurd h
text_case ReadFault old new so sn text q w h = absurd h
text_case TooLong old new so sn text q w h = absurd h
text_case (Late n) old new so sn text q w h = absurd h

pub completes : (status : CheckStatus) (so sn : Target) (text : List ℕ) (q : Question) (s : Settings) → AnswersBy status text q so sn → (Rose so.faults sn.faults → ⊥) → settings_of_text text ≡ Ok s → (status ≡ Done) ⊎ (status ≡ NoMemory)
completes Done so sn text q s h sound e = inl refl
completes NoMemory so sn text q s h sound e = inr refl
completes WriteFault so sn text q s h sound e = absurd (sound h.1.rose)
completes (BadSettings f) so sn text q s h sound e = absurd (let no = sym h.0 ∙ e in cc)
completes Usage so sn text q s h sound e = absurd h
completes ReadFault so sn text q s h sound e = absurd h
completes TooLong so sn text q s h sound e = absurd h
completes (Late n) so sn text q s h sound e = absurd h
