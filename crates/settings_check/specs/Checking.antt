-- How a check may end.
use Rattle.std.specs.Prelude.{◌≡◌, ◌≢◌, ◌≤◌, ◌<◌, ◌⊎◌, ℕ, List, length, Some, None, Ok, Err}
use Rattle.proxy_outside.specs.Reading.{Origin, Takes, Rose}
use Rattle.proxy_outside.specs.Writing.{Target}
use Rattle.link_io.specs.Reading.{RoseBy}
use Rattle.link_io.specs.Writing.{Wrote, WroteSome}
use Rattle.proxy_config.specs.declared.settings.Settings.{Settings}
use Rattle.proxy_config.specs.declared.fault.SettingsFault.TheVariants as fault
use Rattle.proxy_config.specs.Settings.{settings_of_text}
use Rattle.settings_check.specs.Inputs.{most_bytes, IsWhole, IsCut, WasLate}
use Rattle.settings_check.specs.Questions.{question_of}
use Rattle.settings_check.specs.Answers.{IsAnswer}
use Rattle.settings_check.specs.declared.question.Question.{Question}
use Rattle.settings_check.specs.declared.status.CheckStatus.{CheckStatus}
use Rattle.settings_check.specs.declared.status.CheckStatus.TheVariants.{Done, Usage, BadSettings, ReadFault, WriteFault, NoMemory, TooLong, Late}

-- the settings of the text, and the answer to the question
pub record Answered (text : List ℕ) (q : Question) : Type 0 where
  pub settings : Settings
  pub bytes : List ℕ
  pub read : settings_of_text text ≡ Ok settings
  pub answer : IsAnswer settings q bytes

-- by the status, how a text is answered to a sink
abbrev pub AnswersBy : CheckStatus → List ℕ → Question → Target → Target → Type 0
AnswersBy Done text q old new = (a : Answered text q) × Wrote old new a.bytes
AnswersBy WriteFault text q old new = (a : Answered text q) × WroteSome old new a.bytes
AnswersBy (BadSettings f) text q old new = (settings_of_text text ≡ Err f) × (f ≢ fault.NoMemory) × (new ≡ old)
AnswersBy NoMemory text q old new = new ≡ old
AnswersBy Usage text q old new = ⊥
AnswersBy ReadFault text q old new = ⊥
AnswersBy TooLong text q old new = ⊥
AnswersBy (Late n) text q old new = ⊥

-- by the status, where this text was taken from the source
abbrev pub TextCase : CheckStatus → Origin → Origin → Target → Target → List ℕ → Question → Type 0
TextCase Done old new sink_old sink_new text q = IsWhole new text × AnswersBy Done text q sink_old sink_new
TextCase WriteFault old new sink_old sink_new text q = IsWhole new text × AnswersBy WriteFault text q sink_old sink_new
TextCase (BadSettings f) old new sink_old sink_new text q = IsWhole new text × AnswersBy (BadSettings f) text q sink_old sink_new
TextCase NoMemory old new sink_old sink_new text q = (length text ≤ most_bytes) × (sink_new ≡ sink_old)
TextCase ReadFault old new sink_old sink_new text q = Rose old.faults new.faults × IsCut new text × (sink_new ≡ sink_old)
TextCase TooLong old new sink_old sink_new text q = (most_bytes < length text) × (sink_new ≡ sink_old)
TextCase (Late n) old new sink_old sink_new text q = WasLate old new n × IsCut new text × (sink_new ≡ sink_old)
TextCase Usage old new sink_old sink_new text q = ⊥

-- this text was taken from the source, and that is why the check ended
abbrev pub ChecksText : Question → Origin → Origin → Target → Target → CheckStatus → Type 0
ChecksText q old new sink_old sink_new status = (text : List ℕ) × Takes old new text × TextCase status old new sink_old sink_new text q

-- nothing was read or written, and that is so by the words, or for want of memory
abbrev pub IsNoCheck : List (List ℕ) → Origin → Origin → Target → Target → CheckStatus → Type 0
IsNoCheck words old new sink_old sink_new status = (new ≡ old) × (sink_new ≡ sink_old) × (((question_of words ≡ None) × (status ≡ Usage)) ⊎ (status ≡ NoMemory))

abbrev pub Checks : List (List ℕ) → Origin → Origin → Target → Target → CheckStatus → Type 0
Checks words old new sink_old sink_new status =
    ((q : Question) × (question_of words ≡ Some q) × ChecksText q old new sink_old sink_new status)
    ⊎ IsNoCheck words old new sink_old sink_new status

-- No fault, few idle reads, and good settings within the limit: then the question is answered whole, unless memory
-- ran out.
abbrev pub CompletesText : Origin → Origin → Target → Target → CheckStatus → Type 0
CompletesText old new sink_old sink_new status =
    (¬ Rose old.faults new.faults) → (¬ Rose sink_old.faults sink_new.faults) → (¬ RoseBy old.waits 1000 new.waits)
    → ((text : List ℕ) → Takes old new text → (length text ≤ most_bytes) × ((s : Settings) × (settings_of_text text ≡ Ok s)))
    → (status ≡ Done) ⊎ (status ≡ NoMemory)

abbrev pub Completes : List (List ℕ) → Origin → Origin → Target → Target → CheckStatus → Type 0
Completes words old new sink_old sink_new status = question_of words ≢ None → CompletesText old new sink_old sink_new status
