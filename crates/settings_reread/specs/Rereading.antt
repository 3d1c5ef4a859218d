-- What a further reading of settings gives.
use Rattle.std.specs.Prelude.{◌≡◌, ◌≢◌, ◌≤◌, ◌<◌, ℕ, List, length, Ok, Err}
use Rattle.proxy_outside.specs.Reading.{Origin, Takes, Rose}
use Rattle.proxy_config.specs.declared.fault.SettingsFault.TheVariants as fault
use Rattle.proxy_config.specs.Settings.{settings_of_text}
use Rattle.settings_check.specs.Inputs.{most_bytes, IsWhole, IsCut, WasLate}
use Rattle.settings_reread.specs.declared.last_text.Reread.{Reread as News}
use Rattle.settings_reread.specs.declared.last_text.Reread.TheVariants.{Same, Changed, BadSettings, ReadFault, TooLong, Late, NoMemory}

-- this text was read whole; the last text before and behind
abbrev pub NewsBy : News → List ℕ → List ℕ → List ℕ → Type 0
NewsBy Same old new text = (text ≡ old) × (new ≡ old)
NewsBy (Changed s) old new text = (text ≢ old) × (settings_of_text text ≡ Ok s) × (new ≡ text)
NewsBy (BadSettings f) old new text = (text ≢ old) × (settings_of_text text ≡ Err f) × (f ≢ fault.NoMemory) × (new ≡ text)
NewsBy NoMemory old new text = new ≡ old
NewsBy ReadFault old new text = ⊥
NewsBy TooLong old new text = ⊥
NewsBy (Late n) old new text = ⊥

-- this text was taken; the last text before and behind
abbrev pub RereadCase : News → List ℕ → List ℕ → Origin → Origin → List ℕ → Type 0
RereadCase Same old new before now text = IsWhole now text × NewsBy Same old new text
RereadCase (Changed s) old new before now text = IsWhole now text × NewsBy (Changed s) old new text
RereadCase (BadSettings f) old new before now text = IsWhole now text × NewsBy (BadSettings f) old new text
RereadCase NoMemory old new before now text = (length text ≤ most_bytes) × (new ≡ old)
RereadCase ReadFault old new before now text = Rose before.faults now.faults × IsCut now text × (new ≡ old)
RereadCase TooLong old new before now text = (most_bytes < length text) × (new ≡ old)
RereadCase (Late n) old new before now text = WasLate before now n × IsCut now text × (new ≡ old)

abbrev pub Rereads : News → List ℕ → List ℕ → Origin → Origin → Type 0
Rereads r old new before now = (text : List ℕ) × Takes before now text × RereadCase r old new before now text
