-- A text that was read whole, and what it has that is new.
use Rattle.std.proofs.Common.{◌≡◌, ◌≢◌, ℕ, true, false, List, ◌∙◌, sym, true≢false}
use Rattle.std.specs.Str.{bytes_eq}
use Rattle.std.proofs.lemmas.Slice.Eq.{bytes_eq-Decides}
use Rattle.proxy_outside.specs.Reading.{Origin}
use Rattle.settings_check.specs.Inputs.{IsWhole}
use Rattle.settings_reread.specs.Rereading.{NewsBy, RereadCase}
use Rattle.settings_reread.specs.declared.last_text.Reread.{Reread as News}
use Rattle.settings_reread.specs.declared.last_text.Reread.TheVariants.{Same, Changed, BadSettings, ReadFault, TooLong, Late, NoMemory}

pub same : (text old : List ℕ) → bytes_eq text old ≡ true → text ≡ old
same text old e = (bytes_eq-Decides text old).0 e

pub other : (text old : List ℕ) → bytes_eq text old ≡ false → text ≢ old
other text old e is = true≢false (sym ((bytes_eq-Decides text old).1 is) ∙ e)

pub whole_case : (r : News) (old new : List ℕ) (before now : Origin) (text : List ℕ) → IsWhole now text → NewsBy r old new text → RereadCase r old new before now text
whole_case Same old new before now text w h = (w, h)
whole_case (Changed s) old new before now text w h = (w, h)
whole_case (BadSettings f) old new before now text w h = (w, h)
whole_case NoMemory old new before now text w h = (w.1, h)
whole_case ReadFault old new before now text w h = absurd h
whole_case TooLong old new before now text w h = absurd h
whole_case (Late n) old new before now text w h = absurd h
