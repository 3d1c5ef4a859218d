-- The table of a text.
use Rattle.std.proofs.Common.{◌≡◌, Bool, true, false, List, ℕ, Some, None, Err, refl}
use Rattle.std.specs.Str.{IsUtf8, is_utf8}
use Rattle.std.proofs.lemmas.Str.{IsUtf8-from_is_utf8, is_utf8-from_IsUtf8}
use Rattle.toml.specs.Data.{Members}
use Rattle.toml.specs.Parse.{parse_document}
use Rattle.proxy_config.specs.declared.fault.SettingsFault.TheVariants.{NotToml}
use Rattle.pod_config.specs.Settings.{settings_of, settings_of_text}

untold_by : (text : List ℕ) (b : Bool) → is_utf8 text ≡ b → ¬ IsUtf8 text → settings_of_text text ≡ Err NotToml
untold_by text true e bad = absurd (bad (IsUtf8-from_is_utf8 text e))
untold_by text false e bad = rw e refl

-- a text that isn't UTF-8
pub no_text : (text : List ℕ) → ¬ IsUtf8 text → settings_of_text text ≡ Err NotToml
no_text text bad = untold_by text (is_utf8 text) refl bad

-- a text that is
pub with_table : (text : List ℕ) (members : Members) → IsUtf8 text → parse_document text ≡ Some members → settings_of_text text ≡ settings_of members
with_table text members is e = rw (is_utf8-from_IsUtf8 text is, e) refl

pub without_table : (text : List ℕ) → IsUtf8 text → parse_document text ≡ None → settings_of_text text ≡ Err NotToml
without_table text is e = rw (is_utf8-from_IsUtf8 text is, e) refl
