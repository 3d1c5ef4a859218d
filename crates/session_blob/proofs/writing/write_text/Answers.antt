use Rattle.std.proofs.Common.{◌≡◌, List, ℕ, true, subst}
use Rattle.std.specs.Str.{is_utf8}
use Rattle.std.proofs.lemmas.Str.{is_utf8-from_IsUtf8}
use Rattle.session_blob.proofs.writing.write_text.Goals as goal

pub returns-clause-good : goal.returns-clause-good
returns-clause-good c = subst (λ (t : List ℕ). is_utf8 t ≡ true) c.as_bytes.ensures.value (is_utf8-from_IsUtf8 c.as_bytes.result.now c.as_bytes.ensures.utf8)
