-- A state that its own types see to, and whose lists and bytes are few enough, has its bytes as a spelling.
use Rattle.std.proofs.Common.{◌≡◌, ℕ, ◌≤◌, Bool, true, false, Option, Some, None, List, [], ◌∷◌, length, map, nat_lt, cond, refl, arith}
use Rattle.std.proofs.lemmas.Bool.{ltb-false}
use Rattle.std.specs.List.{AllByRecursion, find}
use Rattle.session_blob.specs.Blob.{IsSound, IsSpelling, IsPrepared, HasTypes, state_bytes, most_blob, too_many, list_lengths}
use Rattle.session_blob.specs.Prepared.{Prepared}
use Rattle.session_blob.specs.declared.state.State.{State}

few_by : (n : ℕ) (o : Option ℕ) (b : Bool) → nat_lt 65535 n ≡ b → cond b (Some n) o ≡ None → (n ≤ 65535) × (o ≡ None)
few_by n o true e h = absurd (let q : Some n ≡ None = h in cc)
few_by n o false e h = (ltb-false 65535 n e, h)

few : (ns : List ℕ) → find (λ n. nat_lt 65535 n) ns ≡ None → AllByRecursion (λ n. n ≤ 65535) ns
few [] h = tt
few (n ∷ ns) h = let b = few_by n (find (λ n. nat_lt 65535 n) ns) (nat_lt 65535 n) refl h in (b.0, few ns b.1)

prepared : (xs : List Prepared) → AllByRecursion (λ n. n ≤ 65535) (map (λ (x : Prepared). length x.types) xs) → AllByRecursion (λ (x : Prepared). HasTypes x → IsPrepared x) xs → AllByRecursion IsPrepared xs
prepared [] few each = tt
prepared (x ∷ xs) few each = (each.0 few.0, prepared xs few.1 each.1)

pub spelled : (s : State) (b : List ℕ) → IsSound s → too_many s ≡ None → b ≡ state_bytes s → length b ≤ most_blob → IsSpelling s b
spelled s b sound none is within =
    let counts = few (list_lengths s) none in
    record {
      user = sound.user;
      database = sound.database;
      variables = record { count = counts.0; distinct = sound.variable_names; each = sound.variables };
      statements = record { count = counts.1.0; distinct = sound.statement_names; each = prepared s.statements counts.1.1 sound.statements };
      bytes = is;
      within = within;
    }
