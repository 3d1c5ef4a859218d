-- A walk goes on, or ends at its first fault.
use Rattle.std.proofs.Common.{◌≡◌, ℕ, ◌+◌, ◌<◌, List, [], ◌∷◌, ◌++◌, length, drop, get_or, Ok, refl, sym, ◌∙◌}
use Rattle.proxy_config.specs.declared.fault.SettingsFault.{SettingsFault}
use Rattle.proxy_config.specs.declared.fault.SettingsFault.TheVariants as fault
use Rattle.toml.specs.Data.{Data}
use Rattle.toml.specs.View.{view, items_view}
use Rattle.toml.specs.declared.value.Value.{Value}
use Rattle.toml.proofs.Views.{items_view-drop}
use Rattle.proxy_config.specs.Reading.{Reading, ◌>>=◌, Fails, item_key, entries}

pub bind_fails : {A B : Type 0} (e : SettingsFault) (read : Reading A) (f : A → Reading B) → Fails e read → Fails e (read >>= f)
bind_fails fault.NotToml read f h = rw h refl
bind_fails (fault.UnknownKey key) read f h = rw h refl
bind_fails (fault.Missing key) read f h = rw h refl
bind_fails (fault.WrongKind key) read f h = rw h refl
bind_fails (fault.OutOfRange key) read f h = rw h refl
bind_fails (fault.BadNet key) read f h = rw h refl
bind_fails (fault.BadPlace key) read f h = rw h refl
bind_fails (fault.Twice key) read f h = rw h refl
bind_fails fault.NoMemory read f h = tt

pub fails_as : {A : Type 0} (e : SettingsFault) (read other : Reading A) → read ≡ other → Fails e read → Fails e other
fails_as e read other same h = rw (← same) h

-- ---- entries one after the other, as a loop reads them

-- an entry, read from what is at hand
at_hand : {A : Type 0} (at : List A → List ℕ → Data → Reading A) (key : List ℕ) (before : List A) (xs : List Value) (i : ℕ) (v : Value) (b : List A) (k : List ℕ) → v ≡ get_or xs i v → b ≡ before → k ≡ item_key key (length before)
    → at b k (view v) ≡ at before (item_key key (length before)) (view (get_or xs i v))
at_hand at key before xs i v b k here behind named = λ j. at (behind j) (named j) (view (here j))

pub goes_on : {A : Type 0} (at : List A → List ℕ → Data → Reading A) (key : List ℕ) (before : List A) (xs : List Value) (i : ℕ) (v : Value) (b : List A) (k : List ℕ) (x : A) (total : Reading (List A)) → i < length xs → v ≡ get_or xs i v → b ≡ before → k ≡ item_key key (length before)
    → at b k (view v) ≡ Ok x → entries at key before (items_view (drop i xs)) ≡ total → entries at key (before ++ x ∷ []) (items_view (drop (i + 1) xs)) ≡ total
goes_on at key before xs i v b k x total lt here behind named h so_far =
    let read = sym (at_hand at key before xs i v b k here behind named) ∙ h in
    let one : entries at key before (items_view (drop i xs)) ≡ entries at key (before ++ x ∷ []) (items_view (drop (i + 1) xs)) = rw (items_view-drop xs i v lt, read) refl in
    sym one ∙ so_far

pub stops : {A : Type 0} (e : SettingsFault) (at : List A → List ℕ → Data → Reading A) (key : List ℕ) (before : List A) (xs : List Value) (i : ℕ) (v : Value) (b : List A) (k : List ℕ) (total : Reading (List A)) → i < length xs → v ≡ get_or xs i v → b ≡ before → k ≡ item_key key (length before)
    → Fails e (at b k (view v)) → entries at key before (items_view (drop i xs)) ≡ total → Fails e total
stops e at key before xs i v b k total lt here behind named h so_far =
    let read = fails_as e (at b k (view v)) (at before (item_key key (length before)) (view (get_or xs i v))) (at_hand at key before xs i v b k here behind named) h in
    let whole : entries at key before (items_view (drop i xs)) ≡ (at before (item_key key (length before)) (view (get_or xs i v)) >>= λ x. entries at key (before ++ x ∷ []) (items_view (drop (i + 1) xs))) = rw (items_view-drop xs i v lt) refl in
    fails_as e (at before (item_key key (length before)) (view (get_or xs i v)) >>= λ x. entries at key (before ++ x ∷ []) (items_view (drop (i + 1) xs))) total (sym whole ∙ so_far)
    (bind_fails e (at before (item_key key (length before)) (view (get_or xs i v))) (λ x. entries at key (before ++ x ∷ []) (items_view (drop (i + 1) xs))) read)
