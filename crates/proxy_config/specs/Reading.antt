-- What a reading gives, and what a call answers.
use Rattle.std.specs.Prelude.{◌≡◌, ◌&&◌, ℕ, ℤ, pos, negsuc, nat_le, if◌then◌else◌, List, ◌++◌, ◌∷◌, [], length, codes, Option, Some, None, option_and_then, ok_or, Result, Ok, Err}
use Rattle.std.specs.Fmt.{decimal}
use Rattle.toml.specs.Data.{Data, as_str, as_integer, Items, no_items, item}
use Rattle.access_lists.specs.declared.net.Net.{Net}
use Rattle.proxy_config.specs.declared.settings.Spot.{Spot}
use Rattle.proxy_config.specs.declared.fault.SettingsFault.{SettingsFault}
use Rattle.proxy_config.specs.declared.fault.SettingsFault.TheVariants.{WrongKind, OutOfRange, BadNet, BadPlace, NoMemory}
use Rattle.proxy_config.specs.Texts.{net_of, spot_of}

abbrev pub Reading : Type 0 → Type 0
Reading A = Result A SettingsFault

infixl 10 ◌>>=◌
abbrev pub ◌>>=◌ : {A B : Type 0} → Result A SettingsFault → (A → Result B SettingsFault) → Result B SettingsFault
(Ok x) >>= f = f x
(Err e) >>= f = Err e

-- the fault is that of the reading, unless memory ran out
abbrev pub Fails : {A : Type 0} → SettingsFault → Result A SettingsFault → Type 0
Fails NoMemory read = Unit {0}
Fails e read = read ≡ Err e

-- the answer, with its value seen so, is what the reading gives, unless memory ran out
abbrev pub GivesAs : {X A : Type 0} → (X → A) → Result X SettingsFault → Result A SettingsFault → Type 0
GivesAs view (Ok x) read = read ≡ Ok (view x)
GivesAs view (Err e) read = Fails e read

abbrev pub Gives : {A : Type 0} → Result A SettingsFault → Result A SettingsFault → Type 0
Gives r read = GivesAs (λ x. x) r read

-- ---- a value at a key, which a fault names

abbrev pub natural : ℤ → Option ℕ
natural (pos n) = Some n
natural (negsuc n) = None

abbrev pub within : ℕ → ℕ → ℕ → Option ℕ
within least most n = if nat_le least n && nat_le n most then Some n else None

-- a whole number in this range
abbrev pub number_at : ℕ → ℕ → List ℕ → Data → Reading ℕ
number_at least most key d = ok_or (as_integer d) (WrongKind key) >>= λ z. ok_or (option_and_then (within least most) (natural z)) (OutOfRange key)

abbrev pub text_at : List ℕ → Data → Reading (List ℕ)
text_at key d = ok_or (as_str d) (WrongKind key)

abbrev pub net_at : List ℕ → Data → Reading Net
net_at key d = text_at key d >>= λ text. ok_or (net_of text) (BadNet key)

abbrev pub spot_at : List ℕ → Data → Reading Spot
spot_at key d = text_at key d >>= λ text. ok_or (spot_of text) (BadPlace key)

-- ---- lists

-- the key of an item of a list
abbrev pub item_key : List ℕ → ℕ → List ℕ
item_key key i = key ++ codes "[" ++ decimal i ++ codes "]"

-- each item, read beside those before it
abbrev pub entries : {A : Type 0} → (List A → List ℕ → Data → Reading A) → List ℕ → List A → Items → Reading (List A)
entries at key before no_items = Ok before
entries at key before (item d ds) = at before (item_key key (length before)) d >>= λ x. entries at key (before ++ x ∷ []) ds
