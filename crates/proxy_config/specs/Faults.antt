-- What a fault prints.
use Rattle.std.specs.Prelude.{ℕ, List, ◌++◌, codes}
use Rattle.proxy_config.specs.declared.fault.SettingsFault.{SettingsFault}
use Rattle.proxy_config.specs.declared.fault.SettingsFault.TheVariants.{NotToml, UnknownKey, Missing, WrongKind, OutOfRange, BadNet, BadPlace, Twice, NoMemory}

abbrev pub fault_text : SettingsFault → List ℕ
fault_text NotToml = codes "not toml"
fault_text (UnknownKey key) = codes "unknown key " ++ key
fault_text (Missing key) = codes "missing " ++ key
fault_text (WrongKind key) = codes "wrong kind " ++ key
fault_text (OutOfRange key) = codes "out of range " ++ key
fault_text (BadNet key) = codes "bad network " ++ key
fault_text (BadPlace key) = codes "bad place " ++ key
fault_text (Twice key) = codes "twice " ++ key
fault_text NoMemory = codes "no memory"
