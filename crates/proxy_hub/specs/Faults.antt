-- What a fault prints.
use Rattle.std.specs.Prelude.{ℕ, List, ◌++◌, codes}
use Rattle.std.specs.Fmt.{decimal}
use Rattle.proxy_hub.specs.declared.fault.HubFault.{HubFault}
use Rattle.proxy_hub.specs.declared.fault.HubFault.TheVariants.{NoMemory, JournalFull}

abbrev pub fault_text : HubFault → List ℕ
fault_text NoMemory = codes "no memory"
fault_text (JournalFull most) = codes "journal full: " ++ decimal most
