-- What a fault prints.
use Rattle.std.specs.Prelude.{ℕ, List, ◌++◌, codes}
use Rattle.std.specs.Fmt.{decimal}
use Rattle.tenant_directory.specs.declared.fault.RowFault.{RowFault}
use Rattle.tenant_directory.specs.declared.fault.RowFault.TheVariants.{TwicePod, TooMany, NoMemory}

abbrev pub fault_text : RowFault → List ℕ
fault_text (TwicePod pod) = codes "pod listed twice: " ++ decimal pod.0
fault_text (TooMany pods) = codes "too many pods: " ++ decimal pods
fault_text NoMemory = codes "no memory"
