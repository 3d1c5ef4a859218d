-- What a fault prints.
use Rattle.std.specs.Prelude.{ℕ, List, ◌++◌, codes}
use Rattle.std.specs.Fmt.{decimal}
use Rattle.counted_desk.specs.declared.answer.CallFault.{CallFault}
use Rattle.counted_desk.specs.declared.answer.CallFault.TheVariants.{NoMemory, JournalFull}

abbrev pub fault_text : CallFault → List ℕ
fault_text NoMemory = codes "no memory"
fault_text (JournalFull most) = codes "journal full: " ++ decimal most
