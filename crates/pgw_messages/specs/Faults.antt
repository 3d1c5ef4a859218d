-- What a fault prints.
use Rattle.std.specs.Prelude.{ℕ, List, ◌++◌, codes}
use Rattle.std.specs.Fmt.{decimal}
use Rattle.pgw_messages.specs.declared.fault.MsgFault.{MsgFault}
use Rattle.pgw_messages.specs.declared.fault.MsgFault.TheVariants.{UnknownTag, Short, Trailing, NotText, BadValue, NoMemory}

abbrev pub fault_text : MsgFault → List ℕ
fault_text (UnknownTag tag) = codes "unknown message type: " ++ decimal tag
fault_text Short = codes "message too short"
fault_text Trailing = codes "bytes behind the message"
fault_text NotText = codes "text not in UTF-8"
fault_text BadValue = codes "bad value in a message"
fault_text NoMemory = codes "no memory"
