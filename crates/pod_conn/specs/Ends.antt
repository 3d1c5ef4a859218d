-- How a fault of the desk ends a connection.
use Rattle.counted_desk.specs.declared.answer.CallFault.{CallFault}
use Rattle.counted_desk.specs.declared.answer.CallFault.TheVariants as call
use Rattle.pod_conn.specs.declared.end.PodEnd.{PodEnd}
use Rattle.pod_conn.specs.declared.end.PodEnd.TheVariants.{JournalFull, NoMemory}

abbrev pub end_of : CallFault → PodEnd
end_of call.NoMemory = NoMemory
end_of (call.JournalFull most) = JournalFull most
