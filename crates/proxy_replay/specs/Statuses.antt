-- The exit status of the program, by how the replay ended.
use Rattle.std.specs.Prelude.{ℕ}
use Rattle.proxy_replay.specs.declared.status.Status.{Status}
use Rattle.proxy_replay.specs.declared.status.Status.TheVariants.{Done, Usage, BadLine, ReadFault, WriteFault, NoMemory, TooLong, Late}

abbrev pub exit_status : Status → ℕ
exit_status Done = 0
exit_status Usage = 2
exit_status (BadLine n) = 3
exit_status ReadFault = 4
exit_status WriteFault = 5
exit_status NoMemory = 6
exit_status TooLong = 7
exit_status (Late n) = 8
