-- The exit status of the program, by how the check ended.
use Rattle.std.specs.Prelude.{ℕ}
use Rattle.settings_check.specs.declared.status.CheckStatus.{CheckStatus}
use Rattle.settings_check.specs.declared.status.CheckStatus.TheVariants.{Done, Usage, BadSettings, ReadFault, WriteFault, NoMemory, TooLong, Late}

abbrev pub exit_status : CheckStatus → ℕ
exit_status Done = 0
exit_status Usage = 2
exit_status (BadSettings fault) = 3
exit_status ReadFault = 4
exit_status WriteFault = 5
exit_status NoMemory = 6
exit_status TooLong = 7
exit_status (Late n) = 8
