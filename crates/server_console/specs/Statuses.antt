-- How a server ends, as an exit status and as a line.
use Rattle.std.specs.Prelude.{ℕ, List, [], ◌++◌, codes}
use Rattle.std.specs.Net.Text.{socket_text}
use Rattle.server_console.specs.declared.status.ServeStatus.{ServeStatus}
use Rattle.server_console.specs.declared.status.ServeStatus.TheVariants.{Done, BadSettings, ReadFault, WriteFault, NoMemory, TooLong, Late, NoFile, NoListener, NoThread, NoRandom}

abbrev pub exit_status : ServeStatus → ℕ
exit_status Done = 0
exit_status (BadSettings fault) = 3
exit_status ReadFault = 4
exit_status WriteFault = 5
exit_status NoMemory = 6
exit_status TooLong = 7
exit_status Late = 8
exit_status (NoFile cause) = 9
exit_status (NoListener addr cause) = 10
exit_status NoThread = 11
exit_status NoRandom = 12

-- what went wrong, where the settings are in this file
abbrev pub fault_line : List ℕ → ServeStatus → List ℕ
fault_line file Done = []
fault_line file (BadSettings fault) = codes "bad settings: " ++ (file ++ (codes ": " ++ (fault ++ codes "\n")))
fault_line file ReadFault = codes "read fault: " ++ file ++ codes "\n"
fault_line file WriteFault = codes "write fault\n"
fault_line file NoMemory = codes "no memory\n"
fault_line file TooLong = codes "too long: " ++ file ++ codes "\n"
fault_line file Late = codes "late: " ++ file ++ codes "\n"
fault_line file (NoFile cause) = codes "can't open " ++ (file ++ (codes ": " ++ (cause ++ codes "\n")))
fault_line file (NoListener addr cause) = codes "can't listen on " ++ (socket_text addr ++ (codes ": " ++ (cause ++ codes "\n")))
fault_line file NoThread = codes "no thread\n"
fault_line file NoRandom = codes "no random bytes\n"
