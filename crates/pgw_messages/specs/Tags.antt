-- The types of messages, by the manual's names (PostgreSQL manual, Message Formats).
use Rattle.std.specs.Prelude.{ℕ}

-- ---- of a client

abbrev pub query : ℕ
query = 81

abbrev pub parse : ℕ
parse = 80

abbrev pub bind : ℕ
bind = 66

abbrev pub describe : ℕ
describe = 68

abbrev pub execute : ℕ
execute = 69

abbrev pub sync : ℕ
sync = 83

abbrev pub flush : ℕ
flush = 72

abbrev pub close : ℕ
close = 67

abbrev pub function_call : ℕ
function_call = 70

abbrev pub copy_data : ℕ
copy_data = 100

abbrev pub copy_done : ℕ
copy_done = 99

abbrev pub copy_fail : ℕ
copy_fail = 102

abbrev pub password_message : ℕ
password_message = 112

abbrev pub terminate : ℕ
terminate = 88

-- ---- of a server

abbrev pub authentication : ℕ
authentication = 82

abbrev pub parameter_status : ℕ
parameter_status = 83

abbrev pub backend_key_data : ℕ
backend_key_data = 75

abbrev pub ready_for_query : ℕ
ready_for_query = 90

abbrev pub row_description : ℕ
row_description = 84

abbrev pub data_row : ℕ
data_row = 68

abbrev pub command_complete : ℕ
command_complete = 67

abbrev pub empty_query_response : ℕ
empty_query_response = 73

abbrev pub error_response : ℕ
error_response = 69

abbrev pub notice_response : ℕ
notice_response = 78

abbrev pub notification_response : ℕ
notification_response = 65

abbrev pub parse_complete : ℕ
parse_complete = 49

abbrev pub bind_complete : ℕ
bind_complete = 50

abbrev pub close_complete : ℕ
close_complete = 51

abbrev pub parameter_description : ℕ
parameter_description = 116

abbrev pub no_data : ℕ
no_data = 110

abbrev pub portal_suspended : ℕ
portal_suspended = 115

abbrev pub copy_in_response : ℕ
copy_in_response = 71
