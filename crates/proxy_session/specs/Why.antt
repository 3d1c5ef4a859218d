-- Why a connection ended, by what its stages came to.
use Rattle.std.specs.Prelude.{Bool, true, false, if◌then◌else◌, Option, None, Some, option_map}
use Rattle.pgw_frames.specs.declared.frame.Frame.{Frame}
use Rattle.session_course.specs.declared.course.Finish.{Finish}
use Rattle.session_course.specs.declared.course.Finish.TheVariants.{Legs, Exchange}
use Rattle.session_door.specs.declared.door.DoorCut.{DoorCut}
use Rattle.session_door.specs.declared.door.DoorCut.TheVariants as door
use Rattle.session_legs.specs.declared.side.LegEnd.{LegEnd}
use Rattle.session_legs.specs.declared.side.LegEnd.TheVariants as leg
use Rattle.session_rounds.specs.Turns.{is_look}
use Rattle.session_opening.specs.declared.ending.Ending.{Ending}
use Rattle.session_opening.specs.declared.ending.Ending.TheVariants as ending
use Rattle.transfer_stages.specs.declared.stage.Cut.{Cut}
use Rattle.transfer_stages.specs.declared.stage.Cut.TheVariants as cut
use Rattle.proxy_session.specs.declared.why.Why.{Why}
use Rattle.proxy_session.specs.declared.why.Why.TheVariants.{Bye, Refused, AuthRefused, ClientCut, ClientLate, BadClientFrame, BadPodFrame, ClientReadFault, ClientWriteFault, PodReadFault, PodWriteFault, PodEnded, DialFault, GreetingCut, ExchangeCut, JournalFull, NoMemory}

abbrev pub by_door : DoorCut → Why
by_door door.ReadFault = ClientReadFault
by_door door.WriteFault = ClientWriteFault
by_door door.Ended = ClientCut
by_door (door.Late n) = ClientLate n
by_door door.NoMemory = NoMemory

-- the client came to its end in the greeting
abbrev pub by_client : Cut → Why
by_client cut.ReadFault = ClientReadFault
by_client cut.WriteFault = ClientWriteFault
by_client cut.Ended = ClientCut
by_client (cut.BadLength n) = BadClientFrame n
by_client (cut.Unexpected f) = ClientCut
by_client (cut.Strayed g) = ClientCut
by_client (cut.Late n) = ClientLate n

abbrev pub by_opening : Ending → Why
by_opening (ending.Refused why) = Refused why
by_opening ending.DialFault = DialFault
by_opening (ending.JournalFull most) = JournalFull most
by_opening (ending.AuthRefused fields) = AuthRefused fields
by_opening ending.Left = Bye
by_opening (ending.PodCut c) = GreetingCut c
by_opening (ending.ClientCut c) = by_client c
by_opening ending.NoMemory = NoMemory

abbrev pub is_no_memory : LegEnd → Bool
is_no_memory leg.NoMemory = true
is_no_memory leg.Parked = false
is_no_memory leg.Over = false
is_no_memory leg.Terminated = false
is_no_memory leg.Ended = false
is_no_memory leg.Cut = false
is_no_memory (leg.Bad n) = false
is_no_memory leg.ReadFault = false
is_no_memory leg.WriteFault = false

-- the client's leg, which ended by itself
abbrev pub by_request : LegEnd → Why
by_request leg.Parked = Bye
by_request leg.Over = Bye
by_request leg.Terminated = Bye
by_request leg.Ended = Bye
by_request leg.Cut = ClientCut
by_request (leg.Bad n) = BadClientFrame n
by_request leg.ReadFault = ClientReadFault
by_request leg.WriteFault = PodWriteFault
by_request leg.NoMemory = NoMemory

-- the pod's leg, which ended by itself
abbrev pub by_response : LegEnd → Why
by_response leg.Parked = PodEnded
by_response leg.Over = PodEnded
by_response leg.Terminated = PodEnded
by_response leg.Ended = PodEnded
by_response leg.Cut = PodEnded
by_response (leg.Bad n) = BadPodFrame n
by_response leg.ReadFault = PodReadFault
by_response leg.WriteFault = ClientWriteFault
by_response leg.NoMemory = NoMemory

-- want of memory first, then the client's leg where no look ended it, then the pod's
abbrev pub by_legs : LegEnd → LegEnd → Why
by_legs why why' = if is_no_memory why' then NoMemory else (if is_look why then by_response why' else by_request why)

abbrev pub by_finish : Finish → Why
by_finish (Legs why why') = by_legs why why'
by_finish (Exchange c) = ExchangeCut c
