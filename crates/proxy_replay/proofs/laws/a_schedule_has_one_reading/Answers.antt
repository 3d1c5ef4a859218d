use Rattle.proxy_replay.specs.TallyCommands.{says_nothing}
use Rattle.proxy_replay.proofs.OneReading.{one_event, one_schedule, one_first_bad, never_both}
use Rattle.proxy_replay.proofs.Ends.{one_command}
use Rattle.proxy_replay.proofs.laws.a_schedule_has_one_reading.Goals as goal

pub returns-clause-line : goal.returns-clause-line
returns-clause-line c = one_event says_nothing one_command

pub returns-clause-events : goal.returns-clause-events
returns-clause-events c = one_schedule says_nothing one_command

pub returns-clause-first_bad : goal.returns-clause-first_bad
returns-clause-first_bad c = one_first_bad says_nothing

pub returns-clause-apart : goal.returns-clause-apart
returns-clause-apart c = never_both says_nothing
