use Rattle.session_blob.proofs.Again.{state_again}
use Rattle.session_blob.proofs.Takes.{is_spelled, refused_is_none}
use Rattle.session_blob.proofs.laws.a_state_has_one_spelling.Goals as goal

pub returns-clause-again : goal.returns-clause-again
returns-clause-again c = state_again

pub returns-clause-spelled : goal.returns-clause-spelled
returns-clause-spelled c = is_spelled

pub returns-clause-refused : goal.returns-clause-refused
returns-clause-refused c = refused_is_none
