use Rattle.std.proofs.Common.{rules, ◌≡◌, true, false}
use Rattle.session_rounds.specs.Turns.{is_parked}
use Rattle.session_rounds.proofs.due.is_due.Goals as goal

pub returns : goal.returns
returns g c = λ sent got fed taken p q.
    let one : is_parked c.args.request ≡ true = first_of (cc, search rules) in
    let two : is_parked c.args.response ≡ true = first_of (cc, search rules) in
    rw (one, two) (c.is_safe.ensures.messages sent got taken (c.tally-asked.ensures fed sent false p) (c.tally-replied.ensures taken got false q))
