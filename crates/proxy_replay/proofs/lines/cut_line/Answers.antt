use Rattle.std.proofs.Common.{length, add-one, arith}
use Rattle.std.proofs.lemmas.List.{take_all, drop_all}
use Rattle.proxy_replay.proofs.Cuts.{cut_at, uncut, no_lines}
use Rattle.proxy_replay.proofs.lines.cut_line.Goals as goal

pub returns-in-Some-clause-lines : goal.returns-in-Some-clause-lines
returns-in-Some-clause-lines c =
    let first = c.in-Some.ensures in
    rw (c.split_at.ensures.front, c.split_at-in-Some.ensures.back, add-one)
    (cut_at c.args.text.now c.in-Some.at first.0.high first.1 first.0.before)

pub returns-in-None-clause-lines : goal.returns-in-None-clause-lines
returns-in-None-clause-lines c =
    rw (c.split_at-in-None.ensures.front, c.split_at-in-None.ensures.back, take_all (length c.args.text.now) c.args.text.now (omega arith), drop_all (length c.args.text.now) c.args.text.now (omega arith), no_lines)
    (uncut c.args.text.now c.requires c.in-None.ensures)
