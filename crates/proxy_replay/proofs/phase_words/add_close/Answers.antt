use Rattle.std.proofs.Common.{append_assoc}
use Rattle.std.specs.Prelude.{codes}
use Rattle.proxy_replay.specs.Report.{cut_word}
use Rattle.proxy_replay.proofs.phase_words.add_close.Goals as goal

pub returns-in_ok-extend-in-ExchangeCut-2 : goal.returns-in_ok-extend-in-ExchangeCut-2
returns-in_ok-extend-in-ExchangeCut-2 c =
    rw (c.in_ok-extend-in-ExchangeCut-2.ensures.ok, c.word_of_cut.ensures, c.in_ok-extend-in-ExchangeCut.ensures.ok, c.in-ExchangeCut.is)
    (append_assoc c.args.out.now (codes "exchangecut ") (cut_word c.in-ExchangeCut.cut))
