-- The text of a report.
use Rattle.std.specs.Prelude.{ℕ, zero, suc, List, [], ◌∷◌, ◌++◌, length, take, drop, codes}
use Rattle.std.specs.Fmt.{decimal}
use Rattle.hex.specs.Hex.{encode_lower}
use Rattle.transfer_stages.specs.declared.stage.Cut.{Cut}
use Rattle.transfer_stages.specs.declared.stage.Cut.TheVariants as cut
use Rattle.forwarder_world.specs.declared.counts.Counts.{Counts}
use Rattle.forwarder_world.specs.declared.event.Close.{Close}
use Rattle.forwarder_world.specs.declared.event.Close.TheVariants.{Bye, ClientCut, BadClient, PodEnded, PodWrite, ExchangeCut}
use Rattle.forwarder_world.specs.declared.event.Phase.{Phase}
use Rattle.forwarder_world.specs.declared.event.Phase.TheVariants.{Running, Stop, Parked, Exchange, Closed}

-- how a link was left inside a transfer
abbrev pub cut_word : Cut → List ℕ
cut_word cut.ReadFault = codes "other"
cut_word cut.WriteFault = codes "write"
cut_word cut.Ended = codes "ended"
cut_word (cut.BadLength n) = codes "other"
cut_word (cut.Unexpected f) = codes "other"
cut_word (cut.Strayed tag) = codes "other"
cut_word (cut.Late n) = codes "other"

abbrev pub close_words : Close → List ℕ
close_words Bye = codes "bye"
close_words ClientCut = codes "clientcut"
close_words (BadClient n) = codes "badclient " ++ decimal n
close_words PodEnded = codes "podended"
close_words PodWrite = codes "podwrite"
close_words (ExchangeCut c) = codes "exchangecut " ++ cut_word c

abbrev pub phase_words : Phase → List ℕ
phase_words Running = codes "running"
phase_words Stop = codes "stop"
phase_words Parked = codes "parked"
phase_words Exchange = codes "exchange"
phase_words (Closed c) = codes "closed " ++ close_words c

-- a name and its count
abbrev pub count_line : List ℕ → ℕ → List ℕ
count_line name n = name ++ 32 ∷ decimal n ++ 10 ∷ []

-- at most so many lines of 32 bytes
unfoldable pub hex_lines_up_to : ℕ → List ℕ → List ℕ
hex_lines_up_to zero bytes = []
hex_lines_up_to (suc n) [] = []
hex_lines_up_to (suc n) (b ∷ bytes) = encode_lower (take 32 (b ∷ bytes)) ++ 10 ∷ hex_lines_up_to n (drop 32 (b ∷ bytes))

-- the bytes in hexadecimal, 32 of them in a line
unfoldable pub hex_lines : List ℕ → List ℕ
hex_lines bytes = hex_lines_up_to (length bytes) bytes

abbrev pub report_text : Phase → Counts → List ℕ → List ℕ
report_text phase counts received =
    codes "sqlproxy replay 1\nphase " ++ phase_words phase ++ 10 ∷ []
    ++ count_line (codes "moves") counts.moves
    ++ count_line (codes "failed") counts.failed
    ++ count_line (codes "taken") counts.taken
    ++ count_line (codes "forwarded") counts.forwarded
    ++ count_line (codes "passed") counts.passed
    ++ count_line (codes "received") (length received)
    ++ hex_lines received
    ++ codes "end\n"
