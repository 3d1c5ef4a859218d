-- What is told of a schedule that was made from a number.
use Rattle.std.specs.Prelude.{ℕ, List, [], ◌∷◌, ◌++◌, length, codes}
use Rattle.hex.specs.Hex.{encode_lower}
use Rattle.sha2.specs.Sha256.{sha256}
use Rattle.forwarder_world.specs.declared.counts.Counts.{Counts}
use Rattle.forwarder_world.specs.declared.event.Phase.{Phase}
use Rattle.proxy_replay.specs.Report.{count_line, phase_words}

-- its number, how many messages and events it has, and where its World stands
unfoldable pub summary_text : ℕ → ℕ → ℕ → Phase → Counts → List ℕ → List ℕ
summary_text number messages events phase counts received =
    codes "sqlproxy gen 1\n"
    ++ count_line (codes "number") number
    ++ count_line (codes "messages") messages
    ++ count_line (codes "events") events
    ++ codes "phase " ++ phase_words phase ++ 10 ∷ []
    ++ count_line (codes "moves") counts.moves
    ++ count_line (codes "failed") counts.failed
    ++ count_line (codes "forwarded") counts.forwarded
    ++ count_line (codes "passed") counts.passed
    ++ count_line (codes "received") (length received)
    ++ codes "sha256 " ++ encode_lower (sha256 received) ++ 10 ∷ []
    ++ codes "end\n"
