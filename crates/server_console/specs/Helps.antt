-- The texts of the program's help.
use Rattle.std.specs.Prelude.{ℕ, List, codes}

-- what `sqlproxy --help` prints
abbrev pub help : List ℕ
help = codes "sqlproxy: a proxy for the PostgreSQL protocol that moves live sessions between pods\n\nusage:\n  sqlproxy serve --config FILE [--sessions N]      serves clients by the settings in FILE, which it reads again\n                                                   every few seconds; ends once N connections have ended\n  sqlproxy check [--addr A --tenant T --now N]     reads settings on standard input, and says what they hold\n  sqlproxy --help                                  prints this\n"

-- the line for words that begin with `serve` and ask nothing that there is
abbrev pub usage : List ℕ
usage = codes "usage: sqlproxy serve --config FILE [--sessions N]\n"
