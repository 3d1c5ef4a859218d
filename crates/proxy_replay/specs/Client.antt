-- The client of a replay.
use Rattle.std.specs.Prelude.{List, [], ◌∷◌, codes}
use Rattle.pgw_messages.specs.declared.params.Pair.{Pair}
use Rattle.proxy_outside.specs.declared.identity.ClientKey.{ClientKey}

abbrev pub client_key : ClientKey
client_key = record { process = 1; secret = 16909060 }

abbrev pub client_params : List Pair
client_params = record { name = codes "user"; value = codes "u" } ∷ record { name = codes "database"; value = codes "d" } ∷ []
