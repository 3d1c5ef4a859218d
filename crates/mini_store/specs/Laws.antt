-- What holds of the store after any commands.
use Rattle.std.specs.Prelude.{List, []}
use Rattle.proxy_outside.specs.Rules.{after}
use Rattle.mini_store.specs.declared.command.StoreCommand.{StoreCommand}
use Rattle.mini_store.specs.Rising.{AllRise}
use Rattle.mini_store.specs.Transactions.{store_rules}

abbrev pub RowsAlwaysRise : Type 0
RowsAlwaysRise = (commands : List StoreCommand) → AllRise (after store_rules [] commands)
