use Rattle.mini_store.specs.Transactions.{store_rules}
use Rattle.mini_kind.proofs.Keeps.{keeps_laws}
use Rattle.mini_kind.proofs.SqlFits.{sql_laws}
use Rattle.mini_kind.proofs.StoreFits.{store_laws}
use Rattle.mini_kind.proofs.laws.a_mini_session_keeps_the_laws.Goals as goal

pub returns : goal.returns
returns c = keeps_laws sql_laws store_rules store_laws
