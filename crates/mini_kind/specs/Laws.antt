-- The mini session keeps what every kind of session keeps, over its store.
use Rattle.session_model.specs.Laws.{Laws}
use Rattle.mini_store.specs.Transactions.{store_rules}
use Rattle.mini_kind.specs.Fits.{MiniKept}
use Rattle.mini_kind.specs.Telling.{mini_kind}

abbrev pub MiniLaws : Type 0
MiniLaws = Laws mini_kind store_rules MiniKept
