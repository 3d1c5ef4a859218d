-- What the session needs of the reading of SQL and of its store.
use Rattle.std.proofs.Common.{List, Some, length, ℕ, ◌≡◌}
use Rattle.base64.specs.Engines.{standard}
use Rattle.base64.specs.GeneralPurpose.{encode_of}
use Rattle.pgw_frames.specs.Frames.{IsBytes}
use Rattle.proxy_outside.specs.Rules.{IsAnswer, Rules}
use Rattle.session_model.specs.Texts.{key_digits, restore_text, transfer_text}
use Rattle.session_model.specs.declared.transfer.TransferKey.{TransferKey}
use Rattle.sql_text.specs.declared.stmt.Stmt.{Stmt}
use Rattle.sql_text.specs.declared.stmt.Stmt.TheVariants as sql
use Rattle.mini_store.specs.declared.answer.Answer.{Answer}
use Rattle.mini_store.specs.declared.command.StoreCommand.{StoreCommand}
use Rattle.mini_kind.specs.Fits.{AnswerFits, StmtFits}
use Rattle.mini_kind.specs.Parameters.{stmt_in}

pub record SqlLaws : Type 0 where
  -- the texts of a transfer are read as what they were written from
  pub transfer : (k : TransferKey) → (t : TransferKey) × (stmt_in (transfer_text k) ≡ Some (sql.Transfer t.high t.low)) × (key_digits t ≡ key_digits k)
  pub restore : (b : List ℕ) → IsBytes b → stmt_in (restore_text b) ≡ Some (sql.Restore (encode_of standard b))
  pub fits : (text : List ℕ) (st : Stmt) → stmt_in text ≡ Some st → StmtFits (length text) st

pub record StoreLaws {T : Type 0} (rules : Rules T StoreCommand Answer) : Type 0 where
  pub answers : (c : StoreCommand) (a : Answer) → IsAnswer rules c a → AnswerFits a
