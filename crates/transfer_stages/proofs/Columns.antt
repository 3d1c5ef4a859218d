-- The columns of a written RowDescription are read again.
use Rattle.std.proofs.Common.{◌≡◌, ◌<◌, ℕ, zero, suc, true, false, List, [], ◌∷◌, Some, refl, ap, arith}
use Rattle.std.specs.Prelude.{nat_lt, slice_index, map, pos, codes}
use Rattle.std.specs.List.{list_all, list_any, AllByRecursion}
use Rattle.std.specs.Result.{result_ok}
use Rattle.std.specs.Str.{IsAscii}
use Rattle.std.proofs.Math.Facts.{sfits_lit}
use Rattle.std.proofs.lemmas.Bool.{and_parts, ltb-true}
use Rattle.std.proofs.lemmas.Str.{is_utf8-from_IsUtf8, IsUtf8-from_ascii}
use Rattle.pgw_messages.specs.Backend.{back_frame, column_at, column_bytes, IsColumn}
use Rattle.pgw_messages.specs.Reading.{is_zero, list_at}
use Rattle.pgw_messages.specs.Spelling.{list_bytes, IsList, IsText}
use Rattle.pgw_messages.specs.declared.backend.columns.Column.{Column}
use Rattle.pgw_messages.specs.declared.backend.message.BackMsg.TheVariants as back
use Rattle.pgw_messages.proofs.Arms.{whole_is, body_of}
use Rattle.pgw_messages.proofs.BackCodecs.{columns}
use Rattle.session_model.specs.Texts.{column, text_column, transfer_columns, restore_columns}
use Rattle.transfer_stages.specs.Exchange.{transfer_names}
use Rattle.transfer_stages.specs.Rows.{columns_of, have_names, has_names, is_one, has_one_column}

pub columns_read : (cs : List Column) → IsList IsColumn cs → columns_of (back_frame (back.Columns cs)) ≡ Some cs
unfolding columns_of
columns_read cs is = ap result_ok (whole_is (list_at column_at (list_bytes column_bytes cs)) cs [] tt ((body_of columns).again cs is) refl)

ascii : (t : List ℕ) → list_all (λ c. nat_lt c 128) t ≡ true → IsAscii t
ascii [] e i = omega arith
ascii (c ∷ t) e zero = ltb-true c 128 (and_parts (nat_lt c 128) (list_all (λ d. nat_lt d 128) t) e).0
ascii (c ∷ t) e (suc i) = ascii t (and_parts (nat_lt c 128) (list_all (λ d. nat_lt d 128) t) e).1 i

pub text_of_ascii : (t : List ℕ) → list_all (λ c. nat_lt c 128) t ≡ true → list_any is_zero t ≡ false → IsText t
text_of_ascii t low some = record { no_zero = some; utf8 = is_utf8-from_IsUtf8 t (IsUtf8-from_ascii t (ascii t low)) }

-- ---- of the two replies

a_text_column : (name : List ℕ) → IsText name → IsColumn (text_column name)
a_text_column name is = record { name = is; table = omega arith; column = omega arith; kind = omega arith; size = sfits_lit tt; modifier = sfits_lit tt; format = omega arith }

are_text_columns : (names : List (List ℕ)) → AllByRecursion IsText names → AllByRecursion IsColumn (map text_column names)
are_text_columns [] is = tt
are_text_columns (n ∷ ns) is = (a_text_column n is.0, are_text_columns ns is.1)

pub transfer_named : has_names transfer_names transfer_columns ≡ true
unfolding transfer_columns
transfer_named =
    let is : AllByRecursion IsText transfer_names = (text_of_ascii _ refl refl, (text_of_ascii _ refl refl, (text_of_ascii _ refl refl, (text_of_ascii _ refl refl, tt)))) in
    ap (have_names transfer_names) (columns_read (map text_column transfer_names) (record { count = omega arith; each = are_text_columns transfer_names is }))

pub restored_named : has_one_column restore_columns ≡ true
unfolding restore_columns
restored_named =
    let name : List ℕ = codes "crdb_internal.deserialize_session" in
    let is : IsColumn (column name 16 (pos 1)) = record { name = text_of_ascii name refl refl; table = omega arith; column = omega arith; kind = omega arith; size = sfits_lit tt; modifier = sfits_lit tt; format = omega arith } in
    ap is_one (columns_read (column name 16 (pos 1) ∷ []) (record { count = omega arith; each = (is, tt) }))
