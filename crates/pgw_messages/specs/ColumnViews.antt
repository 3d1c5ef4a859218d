-- A column that is seen where it stands.
use Rattle.pgw_messages.specs.declared.backend.columns.Column.{Column}
use Rattle.pgw_messages.specs.declared.view.column.ColumnView.{ColumnView}

abbrev pub column_of : ColumnView → Column
column_of v = record { name = v.name.now; table = v.table; column = v.column; kind = v.kind; size = v.size; modifier = v.modifier; format = v.format }
