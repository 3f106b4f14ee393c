-- A row table as it lies in memory, by the figures of its rows.
use Rattle.std.specs.Prelude.{List, map, take}
use Rattle.text.specs.Rows.{Figures}
use Rattle.text.specs.declared.rows.Row.{Row}
use Rattle.text.specs.declared.rows.RowTable.{RowTable}

-- the figures of a row as the table holds it
abbrev pub figures : Row → Figures
figures row = record { first = row.first; last = row.last; weight = row.weight }

-- the rows of a table, in the order in which they were added
abbrev pub rows_of : RowTable → List Figures
rows_of table = map figures (take table.len table.rows)
