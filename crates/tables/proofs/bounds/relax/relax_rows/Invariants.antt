use Rattle.std.proofs.Common.{◌≡◌, length, take}
use Rattle.tables.specs.Rows.{RowsWithin, LongRows, RelaxesRows}
use Rattle.tables.proofs.bounds.relax.relax_rows.Given as goal

abbrev pub invariant-loop-row : goal.invariant-loop-row
invariant-loop-row l = record {
  same : length l.row-items ≡ length l.over;
  within : RowsWithin (length l.over) l.row-items;
  long : LongRows l.k l.over l.row-index l.fn.rows;
  relaxes : RelaxesRows l.k l.over l.row-index (take (length l.over) l.fn.rows) l.row-items;
}
