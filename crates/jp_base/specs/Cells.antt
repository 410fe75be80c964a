-- The value that a cell lends.
use Rattle.jp_base.specs.declared.cells.Cell.{Cell}
use Rattle.jp_base.specs.declared.cells.Cell.TheVariants as cell
use Rattle.jp_base.specs.declared.values.Value.{Value}
use Rattle.jp_base.specs.declared.values.Value.TheVariants as value

abbrev pub value_of_cell : Cell → Value
value_of_cell cell.Null = value.Null
value_of_cell (cell.Num n) = value.Num n
value_of_cell (cell.Bool b) = value.Bool b
value_of_cell (cell.Text t) = value.Text t.now
