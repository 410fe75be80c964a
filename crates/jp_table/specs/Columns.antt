-- What a column in memory holds, by its type's form.
use Rattle.std.specs.Prelude.{map}
use Rattle.jp_base.specs.declared.values.Ty.TheVariants as ty
use Rattle.jp_table.specs.Storage.{Stored, value_of_number, value_of_truth}
use Rattle.jp_table.specs.declared.column.Cells.{Cells}
use Rattle.jp_table.specs.declared.column.Cells.TheVariants.{Numbers, Booleans, Texts}

-- the column's type, and the value of each row
abbrev pub stored_of : Cells → Stored
stored_of (Numbers numbers) = (ty.Number, map value_of_number numbers.items)
stored_of (Booleans truths) = (ty.Boolean, map value_of_truth truths.items)
stored_of (Texts texts) = (ty.Text, texts)
