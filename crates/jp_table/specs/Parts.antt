-- The values of keys without a NULL.
use Rattle.jp_base.specs.declared.values.Value.{Value}
use Rattle.jp_base.specs.declared.values.Value.TheVariants as value
use Rattle.jp_table.specs.declared.part.Part.{Part}
use Rattle.jp_table.specs.declared.part.Part.TheVariants as part

abbrev pub value_of_part : Part → Value
value_of_part (part.Number number) = value.Num number
value_of_part (part.Boolean truth) = value.Bool truth
value_of_part (part.Text text) = value.Text text.now
