-- The values that DISTINCT tells apart.
use Rattle.jp_base.specs.declared.values.Value.{Value}
use Rattle.jp_base.specs.declared.values.Value.TheVariants as value
use Rattle.jp_order.specs.declared.distinct.Part.{Part}
use Rattle.jp_order.specs.declared.distinct.Part.TheVariants as part

abbrev pub value_of_part : Part → Value
value_of_part part.Null = value.Null
value_of_part (part.Number number) = value.Num number
value_of_part (part.Boolean truth) = value.Bool truth
value_of_part (part.Text text) = value.Text text.now
