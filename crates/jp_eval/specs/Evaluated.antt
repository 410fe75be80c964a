-- The value that an evaluated expression has.
use Rattle.jp_base.specs.Cells.{value_of_cell}
use Rattle.jp_base.specs.declared.values.Value.{Value}
use Rattle.jp_base.specs.declared.values.Value.TheVariants as value
use Rattle.jp_query.specs.Operators.{value_of_truth}
use Rattle.jp_eval.specs.declared.evaluated.Evaluated.{Evaluated}
use Rattle.jp_eval.specs.declared.evaluated.Evaluated.TheVariants.{Truth, Lent, Made}
use Rattle.std.specs.Prelude.{ℕ, List, Option, Some, None}

abbrev pub value_of_evaluated : Evaluated → Value
value_of_evaluated (Truth truth) = value_of_truth truth
value_of_evaluated (Lent cell) = value_of_cell cell
value_of_evaluated (Made text) = value.Text text

-- the value of the arm that is chosen, else that of ELSE
abbrev pub chosen_or : Option Evaluated → Value → Value
chosen_or (Some chosen) otherwise = value_of_evaluated chosen
chosen_or None otherwise = otherwise

-- a text that is there, else NULL
abbrev pub value_of_text : Option (List ℕ) → Value
value_of_text (Some text) = value.Text text
value_of_text None = value.Null
