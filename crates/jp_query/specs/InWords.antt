-- `x IN (select)` in SQL's words: true if some row is equal, else unknown if some row is NULL or if x is NULL and there is a
-- row, else false.
use Rattle.std.specs.Prelude.{Bool, true, false, ◌||◌, ◌&&◌, List, [], ◌∷◌, if◌then◌else◌}
use Rattle.std.specs.List.{list_any}
use Rattle.jp_base.specs.declared.truth.Truth.{Truth}
use Rattle.jp_base.specs.declared.truth.Truth.TheVariants.{True, False, Unknown}
use Rattle.jp_base.specs.declared.values.Value.{Value}
use Rattle.jp_base.specs.Values.{is_null, are_equal}

abbrev pub verdict : Bool → Bool → Bool → Bool → Truth
verdict some_equal some_null null_operand some_row = if some_equal then True else (if some_null || (null_operand && some_row) then Unknown else False)

abbrev pub is_some_value : List Value → Bool
is_some_value [] = false
is_some_value (v ∷ values) = true

abbrev pub in_words : Value → List Value → Truth
in_words x values = verdict (list_any (are_equal x) values) (list_any is_null values) (is_null x) (is_some_value values)
