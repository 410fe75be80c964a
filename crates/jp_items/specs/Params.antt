-- The environment that given cells stand for.
use Rattle.std.specs.Prelude.{ℕ, ◌^◌, List, map, Option, Some, None, unwrap_or, if◌then◌else◌}
use Rattle.std.specs.BTreeMap.{BTreeMap, get}
use Rattle.std.specs.List.{range_with_len}
use Rattle.std.specs.Ordering.{nat_cmp, ordering_then}
use Rattle.std.specs.declared.cmp.Ordering.{Ordering}
use Rattle.jp_base.specs.declared.values.Value.{Value}
use Rattle.jp_base.specs.declared.values.Value.TheVariants as value
use Rattle.jp_query.specs.Meaning.{Row, Env, has}
use Rattle.jp_items.specs.declared.params.Params.{Params}

-- cells by their relation and their column
abbrev pub Cells : Type 0
Cells = BTreeMap (ℕ × ℕ) Value

abbrev pub column_order : ℕ × ℕ → ℕ × ℕ → Ordering
column_order j k = ordering_then (nat_cmp j.0 k.0) (nat_cmp j.1 k.1)

-- NULL where none is given
abbrev pub cell_given : Cells → ℕ → ℕ → Value
cell_given cells rel col = unwrap_or (get column_order cells (rel, col)) value.Null

-- as many cells as a row can have columns
unfoldable pub row_given : Cells → ℕ → Row
row_given cells rel = map (cell_given cells rel) (range_with_len 0 (2 ^ 32))

abbrev pub env_given : Cells → ℕ → Env
env_given cells present rel = if has present rel then Some (row_given cells rel) else None

abbrev pub env_of_params : Params → Env
env_of_params params = env_given params.cells params.present
