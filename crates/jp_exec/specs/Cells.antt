-- What a block is handed of the environment where it is run.
use Rattle.std.specs.Prelude.{◌≡◌, ◌<◌, ◌^◌, ℕ, Bool, List, All, if◌then◌else◌}
use Rattle.std.specs.BTreeMap.{is_at}
use Rattle.jp_base.specs.declared.values.Value.{Value}
use Rattle.jp_query.specs.Meaning.{Env, cell_in}
use Rattle.jp_placeholder.specs.Present.{IsPresentSet}
use Rattle.jp_items.specs.declared.params.Params.{Params}
use Rattle.jp_items.specs.Params.{Cells, cell_given, column_order}

-- the cell that is given for a column is that of the environment
abbrev pub IsGivenCell : Env → Cells → ℕ × ℕ → Type 0
IsGivenCell env cells column = (cell_given cells column.0 column.1 ≡ cell_in (env column.0) column.1) × (column.1 < 2 ^ 32)

-- whether the column is the one of this relation and place
abbrev pub is_column : ℕ → ℕ → ℕ → ℕ → Bool
is_column rel col r c = is_at (column_order (rel, col)) (r, c)

-- the cell of one column is put in, and the others stay
abbrev pub AddsCell : Cells → Cells → ℕ → ℕ → Value → Type 0
AddsCell old new rel col value = (r c : ℕ) → cell_given new r c ≡ (if is_column rel col r c then value else cell_given old r c)

-- The cells of these columns in an environment, and the relations that have a row there.
pub record IsHandedIn (columns : List (ℕ × ℕ)) (env : Env) (params : Params) : Type 0 where
  pub cells : All (IsGivenCell env params.cells) columns
  pub present : IsPresentSet params.present env
