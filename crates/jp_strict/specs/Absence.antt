-- Environments in which something is gone.
use Rattle.std.specs.Prelude.{◌≡◌, ℕ, None}
use Rattle.jp_base.specs.Sets.{Has}
use Rattle.jp_base.specs.declared.values.Value.TheVariants as value
use Rattle.jp_query.specs.Meaning.{Env, cell_in}
use Rattle.jp_query.specs.Nullness.{Gone}

-- no relation of the set has a row, or the column's cell is NULL
abbrev pub IsGoneIn : Gone → Env → Type 0
IsGoneIn (Gone.relations set) env = (i : ℕ) → Has set i → env i ≡ None
IsGoneIn (Gone.column rel col) env = cell_in (env rel) col ≡ value.Null
