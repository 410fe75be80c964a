-- What holds of the tables that are loaded.
use Rattle.std.specs.Prelude.{ℕ, List, ◌∷◌, Some, None}
use Rattle.jp_catalog.specs.declared.types.TableDef.{TableDef}
use Rattle.jp_query.specs.Tables.{TableRows}
use Rattle.jp_table.specs.Keys.{KeysHold}

-- what each table that is loaded keeps of its definition: its keys hold
abbrev pub KeysKept : List (List ℕ × TableDef) → TableRows → Type 0
KeysKept (table ∷ tables) (Some rows ∷ loaded) = KeysHold table.1 rows × KeysKept tables loaded
KeysKept (table ∷ tables) (None ∷ loaded) = KeysKept tables loaded
KeysKept _ _ = Unit {0}
