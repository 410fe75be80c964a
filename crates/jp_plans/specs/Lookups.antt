-- Rows of an item that an index finds, and rows that are enough for a scan.
use Rattle.std.specs.Prelude.{◌≡◌, ℕ, Bool, true, List, filter, length, All, Option, Some, None}
use Rattle.jp_base.specs.declared.values.Value.{Value}
use Rattle.jp_base.specs.Values.{are_equal}
use Rattle.jp_indexes.specs.declared.index.Index.{Index}
use Rattle.jp_query.specs.declared.CmpOp.TheVariants as cmp
use Rattle.jp_query.specs.declared.Expr.{Expr, out-Expr}
use Rattle.jp_query.specs.declared.Expr.TheOpen.{Expr-F}
use Rattle.jp_query.specs.Layers.{ExprLayer}
use Rattle.jp_query.specs.Meaning.{Env, cell_in}
use Rattle.jp_problem.specs.StepClauses.{scan_clauses}
use Rattle.jp_problem.specs.declared.types.Problem.{Problem}
use Rattle.jp_frame.specs.Maps.{Map, at}
use Rattle.jp_frame.specs.Methods.{rows_of_item}
use Rattle.jp_framed.specs.Environments.{row_at}
use Rattle.jp_joins.specs.Keys.{places_where, table_at}
use Rattle.jp_joins.specs.Meant.{Meant, list_holds, value_at}
use Rattle.jp_items.specs.Seeing.{place_of}
use Rattle.jp_items.specs.Sights.{env_around, sight_env, source_of}
use Rattle.jp_items.specs.declared.scene.Scene.{Scene}
use Rattle.jp_plans.specs.Known.{known_scan}

-- the relation and the column, if an expression is a column
abbrev pub column_at : ExprLayer → Option (ℕ × ℕ)
column_at (Expr-F.Col rel col ty nulled) = Some (rel, col)
column_at _ = None

-- the cell of a relation's column is equal to the value
abbrev pub env_has : ℕ → ℕ → Value → Env → Bool
env_has rel col v env = are_equal v (cell_in (env rel) col)

-- for each value the rows of the item whose cell of the column is equal to it are those that the index lists
abbrev pub FindsStored : Scene → ℕ → ℕ → ℕ → Index → Type 0
FindsStored scene item rel col index = (v : Value) → table_at index.numbers v ≡ places_where (env_has rel col v) 0 (source_of scene.sight item)

-- The numbers are those of the item's rows whose cell of a column is equal to that of a column around the block.
pub record IsLookedUp (scene : Scene) (item : ℕ) (inner outer : ℕ × ℕ) (numbers : List ℕ) : Type 0 where
  pub inside : Some item ≡ place_of scene.sight.layout.now inner.0
  pub outside : None ≡ place_of scene.sight.layout.now outer.0
  pub are : numbers ≡ places_where (env_has inner.0 inner.1 (cell_in (env_around scene.sight.around outer.0) outer.1)) 0 (source_of scene.sight item)

-- The numbers are those of the item's rows that pass a test, which each row passes at which the two expressions are equal.
pub record FindsRows (scene : Scene) (item : ℕ) (first second : Expr) (numbers : List ℕ) : Type 0 where
  pub test : Env → Bool
  pub are : numbers ≡ places_where test 0 (source_of scene.sight item)
  pub passes : (meant : Meant) → meant.environment ≡ sight_env scene.sight → (m : Map) (r : ℕ) → Some r ≡ at m item
      → are_equal (value_at meant m first) (value_at meant m second) ≡ true → test (row_at (source_of scene.sight item) (Some r)) ≡ true

-- the same for a clause that is an equality
abbrev pub FindsAt : Scene → ℕ → ExprLayer → List ℕ → Type 0
FindsAt scene item (Expr-F.Compare cmp.Eq first second) numbers = FindsRows scene item first second numbers
FindsAt scene item _ numbers = ⊥

abbrev pub Finds : Scene → ℕ → Expr → List ℕ → Type 0
Finds scene item clause numbers = FindsAt scene item (out-Expr clause) numbers

-- ---- scans

-- the maps of all rows of an item
abbrev pub item_maps : Scene → Problem → ℕ → List Map
item_maps scene problem item = rows_of_item (length problem.items) item 0 (length (source_of scene.sight item))

-- The maps are as wide as the block, and of them those make the scan clauses true that do so of all rows of the item.
pub record AreEnough (scene : Scene) (problem : Problem) (item : ℕ) (maps : List Map) : Type 0 where
  pub wide : All (λ m. length m ≡ length problem.items) maps
  pub kept : filter (list_holds (known_scan scene problem item) (scan_clauses problem item)) maps ≡ filter (list_holds (known_scan scene problem item) (scan_clauses problem item)) (item_maps scene problem item)
