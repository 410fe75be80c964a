-- What a block sees of the environment around it.
use Rattle.std.specs.Prelude.{◌≡◌, ◌⊎◌, ℕ, ◌<◌, List, length, is_some, Contains}
use Rattle.jp_base.specs.Sets.{Has}
use Rattle.jp_eval.specs.Evaluation.{CanEvaluate}
use Rattle.jp_query.specs.declared.Expr.{Expr}
use Rattle.jp_query.specs.Meaning.{Row, Env}
use Rattle.jp_query.specs.Outermost.{Outer}
use Rattle.jp_query.specs.Typing.{IsBoolean}
use Rattle.jp_frame.specs.Maps.{Map}
use Rattle.jp_lists.specs.Steps.{Run}
use Rattle.jp_query.specs.Parts.{ColumnRef}
use Rattle.jp_laws.specs.SameCells.{IsSameCell}
use Rattle.jp_query.specs.Fitting.{IsCellAt, IsRowFor}
use Rattle.jp_query.specs.Scopes.{Scope, visible_columns}
use Rattle.jp_tree.specs.declared.prepared.Block.{Block}
use Rattle.jp_tree.specs.declared.prepared.Prepared.{Prepared}
use Rattle.jp_tree.specs.BlockParts.{placeholders_named, HasRelation, IsBlockAt, Uses, IsOuterReference}

-- A relation whose presence a block asks for: one of a placeholder in its expressions, or one that a block that it uses asks
-- for, which belongs to none of its items.
pub data IsOuterPresence (prepared : Prepared) : ℕ → ℕ → Type 0 where
  named : {number rel : ℕ} (block : Block) (rels : ℕ) → IsBlockAt prepared number block → Contains (placeholders_named block) rels → Has rels rel
      → ¬ HasRelation block rel → IsOuterPresence prepared number rel
  passed_on : {number rel : ℕ} (block : Block) (inner : ℕ) → IsBlockAt prepared number block → Uses prepared block inner → IsOuterPresence prepared inner rel
      → ¬ HasRelation block rel → IsOuterPresence prepared number rel

-- A block sees the same cells of its outer references in both environments, and the same of these relations have a row. Only
-- relations below 64 are asked for.
pub record AreSeenAlike (prepared : Prepared) (number : ℕ) (env other : Env) : Type 0 where
  pub cells : (c : ColumnRef) → IsOuterReference prepared number c → IsSameCell env other c
  pub presence : (rel : ℕ) → rel < 64 → IsOuterPresence prepared number rel → is_some (env rel) ≡ is_some (other rel)

-- the cell of each outer reference of a block is NULL or of its type and within its bound
abbrev pub FitsOutside : Prepared → Scope → ℕ → Env → Type 0
FitsOutside prepared scope number env = (c : ColumnRef) → IsOuterReference prepared number c → IsCellAt scope env c

-- An environment that rows were put into: each relation has no row or one of its visible columns, or else what it had.
abbrev pub IsInside : Scope → Env → Env → Type 0
IsInside scope outer env = (rel : ℕ) → IsRowFor (visible_columns scope rel) (env rel) ⊎ (env rel ≡ outer rel)

-- a sublink is given the same rows by both lists
abbrev pub HasSameRows : (ℕ → List Row) → (ℕ → List Row) → Outer → Type 0
HasSameRows rows others sublink = rows sublink.number ≡ others sublink.number

-- an expression can be evaluated, with these rows for its sublinks
abbrev pub IsEvaluated : (ℕ → List Row) → Env → Expr → Type 0
IsEvaluated rows env e = CanEvaluate rows e env

-- a condition can be evaluated at a map of a run, and is boolean
pub record IsTested (run : Run) (m : Map) (e : Expr) : Type 0 where
  pub evaluated : CanEvaluate (run.sublinks (run.environment m)) e (run.environment m)
  pub boolean : IsBoolean e

abbrev pub HasPlaces : ℕ → Map → Type 0
HasPlaces n m = length m ≡ n
