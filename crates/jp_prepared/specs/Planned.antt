-- The prepared statement of a query: its blocks, their problems, items and plans, and the printed names.
use Rattle.std.specs.Prelude.{◌≡◌, ℕ, ◌+◌, ◌*◌, ◌<◌, ◌≤◌, ◌^◌, length, List, [], Option, Some, slice_get}
use Rattle.std.specs.List.{AllZip}
use Rattle.jp_catalog.specs.declared.types.Catalog.{Catalog}
use Rattle.jp_catalog.specs.declared.types.TableDef.{TableDef}
use Rattle.jp_query.specs.declared.Expr.{Expr}
use Rattle.jp_query.specs.declared.JoinKind.{JoinKind}
use Rattle.jp_query.specs.declared.JoinTree.{JoinTree, out-JoinTree}
use Rattle.jp_query.specs.declared.Query.{Query, out-Query}
use Rattle.jp_query.specs.declared.Expr.TheOpen.{JoinTree-F}
use Rattle.jp_folding.specs.Folding.{folded}
use Rattle.jp_problem.specs.declared.types.Item.{Item}
use Rattle.jp_problem.specs.declared.types.ItemKind.TheVariants as kind
use Rattle.jp_problem.specs.Blocks.{known_rels}
use Rattle.jp_problem.specs.InnerBlocks.{side_block}
use Rattle.jp_problem.specs.Problems.{items_of, problem_of}
use Rattle.jp_problem.specs.Trees.{Tree, IsPlan}
use Rattle.jp_cost.specs.Estimates.{at_most, estimate}
use Rattle.jp_cost.specs.TreeCosts.{tree_cost}
use Rattle.jp_tree.specs.declared.pool.PlanNode.{PlanNode}
use Rattle.jp_tree.specs.declared.prepared.Block.{Block}
use Rattle.jp_tree.specs.declared.prepared.Prepared.{Prepared}
use Rattle.jp_tree.specs.Pools.{IsTreeOf}
use Rattle.jp_search.specs.TreeOrder.{ComesBefore}
use Rattle.jp_prepared.specs.Items.{distinct_of}
use Rattle.jp_prepared.specs.Names.{names_of}
use Rattle.jp_prepared.specs.Sources.{Source, AreSources, IsSourceAt, of_item}

-- The blocks are given by their numbers, so that the same words serve while they are made.
module _ (catalog : Catalog) (sources : List Source) (block_at : ℕ → Option Block) (nodes : List PlanNode) where
  -- the block of an item, with the tree of its plan
  pub record IsInner (number : ℕ) (query : Query) (inner : ℕ) (block : Block) (tree : Tree) : Type 0 where
    pub behind : number < inner
    pub source : IsSourceAt sources inner (of_item query)
    pub there : block_at inner ≡ Some block
    pub planned : IsTreeOf nodes block.plan tree

  -- the estimate of all that the block gives
  abbrev pub rows_of : Block → ℕ
  rows_of block = estimate block.problem (items_of block.problem)

  -- a table: its scan costs its rows
  abbrev pub table_item : JoinTree → ℕ → ℕ → TableDef → Item
  table_item leaf rel table def = record { kind = kind.Base rel table; rels = known_rels leaf; rows = def.rows; cost = def.rows; distinct = distinct_of def }

  -- a sub-select: its block is run, and its rows are scanned
  abbrev pub select_item : JoinTree → ℕ → ℕ → Block → Tree → Item
  select_item leaf rel inner block tree = record { kind = kind.Sub rel inner; rels = known_rels leaf; rows = rows_of block; cost = rows_of block + tree_cost block.problem tree; distinct = [] }

  -- a Full join: its sides are run, each row of the one is put beside each of the other, and its rows are scanned
  abbrev pub full_item : JoinTree → List Expr → ℕ → ℕ → Block → Block → Tree → Tree → Item
  full_item leaf on l r left right lt rt = record {
    kind = kind.Full l r on;
    rels = known_rels leaf;
    rows = at_most (rows_of left + rows_of right);
    cost = at_most (rows_of left + rows_of right) + (tree_cost left.problem lt + (tree_cost right.problem rt + rows_of left * rows_of right));
    distinct = [];
  }

  -- an item of the block of this number; the stated rows of a table have 32 bits, so they are no more than an estimate has
  pub data IsItem (number : ℕ) (leaf : JoinTree) (item : Item) : Type 0 where
    table : (rel table : ℕ) (name text : List ℕ) (def : TableDef) → out-JoinTree leaf ≡ JoinTree-F.Base rel name table → slice_get catalog.tables table ≡ Some (text, def) → def.rows ≤ 2 ^ 60
        → item ≡ table_item leaf rel table def → IsItem number leaf item
    select : (rel inner : ℕ) (name : List ℕ) (query : Query) (block : Block) (tree : Tree) → out-JoinTree leaf ≡ JoinTree-F.Sub rel name query
        → IsInner number query inner block tree → item ≡ select_item leaf rel inner block tree → IsItem number leaf item
    full : (kind : JoinKind) (left right : JoinTree) (on : List Expr) (l r : ℕ) (lb rb : Block) (lt rt : Tree) → out-JoinTree leaf ≡ JoinTree-F.Join kind left right on
        → IsInner number (side_block left) l lb lt → IsInner number (side_block right) r rb rt → item ≡ full_item leaf on l r lb rb lt rt → IsItem number leaf item

  -- the plan is the first of the legal trees of all items
  pub record HasFirstPlan (block : Block) : Type 0 where
    pub tree : Tree
    pub is : IsTreeOf nodes block.plan tree
    pub plan : IsPlan block.problem tree
    pub first : (other : Tree) → IsPlan block.problem other → ¬ ComesBefore block.problem other tree

  pub record IsBlockFrom (number : ℕ) (source : Source) (block : Block) : Type 0 where
    pub items : AllZip (IsItem number) (Rattle.jp_prepared.specs.Sources.items_of_block source.query) block.problem.items
    pub problem : block.problem ≡ problem_of block.problem.items source.query
    pub plan : HasFirstPlan block
    pub columns : block.columns ≡ (out-Query source.query).columns
    pub distinct : block.distinct ≡ (out-Query source.query).distinct
    pub order : block.order ≡ (out-Query source.query).order
    pub sub : block.sub ≡ source.sub

-- The prepared statement of a query, which is folded first; the names are those of the query as it is handed in.
pub record IsPrepared (catalog : Catalog) (query : Query) (prepared : Prepared) : Type 0 where
  pub sources : List Source
  pub are : AreSources (folded query) sources
  pub count : length prepared.blocks ≡ length sources
  pub blocks : (number : ℕ) (source : Source) (block : Block) → IsSourceAt sources number source → slice_get prepared.blocks number ≡ Some block
      → IsBlockFrom catalog sources (slice_get prepared.blocks) prepared.pool.nodes number source block
  pub names : prepared.names ≡ names_of catalog query
