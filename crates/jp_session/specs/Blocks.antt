-- The blocks that are made of a list of parts, each with its price, in the order of the list.
use Rattle.std.specs.Prelude.{◌≡◌, ℕ, ◌<◌, ◌≤◌, ◌^◌, All, nat_lt, length, List, [], Option, Some, None, slice_get, if◌then◌else◌}
use Rattle.jp_catalog.specs.Sound.{IsSound}
use Rattle.jp_catalog.specs.declared.types.Catalog.{Catalog}
use Rattle.jp_cost.specs.Estimates.{estimate}
use Rattle.jp_cost.specs.TreeCosts.{tree_cost}
use Rattle.jp_problem.specs.declared.types.Item.{Item}
use Rattle.jp_problem.specs.Made.{IsBlock}
use Rattle.jp_problem.specs.Problems.{items_of, problem_of}
use Rattle.jp_problem.specs.Trees.{Tree, IsPlan}
use Rattle.jp_query.specs.Conditions.{IsBounded as IsBoundedQuery, IsTyped}
use Rattle.jp_query.specs.Freshness.{IsFresh}
use Rattle.jp_query.specs.NoRight.{HasNoRight}
use Rattle.jp_query.specs.declared.Query.{Query, out-Query}
use Rattle.jp_resolution.specs.Schemas.{schema_of}
use Rattle.jp_search.specs.TreeOrder.{ComesBefore}
use Rattle.jp_tree.specs.declared.pool.PlanNode.{PlanNode}
use Rattle.jp_tree.specs.declared.prepared.Block.{Block}
use Rattle.jp_tree.specs.Pools.{IsTreeOf}
use Rattle.jp_prepared.specs.Planned.{IsBlockFrom}
use Rattle.jp_prepared.specs.Sources.{Source, AreSources, IsSourceAt, items_of_block, queries_of_items}
use Rattle.jp_prepared.specs.Searched.{CanBeSearched}
use Rattle.jp_session.specs.declared.gathering.Entry.{Entry}
use Rattle.jp_session.specs.declared.prices.Price.{Price}
use Rattle.jp_session.specs.Found.{sources_of, source_of}
use Rattle.jp_session.specs.Items.{AreItems, HasTable, IsBounded, number_of}
use Rattle.jp_session.specs.Parts.{item_part}
use Rattle.jp_session.specs.Visits.{IsPut}

-- the block of a number, of those that are made so far: the last of so many is block 0
abbrev pub block_from_end : ℕ → List Block → ℕ → Option Block
block_from_end count blocks number = if nat_lt number count then slice_get blocks (number_of count number) else None

-- the first of the legal trees of all items
pub record HasFirst (nodes : List PlanNode) (block : Block) : Type 0 where
  pub tree : Tree
  pub is : IsTreeOf nodes block.plan tree
  pub plan : IsPlan block.problem tree
  pub first : (other : Tree) → IsPlan block.problem other → ¬ ComesBefore block.problem other tree

pub record HasPrice (nodes : List PlanNode) (block : Block) (price : Price) : Type 0 where
  pub rows : price.rows ≡ estimate block.problem (items_of block.problem)
  pub cost : (tree : Tree) → IsTreeOf nodes block.plan tree → price.cost ≡ tree_cost block.problem tree
  pub bounded : IsBounded price

-- the block of a part, from the prices of those that it uses
pub record IsPlanned (catalog : Catalog) (prices : List Price) (count : ℕ) (entry : Entry) (nodes : List PlanNode) (block : Block) (price : Price) : Type 0 where
  pub items : AreItems catalog prices count (items_of_block entry.part.query) entry.inner block.problem.items
  pub problem : block.problem ≡ problem_of block.problem.items entry.part.query
  pub plan : HasFirst nodes block
  pub columns : block.columns ≡ (out-Query entry.part.query).columns
  pub distinct : block.distinct ≡ (out-Query entry.part.query).distinct
  pub order : block.order ≡ (out-Query entry.part.query).order
  pub sub : block.sub ≡ entry.part.sub
  pub priced : HasPrice nodes block price

-- the first blocks of the list
pub record AreMade (catalog : Catalog) (entries : List Entry) (blocks : List Block) (prices : List Price) (nodes : List PlanNode) : Type 0 where
  pub few : length blocks ≤ length entries
  pub same : length prices ≡ length blocks
  pub are : (i : ℕ) (entry : Entry) (block : Block) → slice_get entries i ≡ Some entry → slice_get blocks i ≡ Some block
      → IsBlockFrom catalog (sources_of entries) (block_from_end (length entries) blocks) nodes (number_of (length entries) i) (source_of entry) block
  pub priced : (i : ℕ) (block : Block) (price : Price) → slice_get blocks i ≡ Some block → slice_get prices i ≡ Some price → HasPrice nodes block price

-- the list is that of a query that is typed, bounded and fresh, and has no Right join
pub record IsListOf (catalog : Catalog) (query : Query) (entries : List Entry) : Type 0 where
  pub put : IsPut [] (item_part query) entries
  pub sound : IsSound catalog
  pub typed : IsTyped (schema_of catalog) [] query
  pub bounded : IsBoundedQuery (schema_of catalog) [] query
  pub no_right : HasNoRight query
  pub fresh : IsFresh query

pub record IsList (catalog : Catalog) (entries : List Entry) : Type 0 where
  pub query : Query
  pub is : IsListOf catalog query entries

-- ---- what is asked of the parts from which a block is planned

pub record CanBePlanned (catalog : Catalog) (prices : List Price) (count : ℕ) (entry : Entry) : Type 0 where
  pub block : IsBlock entry.part.query
  pub tables : All (HasTable catalog) (items_of_block entry.part.query)
  pub places : length entry.inner ≡ length (queries_of_items entry.part.query)
  pub there : All (λ place. place < length prices) entry.inner
  pub more : length prices < count
  pub few : count ≤ 2 ^ 32
  pub bounded : All IsBounded prices
  pub can : (items : List Item) → AreItems catalog prices count (items_of_block entry.part.query) entry.inner items → CanBeSearched entry.part.query items

-- ---- the blocks by their numbers

-- the blocks of a query without a Right join, with their plans
pub record IsBlockList (catalog : Catalog) (query : Query) (blocks : List Block) (nodes : List PlanNode) : Type 0 where
  pub sources : List Source
  pub are : AreSources query sources
  pub count : length blocks ≡ length sources
  pub each : (number : ℕ) (source : Source) (block : Block) → IsSourceAt sources number source → slice_get blocks number ≡ Some block → IsBlockFrom catalog sources (slice_get blocks) nodes number source block
