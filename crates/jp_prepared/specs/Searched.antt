-- What is asked of the blocks of a statement while they are made, and that the next one can be searched.
use Rattle.std.specs.Prelude.{◌≡◌, ℕ, ◌<◌, List, Option, Some}
use Rattle.jp_catalog.specs.declared.types.Catalog.{Catalog}
use Rattle.jp_query.specs.declared.Query.{Query}
use Rattle.jp_problem.specs.declared.types.Item.{Item}
use Rattle.jp_problem.specs.Made.{IsBlock, IsMade, IsSearchable}
use Rattle.jp_problem.specs.Problems.{AreItemsOf, problem_of}
use Rattle.jp_tree.specs.declared.pool.PlanNode.{PlanNode}
use Rattle.jp_tree.specs.declared.prepared.Block.{Block}
use Rattle.jp_prepared.specs.Planned.{IsBlockFrom}
use Rattle.jp_prepared.specs.Sources.{Source, IsSourceAt}

-- the blocks behind this number are made
abbrev pub AreMadeBehind : Catalog → List Source → (ℕ → Option Block) → List PlanNode → ℕ → Type 0
AreMadeBehind catalog sources block_at nodes number =
    (place : ℕ) (source : Source) (block : Block) → number < place → IsSourceAt sources place source → block_at place ≡ Some block → IsBlockFrom catalog sources block_at nodes place source block

-- the problem of the query with these items is one that the search takes
pub record CanBeSearched (query : Query) (items : List Item) : Type 0 where
  pub block : IsBlock query
  pub are : AreItemsOf query items
  pub made : IsMade (problem_of items query)
  pub searchable : IsSearchable (problem_of items query)
