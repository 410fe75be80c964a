-- What the blocks of a statement are made of, by their numbers.
use Rattle.std.specs.Prelude.{◌≡◌, ℕ, ◌<◌, ◌⊎◌, List, ◌++◌, All, Contains, Option, Some, None, slice_get}
use Rattle.std.specs.List.{flat_map}
use Rattle.jp_query.specs.declared.JoinTree.{JoinTree}
use Rattle.jp_query.specs.declared.Query.{Query}
use Rattle.jp_query.specs.Outermost.{Outer, outermost}
use Rattle.jp_problem.specs.Blocks.{block_exprs}
use Rattle.jp_problem.specs.InnerBlocks.{blocks_of_item, exprs_of_item}
use Rattle.jp_problem.specs.Shapes.{block_shape, items_in}

-- a query and, where it is that of a sublink, the sublink's number
pub record Source : Type 0 where
  pub query : Query
  pub sub : Option ℕ

abbrev pub IsSourceAt : List Source → ℕ → Source → Type 0
IsSourceAt sources number source = slice_get sources number ≡ Some source

abbrev pub items_of_block : Query → List JoinTree
items_of_block query = items_in (block_shape query)

-- the sub-selects and the sides of Full joins that are items of the block
abbrev pub queries_of_items : Query → List Query
queries_of_items query = flat_map blocks_of_item (items_of_block query)

-- the sublinks of the block that stand in no other sublink's query
abbrev pub sublinks_of_block : Query → List Outer
sublinks_of_block query = flat_map outermost (block_exprs query ++ flat_map exprs_of_item (items_of_block query))

abbrev pub of_item : Query → Source
of_item query = record { query = query; sub = None }

abbrev pub of_sublink : Outer → Source
of_sublink sublink = record { query = sublink.query; sub = Some sublink.number }

-- a block of this source stands behind the number
abbrev pub HasBehind : List Source → ℕ → Source → Type 0
HasBehind sources number source = (place : ℕ) × (number < place) × IsSourceAt sources place source

-- the block at the first source uses the one at the second
abbrev pub IsUsedBy : Query → Source → Type 0
IsUsedBy query inner = ((q : Query) × Contains (queries_of_items query) q × (inner ≡ of_item q)) ⊎ ((s : Outer) × Contains (sublinks_of_block query) s × (inner ≡ of_sublink s))

-- The blocks of a query: itself as block 0, and behind each block those of its items and of its sublinks. There are no
-- others, and copies of one sublink share one block.
pub record AreSources (query : Query) (sources : List Source) : Type 0 where
  pub statement : IsSourceAt sources 0 (record { query = query; sub = None })
  pub items : (number : ℕ) (source : Source) → IsSourceAt sources number source → All (λ q. HasBehind sources number (of_item q)) (queries_of_items source.query)
  pub sublinks : (number : ℕ) (source : Source) → IsSourceAt sources number source → All (λ s. HasBehind sources number (of_sublink s)) (sublinks_of_block source.query)
  pub used : (number : ℕ) (source : Source) → 0 < number → IsSourceAt sources number source
      → (outer : ℕ) × (by : Source) × (outer < number) × IsSourceAt sources outer by × IsUsedBy by.query source
  pub one : (m n sub : ℕ) (a b : Source) → IsSourceAt sources m a → IsSourceAt sources n b → a.sub ≡ Some sub → b.sub ≡ Some sub → m ≡ n
