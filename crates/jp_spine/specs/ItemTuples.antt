-- Rows for the items of a block that are the tuples of the items' trees.
use Rattle.std.specs.Prelude.{◌≡◌, ℕ, List, map, Some, slice_get}
use Rattle.std.specs.List.Sorted.{IsPermutation}
use Rattle.jp_query.specs.declared.JoinTree.{JoinTree}
use Rattle.jp_query.specs.declared.Query.{Query}
use Rattle.jp_query.specs.Meaning.{Row, Env, with_rows, tuples_of}
use Rattle.jp_problem.specs.Blocks.{item_rels}
use Rattle.jp_problem.specs.Shapes.{block_shape, items_in}
use Rattle.jp_framed.specs.Environments.{Setting, Sublinks, source_at}
use Rattle.jp_spine.specs.Written.{rels_of_number}

-- sublinks are evaluated in place, over the tables
abbrev pub in_place_over : (ℕ → List Row) → List (List Env) → Env → Setting
in_place_over tables sources outer = record { sources = sources; sublinks = Sublinks.in_place tables; outer = outer }

-- The rows of each item, seen at the item's relations, are as a bag the tuples of its tree: of a leaf the rows of its table
-- or of its query, of a Full join its tuples.
abbrev pub HoldItems : (ℕ → List Row) → Query → List (List Env) → Env → Type 0
HoldItems tables query sources outer =
    (i : ℕ) (tree : JoinTree) → slice_get (items_in (block_shape query)) i ≡ Some tree → IsPermutation (map (with_rows (rels_of_number (item_rels (block_shape query)) i) outer) (source_at sources i)) ((tuples_of tables tree).tuples outer)

abbrev pub tuples_in : (ℕ → List Row) → Env → JoinTree → List Env
tuples_in tables outer tree = (tuples_of tables tree).tuples outer
