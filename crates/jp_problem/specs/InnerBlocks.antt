-- The blocks of a query: itself, and those of its sub-select leaves, of the sides of its Full joins and of its sublinks, at
-- every depth.
use Rattle.std.specs.Prelude.{false, List, [], ◌∷◌, ◌++◌, map, Contains}
use Rattle.std.specs.List.{flat_map}
use Rattle.jp_query.specs.declared.Expr.{Expr}
use Rattle.jp_query.specs.declared.Expr.TheOpen.{JoinTree-F}
use Rattle.jp_query.specs.declared.Expr.TheViews.{roll-Query}
use Rattle.jp_query.specs.declared.JoinTree.{JoinTree, out-JoinTree}
use Rattle.jp_query.specs.declared.Query.{Query}
use Rattle.jp_query.specs.Layers.{JoinTreeLayer}
use Rattle.jp_query.specs.Outermost.{Outer, outermost}
use Rattle.jp_problem.specs.Shapes.{block_shape, items_in}
use Rattle.jp_problem.specs.Blocks.{block_exprs}

-- a side of a Full join is a block of that tree alone; its tuples are the item's
abbrev pub side_block : JoinTree → Query
side_block tree = roll-Query (record { columns = []; distinct = false; tree = tree; conds = []; order = [] })

-- of an item that is a sub-select or a Full join
abbrev pub blocks_at : JoinTreeLayer → List Query
blocks_at (JoinTree-F.Sub rel name query) = query ∷ []
blocks_at (JoinTree-F.Join kind left right on) = side_block left ∷ side_block right ∷ []
blocks_at _ = []

abbrev pub blocks_of_item : JoinTree → List Query
blocks_of_item tree = blocks_at (out-JoinTree tree)

-- the ON list of a Full join
abbrev pub exprs_at : JoinTreeLayer → List Expr
exprs_at (JoinTree-F.Join kind left right on) = on
exprs_at _ = []

abbrev pub exprs_of_item : JoinTree → List Expr
exprs_of_item tree = exprs_at (out-JoinTree tree)

abbrev pub query_of : Outer → Query
query_of sublink = sublink.query

abbrev pub sublink_queries : Expr → List Query
sublink_queries e = map query_of (outermost e)

-- the blocks that a block uses by itself
abbrev pub inner_blocks : Query → List Query
inner_blocks query =
    let items = items_in (block_shape query) in
    flat_map blocks_of_item items ++ flat_map sublink_queries (block_exprs query ++ flat_map exprs_of_item items)

pub data IsBlockOf (query : Query) : Query → Type 0 where
  itself : IsBlockOf query query
  inside : {block inner : Query} → IsBlockOf query block → Contains (inner_blocks block) inner → IsBlockOf query inner
