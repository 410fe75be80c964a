-- The shape of a block's tree: its items, its special joins and the places of its conditions. Inner joins and FROM lists
-- are alike in it: trees beside each other, and conditions over them.
use Rattle.std.specs.Prelude.{ℕ, ◌+◌, suc, List, [], ◌∷◌, ◌++◌, map, fold}
use Rattle.jp_query.specs.declared.JoinKind.{JoinKind}
use Rattle.jp_query.specs.declared.JoinKind.TheVariants as join
use Rattle.jp_query.specs.declared.Expr.TheFolds.{map-JoinTree, para-JoinTree}
use Rattle.jp_query.specs.declared.Expr.TheViews.{roll-JoinTree}
use Rattle.jp_query.specs.declared.Query.{out-Query}
use Rattle.jp_query.specs.declared.Expr.{Expr}
use Rattle.jp_query.specs.declared.JoinTree.{JoinTree}
use Rattle.jp_query.specs.declared.Order.{Order}
use Rattle.jp_query.specs.declared.Output.{Output}
use Rattle.jp_query.specs.declared.Query.{Query}
use Rattle.jp_query.specs.declared.Expr.TheOpen.{JoinTree-F}

pub data Shape : Type 0 where
  -- no tree, to which the members of a FROM list are added
  nothing : Shape
  -- a leaf, or a Full join, which is one item and isn't entered
  item : JoinTree → Shape
  -- the left tree, then the right one
  beside : Shape → Shape → Shape
  -- conditions of an Inner join or a FROM list, over its trees
  filtered : Shape → List Expr → Shape
  -- a Left, Semi or Anti join with its ON list as it is written
  special : JoinKind → Shape → Shape → List Expr → Shape

-- ---- the shape of a tree

abbrev pub Level : Type 0
Level = JoinTree-F (Expr × Unit {0}) (JoinTree × Shape) (Order × Unit {0}) (Output × Unit {0}) (Query × Unit {0})

abbrev pub tree_here : Level → JoinTree
tree_here t = roll-JoinTree (map-JoinTree (Expr × Unit {0}) (JoinTree × Shape) (Order × Unit {0}) (Output × Unit {0}) (Query × Unit {0}) Expr JoinTree Order Output Query (λ e. e.0) (λ t. t.0) (λ o. o.0) (λ u. u.0) (λ q. q.0) t)

abbrev pub shape_beside : JoinTree × Shape → Shape
shape_beside part = part.1

abbrev pub expr_beside : Expr × Unit {0} → Expr
expr_beside part = part.0

-- from left to right
abbrev pub together : List Shape → Shape
together = fold beside nothing

-- A Right join has no place here: blocks are made of queries without one.
abbrev pub joined : JoinKind → JoinTree → Shape → Shape → List Expr → Shape
joined join.Inner tree left right on = filtered (beside left right) on
joined join.Full tree left right on = item tree
joined kind tree left right on = special kind left right on

abbrev pub tree_shape : Level → Shape
tree_shape (JoinTree-F.Join kind left right on) = joined kind (tree_here (JoinTree-F.Join kind left right on)) left.1 right.1 (map expr_beside on)
tree_shape (JoinTree-F.From members conds) = filtered (together (map shape_beside members)) (map expr_beside conds)
tree_shape t = item (tree_here t)

abbrev pub shape_of : JoinTree → Shape
shape_of = para-JoinTree (Unit {0}) Shape (Unit {0}) (Unit {0}) (Unit {0}) (λ e. tt) tree_shape (λ o. tt) (λ u. tt) (λ q. tt)

-- the shape of a block: a select is read as a FROM list of its tree with its WHERE list
abbrev pub block_shape : Query → Shape
block_shape query = filtered (shape_of (out-Query query).tree) (out-Query query).conds

-- ---- what stands in a shape

-- the items, from left to right
abbrev pub items_in : Shape → List JoinTree
items_in nothing = []
items_in (item tree) = tree ∷ []
items_in (beside left right) = items_in left ++ items_in right
items_in (filtered shape conds) = items_in shape
items_in (special kind left right on) = items_in left ++ items_in right

abbrev pub count_joins : Shape → ℕ
count_joins nothing = 0
count_joins (item tree) = 0
count_joins (beside left right) = count_joins left + count_joins right
count_joins (filtered shape conds) = count_joins shape
count_joins (special kind left right on) = suc (count_joins left + count_joins right)

-- the expressions of its conditions and ON lists, in post-order of their places
abbrev pub exprs_in : Shape → List Expr
exprs_in nothing = []
exprs_in (item tree) = []
exprs_in (beside left right) = exprs_in left ++ exprs_in right
exprs_in (filtered shape conds) = exprs_in shape ++ conds
exprs_in (special kind left right on) = exprs_in left ++ exprs_in right ++ on
