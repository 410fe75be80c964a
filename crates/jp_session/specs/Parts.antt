-- The parts that a block uses, in the order in which they are found.
use Rattle.std.specs.Prelude.{ℕ, Bool, true, false, List, [], ◌++◌, map, Option, Some, None}
use Rattle.std.specs.List.{flat_map}
use Rattle.jp_query.specs.declared.Expr.{Expr}
use Rattle.jp_query.specs.declared.JoinKind.{JoinKind}
use Rattle.jp_query.specs.declared.JoinKind.TheVariants as join
use Rattle.jp_query.specs.declared.JoinTree.{JoinTree}
use Rattle.jp_query.specs.declared.Order.{Order}
use Rattle.jp_query.specs.declared.Output.{Output}
use Rattle.jp_query.specs.declared.Query.{Query, out-Query}
use Rattle.jp_query.specs.Outermost.{Outer, outermost}
use Rattle.jp_problem.specs.Blocks.{order_expr, output_expr}
use Rattle.jp_problem.specs.InnerBlocks.{blocks_of_item, exprs_of_item}
use Rattle.jp_problem.specs.Shapes.{Shape, exprs_in, items_in, shape_of}
use Rattle.jp_session.specs.declared.sources.Part.{Part}

abbrev pub is_full : JoinKind → Bool
is_full join.Full = true
is_full _ = false

abbrev pub item_part : Query → Part
item_part query = record { query = query; sub = None }

abbrev pub with_number : ℕ → Query → Part
with_number number query = record { query = query; sub = Some number }

abbrev pub sublink_part : Outer → Part
sublink_part sublink = with_number sublink.number sublink.query

-- the sublinks that stand in no other sublink's query
unfoldable pub sublink_parts : Expr → List Part
sublink_parts e = map sublink_part (outermost e)

abbrev pub term_parts : Bool × Expr → List Part
term_parts term = sublink_parts term.1

abbrev pub arm_parts_of : Expr × Expr → List Part
arm_parts_of arm = sublink_parts arm.0 ++ sublink_parts arm.1

abbrev pub option_parts : Option Expr → List Part
option_parts (Some e) = sublink_parts e
option_parts None = []

abbrev pub output_parts : Output → List Part
output_parts output = sublink_parts (output_expr output)

abbrev pub order_parts : Order → List Part
order_parts order = sublink_parts (order_expr order)

-- of an item: a sub-select, or the sides of a Full join and the sublinks of its ON list
abbrev pub parts_of_item : JoinTree → List Part
parts_of_item tree = map item_part (blocks_of_item tree) ++ flat_map sublink_parts (exprs_of_item tree)

unfoldable pub item_parts : Shape → List Part
item_parts shape = flat_map parts_of_item (items_in shape)

unfoldable pub condition_parts : Shape → List Part
condition_parts shape = flat_map sublink_parts (exprs_in shape)

unfoldable pub parts_of : Query → List Part
parts_of query =
    item_parts (shape_of (out-Query query).tree)
    ++ (condition_parts (shape_of (out-Query query).tree)
    ++ (flat_map sublink_parts (out-Query query).conds ++ (flat_map output_parts (out-Query query).columns ++ flat_map order_parts (out-Query query).order)))
