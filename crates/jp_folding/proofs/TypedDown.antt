-- That a tree is typed is handed down to its parts.
use Rattle.std.proofs.Common.{subst, Bool, IsSome}
use Rattle.jp_query.specs.declared.Expr.{Expr}
use Rattle.jp_query.specs.declared.JoinTree.{JoinTree}
use Rattle.jp_query.specs.declared.Order.{Order}
use Rattle.jp_query.specs.declared.Output.{Output}
use Rattle.jp_query.specs.declared.Query.{Query}
use Rattle.jp_query.specs.declared.Expr.TheFolds.{map-Expr, map-JoinTree, map-Query, fold-roll-Expr, fold-roll-JoinTree, fold-roll-Order, fold-roll-Output, fold-roll-Query}
use Rattle.jp_query.specs.Layers.{JoinTreeLayer, QueryLayer}
use Rattle.jp_query.specs.Parts.{option_part, parts, sublink_query, trees, conditions, leaf_query}
use Rattle.jp_query.specs.Typing.{Typed, TypedOutput, TypedQuery, expr_type, tree_typed, order_typed, output_typed, query_typed, type_of, tree_is_typed, typed_query}
use Rattle.jp_induction.specs.HandedDown.{HandsDown}
use Rattle.jp_laws.proofs.EachPart.{Each, each_mapped, parts_map, sublink_map, trees_map, conditions_map, leaf_map}
use Rattle.jp_laws.proofs.GatheredLaws.{IsTypedInner, IsTrueTree, IsTypedColumn, parts_typed, trees_typed, query_parts, typed_order, typed_output, of_is_some}

abbrev pub IsTypedExprAt : Unit {0} → Expr → Type 0
IsTypedExprAt s x = IsSome (type_of x)

abbrev pub IsTypedTreeAt : Unit {0} → JoinTree → Type 0
IsTypedTreeAt s x = IsTrueTree (tree_is_typed x)

abbrev pub IsTypedOrderAt : Unit {0} → Order → Type 0
IsTypedOrderAt s x = IsSome (typed_order x)

abbrev pub IsTypedOutputAt : Unit {0} → Output → Type 0
IsTypedOutputAt s x = IsTypedColumn (typed_output x)

abbrev pub IsTypedQueryAt : Unit {0} → Query → Type 0
IsTypedQueryAt s x = IsTypedInner (typed_query x)

abbrev pub same_place : Unit {0} → JoinTreeLayer → Unit {0}
same_place s x = s

abbrev pub place_above : Unit {0} → QueryLayer → Unit {0}
place_above s x = s

pub typed_down : HandsDown (Unit {0}) same_place place_above IsTypedExprAt IsTypedTreeAt IsTypedOrderAt IsTypedOutputAt IsTypedQueryAt
typed_down = record {
  expr = λ s x c.
      let typed = parts_typed (map-Expr Expr JoinTree Order Output Query Typed Bool Typed TypedOutput TypedQuery type_of tree_is_typed typed_order typed_output typed_query x) (subst IsSome (fold-roll-Expr Typed Bool Typed TypedOutput TypedQuery expr_type tree_typed order_typed output_typed query_typed x) c) in (
        each_mapped IsSome type_of (parts x) (subst (Each IsSome) (parts_map type_of tree_is_typed typed_order typed_output typed_query x) typed.0),
        each_mapped IsTypedInner typed_query (option_part (sublink_query x)) (subst (Each IsTypedInner) (sublink_map type_of tree_is_typed typed_order typed_output typed_query x) typed.1),
      );
  tree = λ s x c.
      let typed = trees_typed (map-JoinTree Expr JoinTree Order Output Query Typed Bool Typed TypedOutput TypedQuery type_of tree_is_typed typed_order typed_output typed_query x) (subst IsTrueTree (fold-roll-JoinTree Typed Bool Typed TypedOutput TypedQuery expr_type tree_typed order_typed output_typed query_typed x) c) in (
        each_mapped IsTrueTree tree_is_typed (trees x) (subst (Each IsTrueTree) (trees_map type_of tree_is_typed typed_order typed_output typed_query x) typed.0),
        each_mapped IsSome type_of (conditions x) (subst (Each IsSome) (conditions_map type_of tree_is_typed typed_order typed_output typed_query x) typed.1),
        each_mapped IsTypedInner typed_query (option_part (leaf_query x)) (subst (Each IsTypedInner) (leaf_map type_of tree_is_typed typed_order typed_output typed_query x) typed.2),
      );
  order = λ s x c. subst IsSome (fold-roll-Order Typed Bool Typed TypedOutput TypedQuery expr_type tree_typed order_typed output_typed query_typed x) c;
  output = λ s x c. of_is_some x.ty (type_of x.expr) (subst IsTypedColumn (fold-roll-Output Typed Bool Typed TypedOutput TypedQuery expr_type tree_typed order_typed output_typed query_typed x) c);
  query = λ s x c.
      let typed = query_parts (map-Query Expr JoinTree Order Output Query Typed Bool Typed TypedOutput TypedQuery type_of tree_is_typed typed_order typed_output typed_query x) (subst IsTypedInner (fold-roll-Query Typed Bool Typed TypedOutput TypedQuery expr_type tree_typed order_typed output_typed query_typed x) c) in (
        each_mapped IsTypedColumn typed_output x.columns typed.columns,
        typed.tree,
        each_mapped IsSome type_of x.conds typed.conds,
        each_mapped IsSome typed_order x.order typed.order,
      );
}
