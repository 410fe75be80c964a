-- What the code of folding makes: literals by arithmetic in 128 bits, with the type that the operator gives. It is what folding
-- is, for a typed and bounded query.
use Rattle.std.specs.Prelude.{Bool, true, false, List, [], ◌∷◌}
use Rattle.std.specs.List.{list_any}
use Rattle.jp_base.specs.declared.values.Ty.{Ty}
use Rattle.jp_base.specs.declared.values.Ty.TheVariants as ty
use Rattle.jp_query.specs.declared.Expr.{Expr, out-Expr}
use Rattle.jp_query.specs.declared.JoinKind.{JoinKind}
use Rattle.jp_query.specs.declared.JoinKind.TheVariants as join
use Rattle.jp_query.specs.declared.JoinTree.{JoinTree}
use Rattle.jp_query.specs.declared.JoinTree.TheVariants as tree
use Rattle.jp_query.specs.declared.Order.{Order}
use Rattle.jp_query.specs.declared.Output.{Output}
use Rattle.jp_query.specs.declared.Query.{Query}
use Rattle.jp_query.specs.declared.Expr.TheOpen.{Expr-F}
use Rattle.jp_query.specs.declared.Expr.TheViews.{roll-Expr, roll-Order, roll-Output}
use Rattle.jp_query.specs.declared.Expr.TheFolds.{fold-Expr, fold-JoinTree, fold-Order, fold-Output, fold-Query, map-Expr}
use Rattle.jp_query.specs.Layers.{ExprLayer}
use Rattle.jp_query.specs.Parts.{parts}
use Rattle.jp_query.specs.Meaning.{no_tables, no_outer_rows}
use Rattle.jp_eval.specs.Computed as evaluation
use Rattle.jp_folding.specs.Folding.{literal, is_null, has_literals_alone, if_made, strict_by, expr_by, conditions_by, tree_by, query_by}

abbrev pub type_of_level : ExprLayer → Ty
type_of_level (Expr-F.Lit v t) = t
type_of_level x = ty.Text

abbrev pub type_of_literal : Expr → Ty
type_of_literal e = type_of_level (out-Expr e)

abbrev pub type_of_first : List Expr → Ty
type_of_first [] = ty.Text
type_of_first (e ∷ es) = type_of_literal e

abbrev pub type_of_arm : List (Expr × Expr) → Ty
type_of_arm [] = ty.Text
type_of_arm (arm ∷ arms) = type_of_literal arm.1

-- the type of an operator of literals
abbrev pub kind_type : ExprLayer → Ty
kind_type (Expr-F.Neg operand) = ty.Number
kind_type (Expr-F.Sum terms) = ty.Number
kind_type (Expr-F.Product factors) = ty.Number
kind_type (Expr-F.Concat pieces) = ty.Text
kind_type (Expr-F.Coalesce members) = type_of_first members
kind_type (Expr-F.Case operand arms otherwise) = type_of_arm arms
kind_type x = ty.Boolean

abbrev pub made : ExprLayer → Expr
made x = literal (evaluation.computed no_tables (roll-Expr x) no_outer_rows) (kind_type x)

abbrev pub expr_step : ExprLayer → Expr
expr_step = expr_by made kind_type

unfoldable pub conditions_made : List Expr → List Expr
conditions_made = conditions_by made kind_type

unfoldable pub expr_made : Expr → Expr
expr_made = fold-Expr Expr JoinTree Order Output Query (expr_by made kind_type) (tree_by made kind_type) roll-Order roll-Output (query_by made kind_type)

unfoldable pub tree_made : JoinTree → JoinTree
tree_made = fold-JoinTree Expr JoinTree Order Output Query (expr_by made kind_type) (tree_by made kind_type) roll-Order roll-Output (query_by made kind_type)

unfoldable pub order_made : Order → Order
order_made = fold-Order Expr JoinTree Order Output Query (expr_by made kind_type) (tree_by made kind_type) roll-Order roll-Output (query_by made kind_type)

unfoldable pub output_made : Output → Output
output_made = fold-Output Expr JoinTree Order Output Query (expr_by made kind_type) (tree_by made kind_type) roll-Order roll-Output (query_by made kind_type)

unfoldable pub query_made : Query → Query
query_made = fold-Query Expr JoinTree Order Output Query (expr_by made kind_type) (tree_by made kind_type) roll-Order roll-Output (query_by made kind_type)

-- ---- an expression whose parts are folded

unfoldable pub parts_made : Expr → Expr
parts_made e = roll-Expr (map-Expr Expr JoinTree Order Output Query Expr JoinTree Order Output Query expr_made tree_made order_made output_made query_made (out-Expr e))

abbrev pub has_literals : Expr → Bool
has_literals e = has_literals_alone (out-Expr e)

abbrev pub has_null : Expr → Bool
has_null e = list_any is_null (parts (out-Expr e))

unfoldable pub literal_made : Expr → Expr
literal_made e = made (out-Expr e)

-- an operator that is NULL where an operand is
unfoldable pub strict_made : Expr → Expr
strict_made e = strict_by made kind_type (out-Expr e)

unfoldable pub operator_made : Expr → Expr
operator_made e = if_made made (out-Expr e) (roll-Expr (out-Expr e))

unfoldable pub conjunction_made : List Expr → Expr
conjunction_made members = expr_step (Expr-F.And members)

unfoldable pub disjunction_made : List Expr → Expr
disjunction_made members = expr_step (Expr-F.Or members)

-- ---- members

abbrev pub term_made : Bool × Expr → Bool × Expr
term_made term = (term.0, expr_made term.1)

abbrev pub arm_made : Expr × Expr → Expr × Expr
arm_made arm = (expr_made arm.0, expr_made arm.1)

-- a Right join becomes a Left join with its sides exchanged
abbrev pub join_made : JoinKind → JoinTree → JoinTree → List Expr → JoinTree
join_made join.Right left right on = tree.Join join.Left right left on
join_made kind left right on = tree.Join kind left right on

-- the operators that are NULL where an operand is
abbrev pub is_strict_level : ExprLayer → Bool
is_strict_level (Expr-F.Neg operand) = true
is_strict_level (Expr-F.Sum terms) = true
is_strict_level (Expr-F.Product factors) = true
is_strict_level (Expr-F.Concat pieces) = true
is_strict_level (Expr-F.Compare op left right) = true
is_strict_level x = false

abbrev pub is_strict : Expr → Bool
is_strict e = is_strict_level (out-Expr e)
